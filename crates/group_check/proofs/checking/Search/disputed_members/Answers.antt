use Rattle.std.specs.Prelude.{nat_le, slice_index}
use Rattle.ballot_base.proofs.Passed.{filter-member}
use Rattle.group_check.proofs.checking.Search.disputed_members.Goals as goal

pub returns-then-len-choices : goal.returns-then-len-choices
returns-then-len-choices g c n here =
    filter-member (λ x. nat_le 1 (slice_index c.args.supporters.now x)) c.args.choices.now.members n (rw c.at_least-approved.ensures at here)
