use Rattle.std.proofs.Common.{not}
use Rattle.ballot_base.specs.CandSet.{has_member}
use Rattle.ballot_base.proofs.Passed.{filter-member}
use Rattle.group_check.proofs.refutation.disputed_candidates.Goals as goal

pub returns-then-len-choices-clause-among : goal.returns-then-len-choices-clause-among
returns-then-len-choices-clause-among c n here =
    filter-member (λ x. not (has_member c.at_least-common.result x)) c.args.choices.now.pool n (rw c.minus.ensures at here)
