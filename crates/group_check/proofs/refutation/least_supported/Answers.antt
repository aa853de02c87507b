use Rattle.std.proofs.Common.{not, sym, ap, ◌∙◌}
use Rattle.ballot_base.specs.CandSet.{has_member}
use Rattle.ballot_base.proofs.Increasing.{has_member_head}
use Rattle.ballot_base.proofs.Passed.{filter-member}
use Rattle.group_check.proofs.refutation.least_supported.Goals as goal

pub returns : goal.returns
returns c =
    let n = c.in_ok-candidate.candidate in
    filter-member (λ x. not (has_member c.at_least-others.result x)) c.args.candidates n
    (ap (λ set. has_member set n) (sym c.minus.ensures ∙ c.in_ok-candidate.ensures) ∙ has_member_head n c.in_ok-candidate._equals)
