use Rattle.std.proofs.Common.{ap, sym, ◌∙◌, length}
use Rattle.std.specs.Prelude.{nat_lt}
use Rattle.ballot_base.specs.CandSet.{includes}
use Rattle.group_check.proofs.SetLemmas.{length-common_members}
use Rattle.group_check.proofs.PropertyLemmas.{fits_by_hits, fits_by_members}
use Rattle.group_check.proofs.property.Violation.contains.Goals as goal
use Rattle.group_check.proofs.property.Violation.contains.Goals.{in-Jr, in-Pjr}

pub returns-then-includes : goal.returns-then-includes
returns-then-includes c =
    let v = c.args.self.now in
    let inside = sym c.includes.ensures ∙ c.if-includes.true in
    elim c.match-self.branch [
      | in-Jr w ↦
          let count = w.len.ensures.count ∙ ap length c.common-approved.ensures ∙ length-common_members c.args.ballot v.committee in
          fits_by_hits v.property v.committee v.level v.shared v.within c.args.ballot c.match-self.is_below w.in-Jr.is inside (w.is_below-is ∙ ap (λ n. nat_lt n v.level) count)
      | in-Pjr w ↦
          fits_by_members v.property v.committee v.level v.shared v.within c.args.ballot c.match-self.is_below w.in-Pjr.is inside
          (w.is_below-is ∙ w.includes-is_below.ensures ∙ ap (includes v.within) c.common-approved.ensures)
    ]
