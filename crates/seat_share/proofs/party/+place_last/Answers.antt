use Rattle.std.proofs.Common.{refl, arith}
use Rattle.std.proofs.lemmas.Grind.{common_steps}
use Rattle.seat_share.proofs.ChoiceSteps.{first-of_empty, placed-with_more, placed-without}
use Rattle.seat_share.proofs.party.+place_last.Goals.{else-first-via-then-first+else-left-gt0, else-first-via-else-first}
use Rattle.seat_share.proofs.party.+place_last.Goals as goal

pub returns-in_default-clause-first : goal.returns-in_default-clause-first
returns-in_default-clause-first t c = first-of_empty c.args.parties.now c.args.more c.in_default.ensures.cases

pub returns-then-left-gt0-clause-first : goal.returns-then-left-gt0-clause-first
returns-then-left-gt0-clause-first t c =
    placed-with_more _ c.in-Some.first.now c.in-Some.rest.now c.place_last-left.new.parties c.args.parties.now c.args.more c.place_last-left.result
    c.in-Some.ensures.cases.0 refl c.if-first.true refl c.if-left-gt0.true c.place_last-left.ensures.left c.place_last-left.ensures.first

pub returns-else-first-clause-first : goal.returns-else-first-clause-first
returns-else-first-clause-first t c =
    placed-without _ c.in-Some.first.now c.in-Some.rest.now c.place_last-left.new.parties c.args.parties.now c.args.more c.place_last-left.result
    c.in-Some.ensures.cases.0 refl refl refl
    (λ h. elim c.else-first.branch [
      | else-first-via-then-first+else-left-gt0 w ↦ grind (arith, w.if-left-gt0.false)
      | else-first-via-else-first w ↦ grind (arith, h, w.if-first.false)
    ]) c.place_last-left.ensures.same c.place_last-left.ensures.placed c.place_last-left.ensures.first

pub returns-then-left-gt0-clause-left : goal.returns-then-left-gt0-clause-left
returns-then-left-gt0-clause-left t c = grind (arith, common_steps)

pub returns-then-left-gt0-clause-placed : goal.returns-then-left-gt0-clause-placed
returns-then-left-gt0-clause-placed t c = grind (arith, common_steps)

pub returns-else-first-clause-left : goal.returns-else-first-clause-left
returns-else-first-clause-left t c = grind (arith, common_steps)
