use Rattle.std.proofs.Common.{refl, arith, ◌∙◌}
use Rattle.std.proofs.lemmas.Grind.{common_steps}
use Rattle.std.proofs.lemmas.List.Sums.{sum_by_from}
use Rattle.seat_share.specs.declared.party.Party.{Party}
use Rattle.seat_share.proofs.ChoiceSteps.{last-of_empty, stepped, stopped, none-left, counted, moved}
use Rattle.seat_share.proofs.party.+advance.Goals.{then-first-via-then-first, then-first-via-else-first+then-not-first, then-first-via-else-first+else-not-first+then-more-eq0}
use Rattle.seat_share.proofs.party.+advance.Goals as goal

pub returns-in_default-clause-last : goal.returns-in_default-clause-last
returns-in_default-clause-last t c = λ h. last-of_empty c.args.parties.now c.in_default.ensures.cases

pub returns-then-advance-clause-next : goal.returns-then-advance-clause-next
returns-then-advance-clause-next t c = λ h.
    stepped c.in-Some.first.now c.in-Some.rest.now c.advance.new.parties c.args.parties.now c.in-Some.ensures.cases.0 c.advance.ensures.same c.advance.ensures.count
    (c.advance.ensures.next c.if-advance.true)

pub returns-then-first-clause-last : goal.returns-then-first-clause-last
returns-then-first-clause-last t c = λ h.
    stopped c.in-Some.first.now c.in-Some.rest.now c.args.parties.now c.in-Some.ensures.cases.0
    (λ bare tied. elim c.then-first.branch [
      | then-first-via-then-first w ↦ grind (arith, w.if-first.true, bare)
      | then-first-via-else-first+then-not-first w ↦ grind (arith, w.if-not-first.true, tied)
      | then-first-via-else-first+else-not-first+then-more-eq0 w ↦ grind (arith, w.if-more-eq0.true, c.count_more-more.ensures, c.advance.ensures.count)
    ]) (c.advance.ensures.last c.if-advance.false)

pub returns-clause-count : goal.returns-clause-count
returns-clause-count t c =
    sum_by_from (λ (d : Party). Rattle.std.proofs.Common.cond d.has_more 1 0) 1 c.place_last.new.parties
    ∙ counted c.in-Some.first.now c.in-Some.rest.now c.advance.new.parties c.place_last.new.parties c.args.parties.now c.count_more-more.result c.place_last.result c.in-Some.ensures.cases.0
    c.if-first.false c.count_more-more.ensures c.advance.ensures.count (omega (arith, c.if-more-eq0.false))
    (none-left c.advance.new.parties c.count_more-more.result c.place_last.result c.advance.ensures.tied c.count_more-more.ensures c.place_last.ensures.left) c.place_last.ensures.placed

pub returns-clause-next : goal.returns-clause-next
returns-clause-next t c = λ h.
    moved c.in-Some.first.now _ c.in-Some.rest.now c.advance.new.parties c.place_last.new.parties c.args.parties.now c.count_more-more.result c.place_last.result c.in-Some.ensures.cases.0
    c.if-first.false (grind (arith, c.if-not-first.false)) refl refl c.advance.ensures.same c.count_more-more.ensures c.advance.ensures.count (omega (arith, c.if-more-eq0.false))
    (none-left c.advance.new.parties c.count_more-more.result c.place_last.result c.advance.ensures.tied c.count_more-more.ensures c.place_last.ensures.left)
    (c.advance.ensures.last c.if-advance.false) c.place_last.ensures.first

pub returns-then-advance-clause-count : goal.returns-then-advance-clause-count
returns-then-advance-clause-count t c = grind (arith, common_steps)

pub returns-then-first-clause-count : goal.returns-then-first-clause-count
returns-then-first-clause-count t c = grind (arith, common_steps)
