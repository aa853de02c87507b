use Rattle.std.proofs.Common.{refl, arith, cond, ◌∙◌}
use Rattle.std.proofs.lemmas.Grind.{common_steps}
use Rattle.std.proofs.lemmas.List.Sums.{sum_by_from}
use Rattle.seat_share.specs.declared.party.Party.{Party}
use Rattle.seat_share.proofs.LaterChoices.{none-of_empty, none-of_few, placed-above, none-above, placed-with_more, placed-same, none-same, placed-raised, count-raised}
use Rattle.seat_share.proofs.party.+place_after.Goals.{then-not-first-via-then-not-first, then-not-first-via-else-not-first+then-more-eq0, then-not-first-via-else-not-first+else-more-eq0+then-seats-first-gt1, then-not-first-2-via-then-not-first-2, then-not-first-2-via-else-not-first-2+then-more-eq0-2}
use Rattle.seat_share.proofs.party.+place_after.Goals as goal

pub returns-in_default-clause-later : goal.returns-in_default-clause-later
returns-in_default-clause-later t c = none-of_empty c.args.parties.now c.args.start.now c.args.more c.in_default.ensures.cases c.requires.long

pub returns-then-more-tied-clause-later : goal.returns-then-more-tied-clause-later
returns-then-more-tied-clause-later t c = none-of_few c.args.parties.now c.args.start.now c.args.tied c.args.more c.requires.count c.if-more-tied.true

pub returns-then-first-seats-clause-later : goal.returns-then-first-seats-clause-later
returns-then-first-seats-clause-later t c =
    placed-above c.in-Some-split_first_mut.first.now c.in-Some-split_first_mut.rest.now c.args.parties.now c.in-Some.seats.now c.in-Some.others.now c.args.start.now
    c.in-Some-split_first_mut.ensures.cases.0 c.in-Some.ensures.cases.0 c.requires.long c.place_last.new.parties c.args.tied c.args.more c.place_last.result
    c.if-first-seats.true c.requires.count c.if-more-tied.false c.place_last.ensures.left c.place_last.ensures.first

pub returns-then-not-first-clause-later : goal.returns-then-not-first-clause-later
returns-then-not-first-clause-later t c =
    none-above c.in-Some-split_first_mut.first.now c.in-Some-split_first_mut.rest.now c.args.parties.now c.in-Some.seats.now c.in-Some.others.now c.args.start.now
    c.in-Some-split_first_mut.ensures.cases.0 c.in-Some.ensures.cases.0 c.requires.long c.args.more c.if-first-seats-2.true
    (λ tied some. elim c.then-not-first.branch [
      | then-not-first-via-then-not-first w ↦ grind (arith, w.if-not-first.true, tied)
      | then-not-first-via-else-not-first+then-more-eq0 w ↦ omega (arith, w.if-more-eq0.true, some)
      | then-not-first-via-else-not-first+else-more-eq0+then-seats-first-gt1 w ↦ omega (arith, w.if-seats-first-gt1.true)
    ])

pub returns-then-first-seats-2-clause-later : goal.returns-then-first-seats-2-clause-later
returns-then-first-seats-2-clause-later t c =
    placed-with_more c.in-Some-split_first_mut.first.now c.in-Some-split_first_mut.rest.now c.args.parties.now c.in-Some.seats.now c.in-Some.others.now c.args.start.now
    c.in-Some-split_first_mut.ensures.cases.0 c.in-Some.ensures.cases.0 c.requires.long _ c.place_after.new.parties c.args.more c.place_after.result
    refl refl (grind (arith, c.if-not-first.false)) c.if-first-seats-2.true (omega (arith, c.if-seats-first-gt1.false)) (omega (arith, c.if-more-eq0.false)) c.place_after.ensures.later

pub returns-then-place_after-clause-later : goal.returns-then-place_after-clause-later
returns-then-place_after-clause-later t c =
    placed-same c.in-Some-split_first_mut.first.now c.in-Some-split_first_mut.rest.now c.args.parties.now c.in-Some.seats.now c.in-Some.others.now c.args.start.now
    c.in-Some-split_first_mut.ensures.cases.0 c.in-Some.ensures.cases.0 c.requires.long _ c.place_after-2.new.parties c.args.more
    refl refl refl (omega (arith, c.if-first-seats.false, c.if-first-seats-2.false)) c.if-place_after.ensures.same (c.if-place_after.ensures.count refl) c.if-place_after.ensures.later

pub returns-then-not-first-2-clause-later : goal.returns-then-not-first-2-clause-later
returns-then-not-first-2-clause-later t c =
    none-same c.in-Some-split_first_mut.first.now c.in-Some-split_first_mut.rest.now c.args.parties.now c.in-Some.seats.now c.in-Some.others.now c.args.start.now
    c.in-Some-split_first_mut.ensures.cases.0 c.in-Some.ensures.cases.0 c.requires.long c.args.more (omega (arith, c.if-first-seats.false, c.if-first-seats-2.false))
    (λ tied. elim c.then-not-first-2.branch [
      | then-not-first-2-via-then-not-first-2 w ↦ grind (arith, w.if-not-first-2.true, tied)
      | then-not-first-2-via-else-not-first-2+then-more-eq0-2 w ↦ w.if-more-eq0-2.true
    ]) c.if-place_after.ensures.later

pub returns-clause-count : goal.returns-clause-count
returns-clause-count t c = λ h.
    sum_by_from (λ (d : Party). cond d.has_more 1 0) 1 c.place_last-2.new.parties
    ∙ count-raised c.in-Some-split_first_mut.first.now c.in-Some-split_first_mut.rest.now c.args.parties.now c.in-Some.seats.now c.in-Some.others.now c.args.start.now
    c.in-Some-split_first_mut.ensures.cases.0 c.in-Some.ensures.cases.0 c.requires.long c.place_after-2.new.parties c.place_last-2.new.parties c.args.tied c.args.more c.place_last-2.result
    (grind (arith, c.if-not-first-2.false)) (omega (arith, c.if-more-eq0-2.false)) c.if-more-tied.false c.requires.count
    c.if-place_after.ensures.same c.place_last-2.ensures.left c.place_last-2.ensures.placed

pub returns-clause-later : goal.returns-clause-later
returns-clause-later t c =
    placed-raised c.in-Some-split_first_mut.first.now c.in-Some-split_first_mut.rest.now c.args.parties.now c.in-Some.seats.now c.in-Some.others.now c.args.start.now
    c.in-Some-split_first_mut.ensures.cases.0 c.in-Some.ensures.cases.0 c.requires.long _ c.place_after-2.new.parties c.place_last-2.new.parties c.args.tied c.args.more c.place_last-2.result
    refl refl (grind (arith, c.if-not-first-2.false)) (omega (arith, c.if-first-seats.false, c.if-first-seats-2.false)) (omega (arith, c.if-more-eq0-2.false)) c.if-more-tied.false c.requires.count
    c.if-place_after.ensures.same c.place_last-2.ensures.left c.place_last-2.ensures.first c.if-place_after.ensures.later

pub place_after-requires : goal.place_after-requires
place_after-requires t c = grind (arith, common_steps)

pub place_after-requires-2 : goal.place_after-requires-2
place_after-requires-2 t c = grind (arith, common_steps)

pub returns-then-first-seats-2-clause-count : goal.returns-then-first-seats-2-clause-count
returns-then-first-seats-2-clause-count t c = grind (arith, common_steps)

pub returns-then-place_after-clause-count : goal.returns-then-place_after-clause-count
returns-then-place_after-clause-count t c = grind (arith, common_steps)
