use Rattle.std.proofs.Common.{◌≡◌, ℕ, ◌-◌, ◌∷◌, [], List, None, ap, sym, ◌∙◌, arith, length, not}
use Rattle.std.specs.Option.{option_or}
use Rattle.std.proofs.lemmas.List.{append_assoc, length-append}
use Rattle.ballot_base.specs.CandSet.{has_member, with_member}
use Rattle.group_check.specs.Steps.Checking.{may_share, first_of_lists, completions}
use Rattle.group_check.proofs.CloneLemmas.{clones_out, length-kept, order-kept, share-kept}
use Rattle.group_check.proofs.CountedLemmas.{few_enough, found_first, none_found-is}
use Rattle.group_check.proofs.WalkLemmas.{IsIncreasing-front, IsIncreasing-rest, IsIncreasing-with, IsIncreasing-without, at_least_one, at_most_last, with_member-end}
use Rattle.group_check.proofs.RefutationLemmas.{none_shared, open-start}
use Rattle.group_check.proofs.BeginningLemmas.{none_from_few, first_whole, first_split, share_without, share_front}
use Rattle.group_check.proofs.checking.Search.+first_beyond.Goals as goal
use Rattle.group_check.proofs.checking.Search.+first_beyond.Goals.{then-not-is_refuted+else-is_some, else-not-is_refuted}

pub first_sharing-requires : goal.first_sharing-requires
first_sharing-requires g t c =
    let s = c.args.self.now in (
      (IsIncreasing-front 1 s.profile.now.m c.args.shared c.args.pool c.requires.order, omega (arith, c.requires.size, c.if-left-eq0.true)),
      share_front (may_share s.property s.committee) c.args.shared c.args.pool c.requires.shared,
    )

pub returns-then-left-eq0 : goal.returns-then-left-eq0
returns-then-left-eq0 g t c =
    let s = c.args.self.now in
    c.first_sharing.ensures ∙ first_whole s.property s.profile.now s.committee s.level c.args.shared c.args.pool c.args.left c.if-left-eq0.true

pub returns-then-len-left : goal.returns-then-len-left
returns-then-len-left g t c =
    let s = c.args.self.now in
    none_from_few s.property s.profile.now s.committee s.level c.args.shared c.args.pool c.args.left (omega (arith, c.if-len-left.true, c.len.ensures.count))

pub with-more-requires-clause-low : goal.with-more-requires-clause-low
with-more-requires-clause-low g t c =
    at_least_one c.args.self.now.profile.now.m c.args.shared c.in_ok-candidate.candidate c.in_ok-candidate.rest (rw c.in_ok-candidate.ensures at c.requires.order)

pub with-more-requires-clause-high : goal.with-more-requires-clause-high
with-more-requires-clause-high g t c =
    (rw c.in_ok-candidate.ensures at c.len.ensures.valid).1

pub is_refuted-requires : goal.is_refuted-requires
is_refuted-requires g t c =
    let s = c.args.self.now in
    let m = s.profile.now.m in
    let x = c.in_ok-candidate.candidate in
    let rest = c.in_ok-candidate.rest in
    let more = with_member c.args.shared x in
    rw (c.choices.ensures, c.with-more.ensures)
    (open-start m s.level s.committee more rest (c.args.left - 1)
    (IsIncreasing-rest 1 m more rest (IsIncreasing-with 1 m c.args.shared x rest (rw c.in_ok-candidate.ensures at c.requires.order))))

pub first_beyond-found-requires : goal.first_beyond-found-requires
first_beyond-found-requires g t c κs within =
    let m = c.args.self.now.profile.now.m in
    let x = c.in_ok-candidate.candidate in
    let rest = c.in_ok-candidate.rest in
    let order = rw c.in_ok-candidate.ensures at c.requires.order in
    let more = c.with-more.ensures ∙ with_member-end 1 m c.args.shared x rest order in (
      omega (arith, ap length c.in_ok-candidate.ensures, c.decreases),
      (
        within,
        (
          rw c.with-more.ensures (IsIncreasing-with 1 m c.args.shared x rest order),
          (
            omega (arith, ap length more, length-append c.args.shared (x ∷ []), c.requires.size, c.if-left-eq0.false),
            rw (more, append_assoc c.args.shared (x ∷ []) rest) (rw c.in_ok-candidate.ensures at c.requires.shared),
          ),
        ),
      ),
    )

pub returns-then-is_some : goal.returns-then-is_some
returns-then-is_some g t c =
    let s = c.args.self.now in
    let rest = c.in_ok-candidate.rest in
    rw c.in_ok-candidate.ensures
    (found_first c.first_beyond-found.result _ (first_of_lists s.property s.profile.now s.committee s.level (completions c.args.shared rest c.args.left))
    (rw c.with-more.ensures at c.first_beyond-found.ensures) (sym c.is_some.ensures ∙ c.if-is_some.true)
    ∙ first_split s.property s.profile.now s.committee s.level c.args.shared c.in_ok-candidate.candidate rest c.args.left
    (rw c.in_ok-candidate.ensures at c.requires.order) c.if-left-eq0.false)

pub class-requires : goal.class-requires
class-requires g t c =
    (rw c.in_ok-candidate.ensures at c.len.ensures.valid).1

pub first_beyond-requires : goal.first_beyond-requires
first_beyond-requires g t c κs within =
    let s = c.args.self.now in
    let may = may_share s.property s.committee in
    let stays = λ (n : ℕ). not (has_member c.class.result n) in
    let x = c.in_ok-candidate.candidate in
    let rest = c.in_ok-candidate.rest in (
      omega (arith, ap length c.in_ok-candidate.ensures, ap length c.minus-others.ensures, length-kept stays rest, c.decreases),
      (
        within,
        (
          rw c.minus-others.ensures
              (order-kept stays 1 s.profile.now.m c.args.shared rest (IsIncreasing-without 1 s.profile.now.m c.args.shared x rest (rw c.in_ok-candidate.ensures at c.requires.order))),
          (
            c.requires.size,
            rw c.minus-others.ensures (share-kept may stays c.args.shared rest (share_without may c.args.shared x rest (rw c.in_ok-candidate.ensures at c.requires.shared))),
          ),
        ),
      ),
    )

pub returns : goal.returns
returns g t c =
    let s = c.args.self.now in
    let e = s.profile.now in
    let first = λ (front pool : List ℕ) (left : ℕ). first_of_lists s.property e s.committee s.level (completions front pool left) in
    let x = c.in_ok-candidate.candidate in
    let pool = c.in_ok-candidate.rest in
    let order = rw c.in_ok-candidate.ensures at c.requires.order in
    let more = with_member c.args.shared x in
    let none : None ≡ first more pool (c.args.left - 1) = elim c.if-not-is_refuted.branch [
      | then-not-is_refuted+else-is_some w ↦
          none_found-is w.first_beyond-found.result _ (rw c.with-more.ensures at w.first_beyond-found.ensures) (sym w.is_some.ensures ∙ w.if-is_some.false)
      | else-not-is_refuted w ↦
          none_shared s.property e s.committee s.level more pool (c.args.left - 1) s.candidates (few_enough s.property s.committee s.level s.some s.most)
          (IsIncreasing-rest 1 e.m more pool (IsIncreasing-with 1 e.m c.args.shared x pool order))
          (rw (c.choices.ensures, c.with-more.ensures) at (c.is_refuted.ensures w.if-not-is_refuted.false))
    ] in
    let class = c.class.ensures ∙ s.classes x (at_least_one e.m c.args.shared x pool order) (at_most_last 1 e.m c.args.shared x pool order) in
    rw c.in_ok-candidate.ensures
    (rw c.minus-others.ensures at c.first_beyond.ensures
    ∙ clones_out s.property e s.committee s.level c.args.shared x pool c.class.result c.args.left order c.if-left-eq0.false class none
    ∙ ap (λ o. option_or o (first c.args.shared pool c.args.left)) none
    ∙ first_split s.property e s.committee s.level c.args.shared x pool c.args.left order c.if-left-eq0.false)
