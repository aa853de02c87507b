use Rattle.std.proofs.Common.{◌≡◌, ℕ, ◌-◌, [], ◌∷◌, None, ap, sym, ◌∙◌, arith, length, not}
use Rattle.std.specs.Prelude.{find}
use Rattle.std.specs.Option.{option_or}
use Rattle.ballot_base.specs.CandSet.{has_member, with_member}
use Rattle.ballot_base.proofs.Increasing.{has_member_head}
use Rattle.group_check.specs.Steps.Checking.{is_enough_within, completions}
use Rattle.group_check.proofs.CloneLemmas.{length-kept, members_out, order-kept, share-kept}
use Rattle.group_check.proofs.CountedLemmas.{found_first, none_found-is}
use Rattle.group_check.proofs.SetLemmas.{passes_at}
use Rattle.group_check.proofs.WalkLemmas.{IsIncreasing-rest, IsIncreasing-with, IsIncreasing-without, at_most_last, at_least_one, with_member-length}
use Rattle.group_check.proofs.RefutationLemmas.{none_within, open-beside}
use Rattle.group_check.proofs.BeginningLemmas.{none_around, none_from_pool, found_whole, find_split, share_without}
use Rattle.group_check.proofs.checking.Search.+first_within.Goals as goal
use Rattle.group_check.proofs.checking.Search.+first_within.Goals.{then-not-is_refuted+else-is_some, else-not-is_refuted}

pub returns-then-len-left : goal.returns-then-len-left
returns-then-len-left g t c =
    let s = c.args.self.now in
    none_from_pool s.profile.now s.committee s.level c.args.shared c.args.within c.args.pool (s.level - 1 - length c.args.within)
    (omega (arith, c.if-len-left.true, c.len.ensures.count, c.len-2.ensures.count))

pub returns-then-not-is_enough : goal.returns-then-not-is_enough
returns-then-not-is_enough g t c =
    let s = c.args.self.now in
    none_around s.profile.now s.committee s.level c.args.shared c.args.within c.args.pool (s.level - 1 - length c.args.within) c.voters_around.ensures.valid c.requires.order
    (sym (rw c.voters_around.ensures.group at c.is_enough.ensures) ∙ c.if-not-is_enough.true)

pub returns-then-left-eq0 : goal.returns-then-left-eq0
returns-then-left-eq0 g t c =
    let s = c.args.self.now in
    found_whole s.profile.now s.committee s.level c.args.shared c.args.within c.args.pool (s.level - 1 - length c.args.within)
    (omega (arith, c.if-left-eq0.true, c.len.ensures.count))
    (sym (rw c.voters_around.ensures.group at c.is_enough.ensures) ∙ c.if-not-is_enough.false)

pub with-more-requires-clause-low : goal.with-more-requires-clause-low
with-more-requires-clause-low g t c =
    at_least_one c.args.self.now.profile.now.m c.args.within c.in_ok-member.member c.in_ok-member.rest (rw c.in_ok-member.ensures at c.requires.order)

pub with-more-requires-clause-high : goal.with-more-requires-clause-high
with-more-requires-clause-high g t c =
    let last = at_most_last 1 c.args.self.now.profile.now.m c.args.within c.in_ok-member.member c.in_ok-member.rest (rw c.in_ok-member.ensures at c.requires.order) in
    omega (arith, last, c.voters_around.ensures.valid.most)

pub is_refuted-requires : goal.is_refuted-requires
is_refuted-requires g t c =
    let s = c.args.self.now in
    let x = c.in_ok-member.member in
    let rest = c.in_ok-member.rest in
    rw (c.beside.ensures, c.with-more.ensures)
    (open-beside s.profile.now.m s.committee c.args.shared c.args.within x rest (s.level - 1 - c.len.result - 1) (rw c.in_ok-member.ensures at c.requires.order)
    (share_without (has_member s.committee) [] x rest (rw c.in_ok-member.ensures at c.requires.members)))

pub first_within-found-requires : goal.first_within-found-requires
first_within-found-requires g t c κs within =
    let s = c.args.self.now in
    let x = c.in_ok-member.member in
    let rest = c.in_ok-member.rest in
    let order = rw c.in_ok-member.ensures at c.requires.order in
    let more = with_member-length 1 s.profile.now.m c.args.within x rest order in (
      omega (arith, ap length c.in_ok-member.ensures, c.decreases),
      (
        within,
        (
          c.requires.property,
          (
            share_without (has_member s.committee) [] x rest (rw c.in_ok-member.ensures at c.requires.members),
            (
              rw c.with-more.ensures (IsIncreasing-with 1 s.profile.now.m c.args.within x rest order),
              omega (arith, ap length c.with-more.ensures, more, c.if-left-eq0.false, c.len.ensures.count),
            ),
          ),
        ),
      ),
    )

pub returns-then-is_some : goal.returns-then-is_some
returns-then-is_some g t c =
    let s = c.args.self.now in
    let left = s.level - 1 - length c.args.within in
    let x = c.in_ok-member.member in
    let rest = c.in_ok-member.rest in
    let order = rw c.in_ok-member.ensures at c.requires.order in
    let fewer : s.level - 1 - length (with_member c.args.within x) ≡ left - 1 = omega (arith, with_member-length 1 s.profile.now.m c.args.within x rest order) in
    rw c.in_ok-member.ensures
    (found_first c.first_within-found.result _ (find (is_enough_within s.profile.now s.committee s.level c.args.shared) (completions c.args.within rest left))
    (rw (c.with-more.ensures, fewer) at c.first_within-found.ensures) (sym c.is_some.ensures ∙ c.if-is_some.true)
    ∙ find_split s.profile.now s.committee s.level c.args.shared c.args.within x rest left order (rw c.len.ensures.count at c.if-left-eq0.false))

pub class-requires : goal.class-requires
class-requires g t c =
    let last = at_most_last 1 c.args.self.now.profile.now.m c.args.within c.in_ok-member.member c.in_ok-member.rest (rw c.in_ok-member.ensures at c.requires.order) in
    omega (arith, last, c.voters_around.ensures.valid.most)

pub first_within-requires : goal.first_within-requires
first_within-requires g t c κs within =
    let s = c.args.self.now in
    let stays = λ (n : ℕ). not (has_member c.class.result n) in
    let x = c.in_ok-member.member in
    let rest = c.in_ok-member.rest in (
      omega (arith, ap length c.in_ok-member.ensures, ap length c.minus-others.ensures, length-kept stays rest, c.decreases),
      (
        within,
        (
          c.requires.property,
          (
            rw c.minus-others.ensures (share-kept (has_member s.committee) stays [] rest (share_without (has_member s.committee) [] x rest (rw c.in_ok-member.ensures at c.requires.members))),
            (
              rw c.minus-others.ensures
                  (order-kept stays 1 s.profile.now.m c.args.within rest (IsIncreasing-without 1 s.profile.now.m c.args.within x rest (rw c.in_ok-member.ensures at c.requires.order))),
              c.requires.size,
            ),
          ),
        ),
      ),
    )

pub returns : goal.returns
returns g t c =
    let s = c.args.self.now in
    let e = s.profile.now in
    let left = s.level - 1 - length c.args.within in
    let some = rw c.len.ensures.count at c.if-left-eq0.false in
    let x = c.in_ok-member.member in
    let pool = c.in_ok-member.rest in
    let order = rw c.in_ok-member.ensures at c.requires.order in
    let fewer : s.level - 1 - length (with_member c.args.within x) ≡ left - 1 = omega (arith, with_member-length 1 e.m c.args.within x pool order) in
    let rest = find (is_enough_within e s.committee s.level c.args.shared) (completions c.args.within pool left) in
    let more = with_member c.args.within x in
    let none : None ≡ find (is_enough_within e s.committee s.level c.args.shared) (completions more pool (left - 1)) = elim c.if-not-is_refuted.branch [
      | then-not-is_refuted+else-is_some w ↦
          none_found-is w.first_within-found.result _ (rw (c.with-more.ensures, fewer) at w.first_within-found.ensures) (sym w.is_some.ensures ∙ w.if-is_some.false)
      | else-not-is_refuted w ↦
          none_within e s.committee s.level c.args.shared more pool (left - 1) (IsIncreasing-rest 1 e.m more pool (IsIncreasing-with 1 e.m c.args.within x pool order))
          (rw (c.requires.property, c.beside.ensures, c.with-more.ensures, c.len.ensures.count) at (c.is_refuted.ensures w.if-not-is_refuted.false))
    ] in
    let class = c.class.ensures ∙ s.classes x (at_least_one e.m c.args.within x pool order) (at_most_last 1 e.m c.args.within x pool order) in
    rw c.in_ok-member.ensures
    (rw c.minus-others.ensures at c.first_within.ensures
    ∙ members_out e s.committee s.level c.args.shared c.args.within x pool c.class.result left order some
    (passes_at (has_member s.committee) (x ∷ pool) x (rw c.in_ok-member.ensures at c.requires.members) (has_member_head x pool)) class none
    ∙ ap (λ o. option_or o rest) none
    ∙ find_split e s.committee s.level c.args.shared c.args.within x pool left order some)
