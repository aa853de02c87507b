-- Whom choices have picked, counted alike where a set grows and where it shrinks.
use Rattle.std.proofs.lemmas.Grind.{common_steps}
use Rattle.std.proofs.Common.{◌≡◌, ℕ, ◌+◌, ◌∙◌, Bool, true, List, sym, ap, arith, length, count_by}
use Rattle.std.specs.List.{range_with_len}
use Rattle.std.proofs.lemmas.Bool.{not-true, not_from_false, eqb-true}
use Rattle.std.proofs.lemmas.List.FromFn.{length-range_with_len}
use Rattle.ballot_base.specs.Lists.{IsIncreasing}
use Rattle.ballot_base.specs.CandSet.{has_member, with_member, without_member}
use Rattle.ballot_base.proofs.Increasing.{has_member-with_member}
use Rattle.tie_walk.specs.Steps.Choices.{may_choose, change, open_candidates}
use Rattle.tie_walk.specs.declared.sequential.Step.{Step}
use Rattle.tie_walk.specs.declared.sequential.Step.TheVariants.{Grow, Shrink}
use Rattle.tie_walk.proofs.LevelLemmas.{in_bounds}
use Rattle.sequential_winners.specs.Steps.Levels.{picked, chosen}
use Rattle.sequential_winners.proofs.Lists.{members-of, count-others, open-is, open-from, member-without, with-without, without-with, without-itself, with-itself, with-increasing, without-increasing}
use Rattle.sequential_winners.proofs.Numbers.{bit, length-sum, count-with, count-without}

-- who is not picked may be
pub count-open : (step : Step) (p : ℕ → Bool) (m : ℕ) (set : List ℕ) → IsIncreasing 1 m set
    → count_by p (picked step m set) + count_by p (open_candidates step m set) ≡ count_by p (range_with_len 1 m)
count-open Grow p m set up = count-others p m set up
count-open Shrink p m set up = omega (arith, count-others p m set up, ap (count_by p) (members-of m set up))

pub chosen-open : (step : Step) (m : ℕ) (set : List ℕ) → IsIncreasing 1 m set → chosen step m set + length (open_candidates step m set) ≡ m
chosen-open step m set up =
    omega (
      arith,
      count-open step (λ (x : ℕ). true) m set up,
      length-sum (picked step m set),
      length-sum (open_candidates step m set),
      length-sum (range_with_len 1 m),
      length-range_with_len 1 m,
    )

pub chosen-left : (m : ℕ) (set : List ℕ) → IsIncreasing 1 m set → chosen Shrink m set + length set ≡ m
chosen-left m set up = omega (arith, chosen-open Shrink m set up, ap length (members-of m set up))

-- ---- one more choice

pub change-increasing : (step : Step) (m : ℕ) (set : List ℕ) (c : ℕ) → IsIncreasing 1 m set → has_member (open_candidates step m set) c ≡ true → IsIncreasing 1 m (change step set c)
change-increasing Grow m set c up free = let bounds = (open-is Grow m set c free).0 in with-increasing m set c up bounds.0 bounds.1
change-increasing Shrink m set c up free = let bounds = (open-is Shrink m set c free).0 in without-increasing m set c up bounds.0 bounds.1

pub count-change : (step : Step) (p : ℕ → Bool) (m : ℕ) (set : List ℕ) (c : ℕ) → IsIncreasing 1 m set → has_member (open_candidates step m set) c ≡ true
    → count_by p (picked step m (change step set c)) ≡ count_by p (picked step m set) + bit (p c)
count-change Grow p m set c up free = count-with p set c (not-true (has_member set c) (open-is Grow m set c free).1)
count-change Shrink p m set c up free =
    omega (
      arith,
      count-without p 1 m set c up (open-is Shrink m set c free).1,
      count-others p m set up,
      count-others p m (without_member set c) (change-increasing Shrink m set c up free),
    )

pub chosen-change : (step : Step) (m : ℕ) (set : List ℕ) (c : ℕ) → IsIncreasing 1 m set → has_member (open_candidates step m set) c ≡ true
    → chosen step m (change step set c) ≡ chosen step m set + 1
chosen-change step m set c up free =
    omega (arith, count-change step (λ (x : ℕ). true) m set c up free, length-sum (picked step m set), length-sum (picked step m (change step set c)))

-- whoever else may be chosen still may be
pub open-stays : (step : Step) (m : ℕ) (set : List ℕ) (c d : ℕ) → (d ≡ c → ⊥) → has_member (open_candidates step m set) d ≡ true → has_member (open_candidates step m (change step set c)) d ≡ true
open-stays step m set c d other free =
    let parts = open-is step m set d free in
    open-from step m (change step set c) d parts.0.0 parts.0.1 (by step parts.1)
  where
    by : (s : Step) → may_choose s set d ≡ true → may_choose s (change s set c) d ≡ true
    by Grow is = grind (arith, common_steps, has_member-with_member, eqb-true)
    by Shrink is = grind (arith, common_steps, member-without, eqb-true)

-- the choice of one of those who are picked, undone
pub record IsUndone (step : Step) (m : ℕ) (made : List ℕ) (one : ℕ) : Type 0 where
  pub old : List ℕ
  pub increasing : IsIncreasing 1 m old
  pub free : has_member (open_candidates step m old) one ≡ true
  pub is : change step old one ≡ made

pub undone : (step : Step) (m : ℕ) (made : List ℕ) (one : ℕ) → IsIncreasing 1 m made → has_member (picked step m made) one ≡ true → IsUndone step m made one
undone Grow m made one up inside =
    let bounds = in_bounds m made one up inside in
    let old : List ℕ = without_member made one in
    record {
      old = old;
      increasing = without-increasing m made one up bounds.0 bounds.1;
      free = open-from Grow m old one bounds.0 bounds.1 (not_from_false (has_member old one) (without-itself made one));
      is = with-without m made one up bounds.0 bounds.1 inside;
    }
undone Shrink m made one up inside =
    let parts = open-is Grow m made one inside in
    let old : List ℕ = with_member made one in
    record {
      old = old;
      increasing = with-increasing m made one up parts.0.0 parts.0.1;
      free = open-from Shrink m old one parts.0.0 parts.0.1 (with-itself made one);
      is = without-with m made one up parts.0.0 parts.0.1 (not-true (has_member made one) parts.1);
    }

pub count-undone : (step : Step) (p : ℕ → Bool) (m : ℕ) (made : List ℕ) (one : ℕ) (u : IsUndone step m made one) → count_by p (picked step m made) ≡ count_by p (picked step m u.old) + bit (p one)
count-undone step p m made one u = sym (ap (λ s. count_by p (picked step m s)) u.is) ∙ count-change step p m u.old one u.increasing u.free

pub chosen-undone : (step : Step) (m : ℕ) (made : List ℕ) (one : ℕ) (u : IsUndone step m made one) → chosen step m made ≡ chosen step m u.old + 1
chosen-undone step m made one u = sym (ap (chosen step m) u.is) ∙ chosen-change step m u.old one u.increasing u.free
