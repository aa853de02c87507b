-- Members of lists, of filters and of sets.
use Rattle.std.proofs.lemmas.Grind.{common_steps}
use Rattle.std.proofs.Common.{◌≡◌, ℕ, zero, suc, ◌+◌, ◌≤◌, ◌==◌, ◌&&◌, ◌||◌, ◌∙◌, Bool, true, false, not, List, [], ◌∷◌, refl, sym, ap, arith, inl, inr, filter, count_by, Contains}
use Rattle.std.specs.List.{list_all, range_with_len, AllByRecursion}
use Rattle.std.proofs.lemmas.Bool.{cases_Bool, cases_eq, and_parts, and_from, and_left, both_ways, not-true, eq-eqb, ne_eqb, or_left, not_from_true}
use Rattle.ballot_base.specs.Lists.{IsIncreasing}
pub use Rattle.ballot_base.proofs.Included.{all-at, all-from}
use Rattle.ballot_base.specs.CandSet.{has_member, other_members, with_member, without_member}
use Rattle.ballot_base.proofs.Increasing.{IsIncreasing-filter, IsIncreasing-with_member, has_member-filter, has_member-with_member, has_member_head, same_increasing}
use Rattle.tie_walk.specs.Sequences.{others}
use Rattle.tie_walk.specs.Steps.Choices.{may_choose, open_candidates}
use Rattle.tie_walk.specs.declared.sequential.Step.{Step}
use Rattle.tie_walk.proofs.LawLemmas.{IsIncreasing-range}
use Rattle.tie_walk.proofs.LevelLemmas.{in_bounds}
use Rattle.tie_walk.proofs.StepLemmas.{has_member-range}
use Rattle.sequential_winners.proofs.Numbers.{count-parts}
pub use Rattle.sequential_winners.proofs.Numbers.{some-fails}

-- ---- what is true of all

pub same_tests : (a b : Bool) → (a ≡ true → b ≡ true) → (b ≡ true → a ≡ true) → a ≡ b
same_tests true b to from = sym (to refl)
same_tests false true to from = from refl
same_tests false false to from = refl

pub all-fails : (p : ℕ → Bool) (xs : List ℕ) (x : ℕ) → has_member xs x ≡ true → p x ≡ false → list_all p xs ≡ false
all-fails p xs x inside fails = elim (cases_Bool (list_all p xs)) [
  | inl all ↦ absurd (both_ways (p x) fails (all-at p xs x all inside))
  | inr some ↦ some
]

pub all-pass : {X : Type 0} (P : X → Type 0) (xs : List X) → ((x : X) → P x) → AllByRecursion P xs
all-pass P [] each = tt
all-pass P (x ∷ xs) each = (each x, all-pass P xs each)

pub all-range : (p : ℕ → Bool) (m : ℕ) → ((c : ℕ) → 1 ≤ c → c ≤ m → p c ≡ true) → list_all p (range_with_len 1 m) ≡ true
all-range p m each = all-from p (range_with_len 1 m) (λ c inside. let bounds = in_bounds m (range_with_len 1 m) c (IsIncreasing-range 1 m m (omega arith)) inside in each c bounds.0 bounds.1)

-- ---- where a list of lists has a set from

pub Contains-only : {X : Type 0} (one x : X) → Contains (one ∷ []) x → one ≡ x
Contains-only one x (zero, inside, same) = same
Contains-only one x (suc i, inside, same) = absurd (omega (arith, inside))

-- ---- a member less, and again

pub member-without : (set : List ℕ) (n x : ℕ) → has_member (without_member set n) x ≡ (not (x == n) && has_member set x)
member-without set n x = has_member-filter (λ y. not (y == n)) set x

pub without-itself : (set : List ℕ) (n : ℕ) → has_member (without_member set n) n ≡ false
without-itself set n = member-without set n n ∙ and_left (not (n == n)) (has_member set n) (not_from_true (n == n) (eq-eqb n n refl))

pub with-itself : (set : List ℕ) (n : ℕ) → has_member (with_member set n) n ≡ true
with-itself set n = has_member-with_member set n n ∙ or_left (n == n) (has_member set n) (eq-eqb n n refl)

module _ (m : ℕ) (set : List ℕ) (n : ℕ) (up : IsIncreasing 1 m set) (low : 1 ≤ n) (high : n ≤ m) where
  pub without-increasing : IsIncreasing 1 m (without_member set n)
  without-increasing = IsIncreasing-filter (λ x. not (x == n)) 1 m set up

  pub with-increasing : IsIncreasing 1 m (with_member set n)
  with-increasing = IsIncreasing-with_member 1 m set n low high up

  pub with-without : has_member set n ≡ true → with_member (without_member set n) n ≡ set
  with-without inside =
      same_increasing 1 m (with_member (without_member set n) n) set (IsIncreasing-with_member 1 m (without_member set n) n low high without-increasing) up
      (λ x. has_member-with_member (without_member set n) n x ∙ ap (λ b. (n == x) || b) (member-without set n x) ∙ at x)
    where
      at : (x : ℕ) → ((n == x) || (not (x == n) && has_member set x)) ≡ has_member set x
      at x = grind (arith, common_steps, cases_eq, or_left, not, eq-eqb, ne_eqb)

  pub without-with : has_member set n ≡ false → without_member (with_member set n) n ≡ set
  without-with outside =
      same_increasing 1 m (without_member (with_member set n) n) set (IsIncreasing-filter (λ x. not (x == n)) 1 m (with_member set n) with-increasing) up
      (λ x. member-without (with_member set n) n x ∙ ap (λ b. not (x == n) && b) (has_member-with_member set n x) ∙ at x)
    where
      at : (x : ℕ) → (not (x == n) && ((n == x) || has_member set x)) ≡ has_member set x
      at x = grind (arith, common_steps, cases_eq, and_left, not, not_from_true, eq-eqb, ne_eqb)

-- ---- the candidates inside and outside

-- of the candidates 1 to m, the members of a set are the set
pub members-of : (m : ℕ) (set : List ℕ) → IsIncreasing 1 m set → filter (has_member set) (range_with_len 1 m) ≡ set
members-of m set up =
    same_increasing 1 m (filter (has_member set) (range_with_len 1 m)) set (IsIncreasing-filter (has_member set) 1 m (range_with_len 1 m) (IsIncreasing-range 1 m m (omega arith))) up
    (λ n. has_member-filter (has_member set) (range_with_len 1 m) n ∙ member n)
  where
    member : (n : ℕ) → (has_member set n && has_member (range_with_len 1 m) n) ≡ has_member set n
    member n = grind (arith, common_steps, cases_Bool, in_bounds, has_member-range)

pub count-others : (p : ℕ → Bool) (m : ℕ) (set : List ℕ) → IsIncreasing 1 m set → count_by p set + count_by p (others m set) ≡ count_by p (range_with_len 1 m)
count-others p m set up = omega (arith, count-parts p (has_member set) (range_with_len 1 m), ap (count_by p) (members-of m set up))

-- of a set whose members another one has
pub count-included : (p : ℕ → Bool) (m : ℕ) (set other : List ℕ) → IsIncreasing 1 m set → IsIncreasing 1 m other → ((c : ℕ) → has_member set c ≡ true → has_member other c ≡ true) → count_by p set ≤ count_by p other
count-included p m set other up up' within =
    let same : filter (has_member set) other ≡ set =
    same_increasing 1 m (filter (has_member set) other) set (IsIncreasing-filter (has_member set) 1 m other up') up (λ n. has_member-filter (has_member set) other n ∙ both (has_member set n) (has_member other n) (within n)) in
    omega (arith, count-parts p (has_member set) other, ap (count_by p) same)
  where
    both : (a b : Bool) → (a ≡ true → b ≡ true) → (a && b) ≡ a
    both true b within' = within' refl
    both false b within' = refl

pub open-is : (step : Step) (m : ℕ) (set : List ℕ) (c : ℕ) → has_member (open_candidates step m set) c ≡ true → ((1 ≤ c) × (c ≤ m)) × (may_choose step set c ≡ true)
open-is step m set c inside =
    let parts = and_parts (may_choose step set c) (has_member (range_with_len 1 m) c) (sym (has_member-filter (may_choose step set) (range_with_len 1 m) c) ∙ inside) in
    (in_bounds m (range_with_len 1 m) c (IsIncreasing-range 1 m m (omega arith)) parts.1, parts.0)

pub open-from : (step : Step) (m : ℕ) (set : List ℕ) (c : ℕ) → 1 ≤ c → c ≤ m → may_choose step set c ≡ true → has_member (open_candidates step m set) c ≡ true
open-from step m set c low high is =
    has_member-filter (may_choose step set) (range_with_len 1 m) c ∙ and_from (may_choose step set c) (has_member (range_with_len 1 m) c) is (has_member-range 1 m c low (omega (arith, high)))

-- the first of the members of a set outside another
pub free-among : (m : ℕ) (most set : List ℕ) (x : ℕ) (rest : List ℕ) → IsIncreasing 1 m most → other_members most set ≡ x ∷ rest → ((1 ≤ x) × (x ≤ m)) × (has_member set x ≡ false)
free-among m most set x rest up is =
    let inside : has_member (other_members most set) x ≡ true = ap (λ l. has_member l x) is ∙ has_member_head x rest in
    let parts = and_parts (not (has_member set x)) (has_member most x) (sym (has_member-filter (λ n. not (has_member set n)) most x) ∙ inside) in
    (in_bounds m most x up parts.1, not-true (has_member set x) parts.0)
