-- Sums of the worths of candidates.
use Rattle.std.proofs.lemmas.Grind.{common_steps}
use Rattle.std.proofs.Common.{◌≡◌, ℕ, zero, suc, ◌+◌, ◌-◌, ◌*◌, ◌<◌, ◌≤◌, ◌==◌, ◌&&◌, ◌||◌, ◌∙◌, Bool, true, false, List, [], ◌∷◌, refl, sym, ap, arith, inl, inr, length, filter, get_or, get_or-set_other, get_or-set_same, replicate, set, sum_by}
use Rattle.std.proofs.lemmas.Bool.{cases_eq}
use Rattle.std.proofs.lemmas.List.Sums.{sum_by-cons}
use Rattle.ballot_base.specs.Lists.{IsIncreasing}
use Rattle.ballot_base.specs.CandSet.{has_member}
use Rattle.ballot_base.specs.Limits.{most_candidates}
use Rattle.ballot_base.specs.Worths.{AreChosen}
use Rattle.ballot_base.proofs.Increasing.{IsIncreasing-filter, IsIncreasing-lower, has_member-filter, has_member_head, has_member_tail, same_increasing}

-- what worths exceed a threshold by bounds their sum
pub sum-threshold : (f g : ℕ → ℕ) (t : ℕ) (xs : List ℕ) → ((n : ℕ) → has_member xs n ≡ true → f n ≤ g n) → sum_by f xs ≤ length xs * t + sum_by (λ n. g n - t) xs
sum-threshold f g t [] less = omega arith
sum-threshold f g t (x ∷ xs) less =
    let tail : sum_by f xs ≤ length xs * t + sum_by (λ n. g n - t) xs =
    sum-threshold f g t xs (λ n is. less n (or-true (x == n) (has_member xs n) is)) in
    omega (arith, tail, less x (has_member_head x xs), sum_by-cons f x xs, sum_by-cons (λ n. g n - t) x xs, times (length xs) t)
  where
    or-true : (p q : Bool) → q ≡ true → (p || q) ≡ true
    or-true true q h = refl
    or-true false q h = h

    times : (n t : ℕ) → suc n * t ≡ n * t + t
    times n t = omega arith

-- a member of less worth than the threshold leaves that much less
pub sum-member : (f g : ℕ → ℕ) (t n : ℕ) (xs : List ℕ) → ((x : ℕ) → has_member xs x ≡ true → f x ≤ g x) → has_member xs n ≡ true
    → sum_by f xs + (t - g n) ≤ length xs * t + sum_by (λ x. g x - t) xs
sum-member f g t n [] less here = absurd cc
sum-member f g t n (x ∷ xs) less here = elim (cases_eq x n) [
  | inl same ↦ omega (
    arith,
    ap g same,
    sum-threshold f g t xs fewer,
    less x (has_member_head x xs),
    sum_by-cons f x xs,
    sum_by-cons (λ y. g y - t) x xs,
    times (length xs) t,
  )
  | inr other ↦ omega (
    arith,
    sum-member f g t n xs fewer (sym (has_member_tail x n xs other) ∙ here),
    less x (has_member_head x xs),
    sum_by-cons f x xs,
    sum_by-cons (λ y. g y - t) x xs,
    times (length xs) t,
  )
]
  where
    or-true : (p q : Bool) → q ≡ true → (p || q) ≡ true
    or-true true q h = refl
    or-true false q h = h

    fewer : (y : ℕ) → has_member xs y ≡ true → f y ≤ g y
    fewer y is = less y (or-true (x == y) (has_member xs y) is)

    times : (n t : ℕ) → suc n * t ≡ n * t + t
    times n t = omega arith

pub sum-part : (f : ℕ → ℕ) (p : ℕ → Bool) (xs : List ℕ) → sum_by f (filter p xs) ≤ sum_by f xs
sum-part f p [] = omega arith
sum-part f p (x ∷ xs) = grind (arith, common_steps, sum-part f p xs, sum_by-cons)

-- a sum over some of the members is no more than that over all
pub sum-among : (f : ℕ → ℕ) (last : ℕ) (some all : List ℕ) → IsIncreasing 1 last some → IsIncreasing 1 last all → ((n : ℕ) → has_member some n ≡ true → has_member all n ≡ true)
    → sum_by f some ≤ sum_by f all
sum-among f last some all up rises among =
    let same : filter (has_member some) all ≡ some =
    same_increasing 1 last (filter (has_member some) all) some (IsIncreasing-filter (has_member some) 1 last all rises) up
    (λ n. has_member-filter (has_member some) all n ∙ absorbed (has_member some n) (has_member all n) (among n)) in
    omega (arith, ap (sum_by f) same, sum-part f (has_member some) all)
  where
    absorbed : (p q : Bool) → (p ≡ true → q ≡ true) → (p && q) ≡ p
    absorbed true q h = h refl
    absorbed false q h = refl

-- some of the members are no more than all
pub length-among : (last : ℕ) (some all : List ℕ) → IsIncreasing 1 last some → IsIncreasing 1 last all → ((n : ℕ) → has_member some n ≡ true → has_member all n ≡ true) → length some ≤ length all
length-among last some all up rises among = omega (arith, ones some, ones all, sum-among (λ n. 1) last some all up rises among)
  where
    ones : (xs : List ℕ) → sum_by (λ n. 1) xs ≡ length xs
    ones [] = refl
    ones (x ∷ xs) = omega (arith, ones xs, sum_by-cons (λ (n : ℕ). 1) x xs)

pub sum-most : (f : ℕ → ℕ) (most : ℕ) (xs : List ℕ) → ((n : ℕ) → f n ≤ most) → sum_by f xs ≤ length xs * most
sum-most f most [] small = omega arith
sum-most f most (x ∷ xs) small = omega (arith, sum-most f most xs small, small x, sum_by-cons f x xs)

pub sum-first : (f : ℕ → ℕ) (xs rest : List ℕ) (first : ℕ) → xs ≡ first ∷ rest → sum_by f xs ≡ f first + sum_by f rest
sum-first f xs rest first is = ap (sum_by f) is ∙ sum_by-cons f first rest

pub rest-increasing : (last : ℕ) (xs rest : List ℕ) (first : ℕ) → xs ≡ first ∷ rest → IsIncreasing 1 last xs → (first ≤ last) × IsIncreasing 1 last rest
rest-increasing last xs rest first is up = grind (arith, common_steps, IsIncreasing-lower)

pub replicate-most : (n i x most : ℕ) → x ≤ most → get_or {A = ℕ} (replicate n x) i 0 ≤ most
replicate-most zero i x most small = omega arith
replicate-most (suc n) zero x most small = small
replicate-most (suc n) (suc i) x most small = replicate-most n i x most small

-- a number takes the place of another
pub set-most : (xs : List ℕ) (at n most : ℕ) → at < length xs → ((i : ℕ) → get_or xs i 0 ≤ most) → n ≤ most → (i : ℕ) → get_or (set xs at n) i 0 ≤ most
set-most xs at n most inside few low i = elim (cases_eq i at) [
  | inl same ↦ omega (arith, low, ap (λ k. get_or (set xs at n) k 0) same, get_or-set_same xs at n 0 inside)
  | inr other ↦ omega (arith, few i, get_or-set_other xs at i n 0 other)
]

-- ---- the bound of what some of the candidates are worth

module _ (worth : ℕ → ℕ) (t : ℕ) (free : List ℕ) (left : ℕ) (chosen : List ℕ) (up : IsIncreasing 1 most_candidates free) (are : AreChosen free left chosen) where
  chosen-over : sum_by (λ n. worth n - t) chosen ≤ sum_by (λ n. worth n - t) free
  chosen-over = sum-among (λ n. worth n - t) most_candidates chosen free are.rises up are.among

  pub chosen-few : left ≤ length free
  chosen-few = omega (arith, are.few, length-among most_candidates chosen free are.rises up are.among)

  pub chosen-bound : sum_by worth chosen ≤ left * t + sum_by (λ n. worth n - t) free
  chosen-bound = omega (arith, chosen-over, sum-threshold worth worth t chosen (λ n is. omega arith), ap (λ n. n * t) are.few)

  pub chosen-with : (n : ℕ) → has_member chosen n ≡ true → sum_by worth chosen + (t - worth n) ≤ left * t + sum_by (λ n. worth n - t) free
  chosen-with n is = omega (arith, chosen-over, sum-member worth worth t n chosen (λ x in_. omega arith) is, ap (λ n. n * t) are.few)
