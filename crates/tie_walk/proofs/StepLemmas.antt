-- The best candidates of a set, found one by one.
use Rattle.std.proofs.lemmas.Grind.{common_steps}
use Rattle.std.proofs.Common.{◌≡◌, ℕ, zero, suc, ◌+◌, ◌-◌, ◌<◌, ◌≤◌, ◌^◌, ◌==◌, ◌&&◌, ◌++◌, Bool, true, List, [], ◌∷◌, refl, sym, ap, ◌∙◌, arith, inl, inr, map, filter, max, min, unwrap_or}
use Rattle.std.specs.Prelude.{fold, nat_le}
use Rattle.std.specs.List.{list_all, range_with_len, reduce, AllByRecursion}
use Rattle.std.proofs.lemmas.Bool.{cases_Bool, eqb-true, eq-eqb, or_left, or_cases, and_left}
use Rattle.std.proofs.Math.Bool.{and_assoc, and-true}
use Rattle.ballot_base.specs.CandSet.{has_member}
use Rattle.ballot_base.specs.Ballots.{Row}
use Rattle.ballot_base.proofs.Increasing.{has_member-filter}
use Rattle.ballot_base.proofs.ListLemmas.{all_range, list_all-same}
use Rattle.tie_walk.specs.Steps.Choices.{may_choose, change, worth, is_no_better, better, worst, open_candidates, is_choice, changes}
use Rattle.tie_walk.specs.declared.sequential.Step.{Step}
use Rattle.tie_walk.specs.declared.sequential.Step.TheVariants.{Grow, Shrink}
use Rattle.tie_walk.proofs.WinnersLemmas.{greatest, values-greatest, bounds-greatest, same_filter, at_least_is_equal, least}

-- ---- the numbers of a range, one by one

pub range-more : (a n j : ℕ) → a + n ≡ j → range_with_len a (suc n) ≡ range_with_len a n ++ j ∷ []
range-more a zero j e = ap (λ x. x ∷ []) (omega (arith, e))
range-more a (suc n) j e = ap (λ l. a ∷ l) (range-more (a + 1) n j (omega (arith, e)))

pub has_member-range : (a n c : ℕ) → a ≤ c → c < a + n → has_member (range_with_len a n) c ≡ true
has_member-range a zero c low high = absurd (omega arith)
has_member-range a (suc n) c low high = elim (cases_Bool (a == c)) [
  | inl same ↦ or_left (a == c) (has_member (range_with_len (a + 1) n) c) same
  | inr other ↦
      let next : a + 1 ≤ c = grind (arith, eq-eqb) in
      rw other (has_member-range (a + 1) n c next (omega arith))
]

at_member : (P : ℕ → Type 0) (xs : List ℕ) (c : ℕ) → AllByRecursion P xs → has_member xs c ≡ true → P c
at_member P [] c all is = grind (arith, common_steps)
at_member P (x ∷ xs) c all is = elim (or_cases (x == c) (has_member xs c) is) [
  | inl same ↦ subst_at (eqb-true x c same) all.0
  | inr later ↦ at_member P xs c all.1 later
]
  where
    subst_at : x ≡ c → P x → P c
    subst_at e h = rw (← e) h

-- ---- the least of a number and the values

module _ {X : Type 0} (value : X → ℕ) where
  abbrev pub lowest : ℕ → List X → ℕ
  lowest high xs = fold min high (map value xs)

  pub lowest-high : (high : ℕ) (xs : List X) → lowest high xs ≤ high
  lowest-high high [] = omega arith
  lowest-high high (x ∷ xs) = omega (arith, lowest-high (min high (value x)) xs)

  pub values-lowest : (high : ℕ) (xs : List X) → AllByRecursion (λ x. lowest high xs ≤ value x) xs
  values-lowest high [] = tt
  values-lowest high (x ∷ xs) = (omega (arith, lowest-high (min high (value x)) xs), values-lowest (min high (value x)) xs)

  pub bounds-lowest : (high bound : ℕ) (xs : List X) → (nat_le bound high && list_all (λ x. nat_le bound (value x)) xs) ≡ nat_le bound (lowest high xs)
  bounds-lowest high bound [] = grind arith
  bounds-lowest high bound (x ∷ xs) =
      grind (arith, common_steps, bounds-lowest (min high (value x)) bound xs, min, and_assoc)

at_most_is_equal : (n best : ℕ) → best ≤ n → nat_le n best ≡ (n == best)
at_most_is_equal n best h = grind arith

no_more : (n most : ℕ) → n ≤ most → nat_le n most ≡ true
no_more n most h = grind arith

-- ---- the best candidates

-- a candidate has the best worth where no other one is better
pub best-is : (step : Step) (w : ℕ → ℕ) (xs : List ℕ) (c : ℕ) → has_member xs c ≡ true → w c ≤ 2 ^ 128 - 1
    → (w c == fold (better step) (worst step) (map w xs)) ≡ list_all (λ d. is_no_better step (w d) (w c)) xs
best-is Grow w xs c inside fits =
    grind (arith, common_steps, greatest w 0 xs, at_least_is_equal, at_member, values-greatest w 0 xs, bounds-greatest w 0 (w c) xs, least (w c))
best-is Shrink w xs c inside fits =
    let high = 2 ^ 128 - 1 in
    let best = lowest w high xs in
    sym (at_most_is_equal (w c) best (at_member (λ d. best ≤ w d) xs c (values-lowest w high xs) inside))
    ∙ sym (bounds-lowest w high (w c) xs) ∙ ap (λ b. b && list_all (λ d. nat_le (w c) (w d)) xs) (no_more (w c) high fits)

pub filter-twice : (p q : ℕ → Bool) (xs : List ℕ) → filter q (filter p xs) ≡ filter (λ x. p x && q x) xs
filter-twice p q [] = refl
filter-twice p q (x ∷ xs) = grind (arith, common_steps, cases_Bool, filter-twice p q xs, filter)

pub worths-are : (f g : ℕ → ℕ) → ((c : ℕ) → f c ≡ g c) → (xs : List ℕ) → map f xs ≡ map g xs
worths-are f g same [] = refl
worths-are f g same (x ∷ xs) = ap (λ n. n ∷ map f xs) (same x) ∙ ap (λ l. g x ∷ l) (worths-are f g same xs)

pub worths-fit : (f : ℕ → ℕ) (high : ℕ) → ((c : ℕ) → f c ≤ high) → (xs : List ℕ) → AllByRecursion (λ x. x ≤ high) (map f xs)
worths-fit f high fit [] = tt
worths-fit f high fit (x ∷ xs) = (fit x, worths-fit f high fit xs)

-- the best of the worths, as an iterator finds it
pub best-of : (step : Step) (xs : List ℕ) → AllByRecursion (λ x. x ≤ 2 ^ 128 - 1) xs → unwrap_or (reduce (better step) xs) (worst step) ≡ fold (better step) (worst step) xs
best-of step [] fit = refl
best-of Grow (x ∷ xs) fit = ap (λ n. fold max n xs) (omega arith)
best-of Shrink (x ∷ xs) fit = ap (λ n. fold min n xs) (omega (arith, fit.0))

module _ (step : Step) (weights : List ℕ) (m : ℕ) (rows : List Row) (set : List ℕ) (w : ℕ → ℕ) (best : ℕ) where
  choice-is : ((c : ℕ) → w c ≡ worth step weights rows set c) → ((c : ℕ) → w c ≤ 2 ^ 128 - 1) → best ≡ fold (better step) (worst step) (map w (open_candidates step m set))
      → (c : ℕ) → 1 ≤ c → c < 1 + m → (may_choose step set c && (w c == best)) ≡ is_choice step weights m rows set c
  choice-is are fit is c low high =
      grind (arith, common_steps, has_member-filter, has_member-range, and-true, cases_Bool, best-is, list_all-same, and_left)

  -- the candidates with the best worth are the choices
  pub tied-are : ((c : ℕ) → w c ≡ worth step weights rows set c) → ((c : ℕ) → w c ≤ 2 ^ 128 - 1) → best ≡ fold (better step) (worst step) (map w (open_candidates step m set))
      → filter (λ c. w c == best) (open_candidates step m set) ≡ filter (is_choice step weights m rows set) (range_with_len 1 m)
  tied-are are fit is =
      filter-twice (may_choose step set) (λ c. w c == best) (range_with_len 1 m)
      ∙ same_filter (λ c. may_choose step set c && w c == best) (is_choice step weights m rows set) (range_with_len 1 m)
      (all_range (λ c. (may_choose step set c && (w c == best)) ≡ is_choice step weights m rows set c) 1 m (choice-is are fit is))

-- the sets that the choices make
pub changes-are : (step : Step) (weights : List ℕ) (m : ℕ) (rows : List Row) (set : List ℕ)
    → map (change step set) (filter (is_choice step weights m rows set) (range_with_len 1 m)) ≡ changes step weights m rows set
unfolding changes
changes-are step weights m rows set = refl
