-- The greatest sum of so many numbers, by a threshold that just so many reach.
use Rattle.std.proofs.lemmas.Grind.{common_steps}
use Rattle.std.proofs.Common.{◌≡◌, ℕ, zero, suc, ◌+◌, ◌-◌, ◌*◌, ◌^◌, ◌<◌, ◌≤◌, ◌==◌, ◌||◌, ◌∙◌, Bool, true, false, cond, not, List, [], ◌∷◌, refl, sym, ap, arith, inl, inr, length, sum_by}
use Rattle.std.proofs.Math.Nat.{mul-le-mul_right}
use Rattle.std.specs.Prelude.{filter, nat_le}
use Rattle.std.specs.List.{range_with_len}
use Rattle.std.proofs.lemmas.Bool.{cases_lt, le-leb, leb-true, lt-leb}
use Rattle.std.proofs.lemmas.List.Sums.{sum_by-cons}
use Rattle.std.proofs.lemmas.List.Filters.{length-filter_both}
use Rattle.std.proofs.lemmas.List.FromFn.{length-range_with_len}
use Rattle.std.proofs.Math.Bool.{or-true}
use Rattle.ballot_base.specs.CandSet.{has_member}
use Rattle.ballot_base.proofs.Increasing.{has_member_head}
use Rattle.tie_walk.specs.Ceilings.{greatest_sum}
use Rattle.ballot_base.specs.Worths.{IsThreshold, reaching}
use Rattle.tie_walk.proofs.GreatestSums.{best_of, best_of-more, best_of-most, best_of-next, best_of-none, best_of-short, sum-of}

-- fewer members pass a test that asks for more
pub filter-fewer : (p q : ℕ → Bool) (xs : List ℕ) → ((n : ℕ) → has_member xs n ≡ true → p n ≡ true → q n ≡ true) → length (filter p xs) ≤ length (filter q xs)
filter-fewer p q [] more = omega arith
filter-fewer p q (x ∷ xs) more =
    by (p x) refl (q x) refl (more x (has_member_head x xs)) (filter-fewer p q xs (λ n in_. more n (ap (λ b. (x == n) || b) in_ ∙ or-true (x == n))))
  where
    by : (b : Bool) → p x ≡ b → (b' : Bool) → q x ≡ b' → (p x ≡ true → q x ≡ true) → length (filter p xs) ≤ length (filter q xs) → length (filter p (x ∷ xs)) ≤ length (filter q (x ∷ xs))
    by true here true there first rest = grind (arith, common_steps, rest)
    by true here false gone first rest = absurd (let e : true ≡ false = sym (first here) ∙ gone in cc)
    by false gone true there first rest = grind (arith, common_steps, rest)
    by false gone false gone' first rest = grind (arith, common_steps, rest)

module _ (worth : ℕ → ℕ) (t : ℕ) where
  -- what numbers exceed the threshold by
  abbrev over : List ℕ → ℕ
  over = sum_by (λ n. worth n - t)

  -- no sum is greater, whatever the threshold
  best-under : (n first size : ℕ) → best_of worth n first size ≤ size * t + over (range_with_len first n)
  best-under n first zero = omega (arith, best_of-none worth n first)
  best-under zero first (suc size) = omega (arith, best_of-short worth 0 first (suc size) (omega arith))
  best-under (suc n) first (suc size) =
      grind (arith, common_steps, best-under n (first + 1) size, best-under n (first + 1) (suc size), cases_lt, best_of-short, best_of-more, sum_by-cons)

  -- how many reach a number, and one more or not
  more-yes : (least x : ℕ) (xs : List ℕ) → least ≤ worth x → reaching worth least (x ∷ xs) ≡ suc (reaching worth least xs)
  more-yes least x xs h = ap (λ b. length (cond b (x ∷ filter (λ n. nat_le least (worth n)) xs) (filter (λ n. nat_le least (worth n)) xs))) (le-leb least (worth x) h)

  more-no : (least x : ℕ) (xs : List ℕ) → worth x < least → reaching worth least (x ∷ xs) ≡ reaching worth least xs
  more-no least x xs h = ap (λ b. length (cond b (x ∷ filter (λ n. nat_le least (worth n)) xs) (filter (λ n. nat_le least (worth n)) xs))) (lt-leb least (worth x) h)

  above-fewer : (xs : List ℕ) → reaching worth (t + 1) xs ≤ reaching worth t xs
  above-fewer xs = grind (arith, common_steps, filter-fewer, le-leb, leb-true)

  pub reaching-most : (least : ℕ) (n first : ℕ) → reaching worth least (range_with_len first n) ≤ n
  reaching-most least n first =
      omega (
        arith,
        length-filter_both (λ x. nat_le least (worth x)) (λ x. not (nat_le least (worth x))) (λ x. refl) (range_with_len first n),
        length-range_with_len first n,
      )

  -- the first is among the best
  with-first : (n first size : ℕ) → size ≤ n → t ≤ worth first → size * t + over (range_with_len (first + 1) n) ≤ best_of worth n (first + 1) size
      → suc size * t + over (range_with_len first (suc n)) ≤ best_of worth (suc n) first (suc size)
  with-first n first size enough large rest = grind (arith, common_steps, rest, large, best_of-more, sum_by-cons)

  -- it is not
  without-first : (n first size : ℕ) → worth first ≤ t → size * t + over (range_with_len (first + 1) n) ≤ best_of worth n (first + 1) size
      → size * t + over (range_with_len first (suc n)) ≤ best_of worth (suc n) first size
  without-first n first size small rest = omega (arith, rest, small, best_of-next worth n first size, sum_by-cons (λ x. worth x - t) first (range_with_len (first + 1) n))

  -- with a right threshold it is reached
  under-best : (n first size : ℕ) → IsThreshold worth (range_with_len first n) size t → size * t + over (range_with_len first n) ≤ best_of worth n first size
  under-best zero first size is = grind (arith, common_steps)
  under-best (suc n) first size is = elim (cases_lt t (worth first)) [
    | inl above ↦ large size is above (under-best n (first + 1))
    | inr under ↦ elim (cases_lt (worth first) t) [
      | inl below ↦
          without-first n first size under (under-best n (first + 1) size (
            omega (arith, is.0, more-no (t + 1) first rest (omega (arith, below))),
            omega (arith, is.1, more-no t first rest below),
          ))
      | inr same ↦ elim (cases_lt (reaching worth t rest) size) [
        | inl all ↦ level size is under same all (under-best n (first + 1))
        | inr some ↦ without-first n first size under (under-best n (first + 1) size (omega (arith, is.0, more-no (t + 1) first rest (omega (arith, under))), some))
      ]
    ]
  ]
    where
      rest : List ℕ
      rest = range_with_len (first + 1) n

      large : (size : ℕ) → IsThreshold worth (range_with_len first (suc n)) size t → t < worth first → ((s : ℕ) → IsThreshold worth rest s t → s * t + over rest ≤ best_of worth n (first + 1) s)
          → size * t + over (range_with_len first (suc n)) ≤ best_of worth (suc n) first size
      large zero is above below = absurd (omega (arith, is.0, more-yes (t + 1) first rest (omega (arith, above))))
      large (suc s) is above below = grind (arith, common_steps, rest, more-yes, with-first, reaching-most)

      level : (size : ℕ) → IsThreshold worth (range_with_len first (suc n)) size t → worth first ≤ t → t ≤ worth first → reaching worth t rest < size
          → ((s : ℕ) → IsThreshold worth rest s t → s * t + over rest ≤ best_of worth n (first + 1) s)
          → size * t + over (range_with_len first (suc n)) ≤ best_of worth (suc n) first size
      level zero is under same all below = absurd (omega (arith, all))
      level (suc s) is under same all below =
          grind (arith, common_steps, rest, more-yes, with-first, reaching-most, above-fewer)

  -- so it is the greatest sum
  pub threshold-sum : (n first size : ℕ) → IsThreshold worth (range_with_len first n) size t → best_of worth n first size ≡ size * t + sum_by (λ x. worth x - t) (range_with_len first n)
  threshold-sum n first size is = omega (arith, best-under n first size, under-best n first size is)

  -- for the candidates after c
  pub sum-is : (c m left : ℕ) (numbers : List ℕ) → numbers ≡ range_with_len (c + 1) (m - c) → IsThreshold worth numbers left t
      → left * t + sum_by (λ n. worth n - t) numbers ≡ greatest_sum worth (c + 1) m left
  sum-is c m left numbers are is = grind (arith, common_steps, sum_by, threshold-sum, sum-of)

pub sum-most : (worth : ℕ → ℕ) (c m left most : ℕ) → ((n : ℕ) → worth n ≤ most) → greatest_sum worth (c + 1) m left ≤ left * most
sum-most worth c m left most each = omega (arith, sum-of worth c m left, best_of-most worth most each (m - c) (c + 1) left)

-- so many candidates come after c
pub after-fits : (c m left : ℕ) (numbers : List ℕ) → numbers ≡ range_with_len (c + 1) (m - c) → left ≤ m - c → left ≤ length numbers
after-fits c m left numbers are fits = omega (arith, fits, ap length are, length-range_with_len (c + 1) (m - c))

-- sums of amounts fit
pub sum-fits : (worth : ℕ → ℕ) (c m left : ℕ) → ((n : ℕ) → worth n < 2 ^ 122) → left ≤ 64 → greatest_sum worth (c + 1) m left < 2 ^ 128
sum-fits worth c m left small few = grind (arith, common_steps, mul-le-mul_right (2 ^ 122 - 1) few, sum-most)
