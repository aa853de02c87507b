-- The greatest sum of so many numbers, one number more at a time.
use Rattle.std.proofs.lemmas.Grind.{common_steps}
use Rattle.std.proofs.Common.{◌≡◌, ℕ, zero, suc, ◌+◌, ◌-◌, ◌*◌, ◌<◌, ◌≤◌, ◌∙◌, List, [], ◌∷◌, ◌++◌, refl, sym, ap, arith, map, max, sum_by}
use Rattle.std.specs.Prelude.{fold}
use Rattle.std.specs.List.{AllByRecursion}
use Rattle.std.proofs.lemmas.Bool.{cases_lt}
use Rattle.std.proofs.lemmas.List.{append-nil, map-append}
use Rattle.std.proofs.lemmas.List.Sums.{sum_by-cons, fold-append}
use Rattle.ballot_base.specs.Lists.{IsIncreasing, lists_of, increasing_lists}
use Rattle.ballot_base.proofs.Committees.{IsChosen, increasing_lists-chosen}
use Rattle.tie_walk.specs.Ceilings.{IsBound, ceiling, gain_at, greatest_sum}
use Rattle.tie_walk.proofs.WinnersLemmas.{greatest}

pub lists-short : (n first size : ℕ) → n < size → lists_of n first size ≡ []
unfolding lists_of
lists-short n first zero h = absurd (omega arith)
lists-short zero first (suc size) h = refl
lists-short (suc n) first (suc size) h = rw (lists-short n (first + 1) size (omega arith), lists-short n (first + 1) (suc size) (omega arith))

pub lists-empty : (n first : ℕ) → lists_of n first 0 ≡ [] ∷ []
unfolding lists_of
lists-empty zero first = refl
lists-empty (suc n) first = refl

pub lists-more : (n first size : ℕ) → lists_of (suc n) first (suc size) ≡ map (λ rest. first ∷ rest) (lists_of n (first + 1) size) ++ lists_of n (first + 1) (suc size)
unfolding lists_of
lists-more n first size = refl

-- there is a list where there are enough numbers
pub some_list : (n first size : ℕ) → size ≤ n → (list : List ℕ) × (lists : List (List ℕ)) × (lists_of n first size ≡ list ∷ lists)
some_list n first zero h = ([], [], lists-empty n first)
some_list zero first (suc size) h = absurd (omega arith)
some_list (suc n) first (suc size) h =
    grind (arith, common_steps, some_list n (first + 1) size (omega arith), lists-more n first size)

greatest-from : {X : Type 0} (value : X → ℕ) (low : ℕ) (xs : List X) → greatest value low xs ≡ max low (greatest value 0 xs)
greatest-from value low [] = omega arith
greatest-from value low (x ∷ xs) = omega (arith, greatest-from value (max low (value x)) xs, greatest-from value (max 0 (value x)) xs)

module _ (worth : ℕ → ℕ) where
  -- of the n numbers from first on
  abbrev pub best_of : ℕ → ℕ → ℕ → ℕ
  best_of n first size = greatest (sum_by worth) 0 (lists_of n first size)

  pub best_of-none : (n first : ℕ) → best_of n first 0 ≡ 0
  best_of-none n first = ap (greatest (sum_by worth) 0) (lists-empty n first)

  pub best_of-short : (n first size : ℕ) → n < size → best_of n first size ≡ 0
  best_of-short n first size h = ap (greatest (sum_by worth) 0) (lists-short n first size h)

  shifted : (first low : ℕ) (lists : List (List ℕ)) → greatest (sum_by worth) (worth first + low) (map (λ rest. first ∷ rest) lists) ≡ worth first + greatest (sum_by worth) low lists
  shifted first low [] = refl
  shifted first low (list ∷ lists) =
      grind (arith, common_steps, shifted first (max low (sum_by worth list)) lists, max, sum_by, sum_by-cons, greatest, map)

  shifted_some : (first : ℕ) (list : List ℕ) (lists : List (List ℕ)) → greatest (sum_by worth) 0 (map (λ rest. first ∷ rest) (list ∷ lists)) ≡ worth first + greatest (sum_by worth) 0 (list ∷ lists)
  shifted_some first list lists = grind (arith, common_steps, max, sum_by, sum_by-cons, greatest, map, shifted)

  -- one number more is among the best, or it is not
  pub best_of-more : (n first size : ℕ) → size ≤ n → best_of (suc n) first (suc size) ≡ max (best_of n (first + 1) (suc size)) (best_of n (first + 1) size + worth first)
  best_of-more n first size h =
      let some = some_list n (first + 1) size h in
      let with' = map (λ rest. first ∷ rest) (lists_of n (first + 1) size) in
      let without' = lists_of n (first + 1) (suc size) in
      let apart : best_of (suc n) first (suc size) ≡ greatest (sum_by worth) (greatest (sum_by worth) 0 with') without' =
      ap (greatest (sum_by worth) 0) (lists-more n first size) ∙ ap (fold max 0) (map-append (sum_by worth) with' without')
      ∙ fold-append max 0 (map (sum_by worth) with') (map (sum_by worth) without') in
      let first' : greatest (sum_by worth) 0 with' ≡ worth first + best_of n (first + 1) size =
      ap (λ ls. greatest (sum_by worth) 0 (map (λ rest. first ∷ rest) ls)) some.2 ∙ shifted_some first some.0 some.1 ∙ ap (λ ls. worth first + greatest (sum_by worth) 0 ls) (sym some.2) in
      omega (arith, apart, first', greatest-from (sum_by worth) (greatest (sum_by worth) 0 with') without')

  pub best_of-most : (most : ℕ) → ((n : ℕ) → worth n ≤ most) → (n first size : ℕ) → best_of n first size ≤ size * most
  best_of-most most each n first zero = omega (arith, best_of-none n first)
  best_of-most most each zero first (suc size) = omega (arith, best_of-short 0 first (suc size) (omega arith))
  best_of-most most each (suc n) first (suc size) =
      grind (arith, common_steps, best_of-most most each n (first + 1) size, best_of-most most each n (first + 1) (suc size), cases_lt, best_of-short, best_of-more)

  pub sum-of : (c m size : ℕ) → greatest_sum worth (c + 1) m size ≡ best_of (m - c) (c + 1) size
  sum-of c m size = grind (arith, common_steps)

  -- more numbers to choose from
  pub best_of-next : (n first size : ℕ) → best_of n (first + 1) size ≤ best_of (suc n) first size
  best_of-next n first zero = omega (arith, best_of-none n (first + 1), best_of-none (suc n) first)
  best_of-next n first (suc size) = grind (arith, common_steps, cases_lt, best_of-short, best_of-more)

module _ (f g : ℕ → ℕ) (first last : ℕ) (same : (n : ℕ) → first ≤ n → n ≤ last → f n ≡ g n) where
  pub same_sum : (low : ℕ) (list : List ℕ) → first ≤ low → IsIncreasing low last list → sum_by f list ≡ sum_by g list
  same_sum low [] h up = refl
  same_sum low (n ∷ list) h up =
      omega (arith, same n (omega (arith, up.0)) up.1, same_sum (n + 1) list (omega (arith, up.0)) up.2, sum_by-cons f n list, sum_by-cons g n list)

  same_sums : (low size : ℕ) (lists : List (List ℕ)) → AllByRecursion (IsChosen first last size) lists → greatest (sum_by f) low lists ≡ greatest (sum_by g) low lists
  same_sums low size [] all = refl
  same_sums low size (list ∷ lists) all =
      ap (λ n. greatest (sum_by f) (max low n) lists) (same_sum first list (omega arith) all.0.0) ∙ same_sums (max low (sum_by g list)) size lists all.1

  -- only what the numbers from first to last have matters
  pub greatest_sum-same : (size : ℕ) → greatest_sum f first last size ≡ greatest_sum g first last size
  greatest_sum-same size = same_sums 0 size (increasing_lists first last size) (increasing_lists-chosen first last size)

-- no number has the sum 0, so that a set to which nobody is left to add reaches its own value
pub greatest_sum-none : (worth : ℕ → ℕ) (first last : ℕ) → greatest_sum worth first last 0 ≡ 0
greatest_sum-none worth first last = ap (λ lists. fold max 0 (map (sum_by worth) lists)) (lists-empty (last + 1 - first) first)

pub ceiling-whole : (value : List ℕ → ℕ) (m c : ℕ) (set : List ℕ) → ceiling value m c set 0 ≡ value set
ceiling-whole value m c set = omega (arith, greatest_sum-none (gain_at value set) (c + 1) m)

pub whole-bounds : (value : List ℕ → ℕ) (m c : ℕ) (set : List ℕ) (left n : ℕ) → left ≡ 0 → n ≡ value set → IsBound value m c set left n
whole-bounds value m c set left n none is [] up size = omega (arith, is, ap value (append-nil set))
whole-bounds value m c set left n none is (x ∷ xs) up size = absurd (omega (arith, none, size))
