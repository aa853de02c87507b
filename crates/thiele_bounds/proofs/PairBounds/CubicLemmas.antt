-- The cubics of rows, and what they add up to.
use Rattle.std.proofs.Common.{◌≡◌, ℕ, zero, suc, ◌+◌, ◌-◌, ◌*◌, ◌<◌, ◌≤◌, ◌∙◌, Bool, true, false, cond, List, [], ◌∷◌, Some, refl, sym, ap, subst, arith, inl, inr, filter, length, max, min, set, sum, sum_by, take, get_or, slice_get}
use Rattle.std.specs.List.{AllByRecursion}
use Rattle.std.proofs.Math.Nat.{mul-le-mul_left}
use Rattle.std.proofs.lemmas.Bool.{cases_lt}
use Rattle.std.proofs.lemmas.List.{get_or-set_other, get_or-set_same}
use Rattle.std.proofs.lemmas.List.Sums.{sum_by-cons, sum_by_more}
use Rattle.std.proofs.lemmas.Option.{get_or_from_slice_get, slice_get_within}
use Rattle.ballot_base.specs.Ballots.{Row, hits}
use Rattle.ballot_base.specs.CandSet.{has_member, without_member}
use Rattle.ballot_base.specs.Limits.{most_candidates}
use Rattle.ballot_base.specs.Lists.{IsIncreasing}
use Rattle.tie_walk.specs.Sequences.{supporters}
use Rattle.row_multipliers.specs.Completions.{IsNode}
use Rattle.thiele_bounds.specs.Pairs.{all_overlap, all_worth}
use Rattle.thiele_bounds.specs.Triples.{IsCubicMajorant, all_triples, sum_of_two, threshold_sum}
use Rattle.thiele_bounds.specs.Steps.Cubics.{bend_at, fall_at, highest, increment_at, lack, row_constant, row_overlap, row_triple, row_worth}
use Rattle.thiele_bounds.specs.Steps.Paired.{AreSmallSums, AreSums, most_sum}
use Rattle.thiele_bounds.specs.Steps.Threes.{IsSumOfOne, roughly}
use Rattle.thiele_bounds.proofs.PairBounds.OverlapLemmas.{portion}
use Rattle.thiele_bounds.proofs.PairBounds.PairLemmas.{sum-equal, sum-less}
use Rattle.thiele_bounds.proofs.PairBounds.PairTotals.{hits-both}
use Rattle.thiele_bounds.proofs.PairBounds.TripleLemmas.{part}

-- ---- one cubic

highest-suc : (number : ℕ → ℕ) (n : ℕ) → highest number (suc n) ≡ max (number n) (highest number n)
unfolding highest
highest-suc number n = refl

pub highest-next : (number : ℕ → ℕ) (n : ℕ) → highest number (n + 1) ≡ max (number n) (highest number n)
highest-next number n = ap (highest number) (let next : n + 1 ≡ suc n = omega arith in next) ∙ highest-suc number n

pub highest-above : (number : ℕ → ℕ) (n h : ℕ) → h < n → number h ≤ highest number n
highest-above number zero h few = absurd (omega (arith, few))
highest-above number (suc n) h few = elim (cases_lt h n) [
  | inl low ↦ omega (arith, highest-above number n h low, highest-suc number n)
  | inr high ↦ let same : h ≡ n = omega (arith, few, high) in omega (arith, ap number same, highest-suc number n)
]

pub increment-small : (sums : List ℕ) → AreSmallSums sums → (hits : ℕ) → hits ≤ 63 → increment_at sums hits ≤ most_sum sums
increment-small sums small hits few = omega (arith, small.none_above (hits + 1) (omega (arith, few)))

pub fall-small : (sums : List ℕ) → AreSmallSums sums → (hits : ℕ) → hits ≤ 62 → fall_at sums hits ≤ most_sum sums
fall-small sums small hits few = omega (arith, increment-small sums small hits (omega (arith, few)))

pub bend-small : (sums : List ℕ) → AreSmallSums sums → (hits : ℕ) → hits ≤ 61 → bend_at sums hits ≤ most_sum sums
bend-small sums small hits few = omega (arith, fall-small sums small hits (omega (arith, few)))

-- the cubic of a row is a majorant
pub cubic-is : (weights sums : List ℕ) (scale unit m shift : ℕ) (set free : List ℕ) (left : ℕ) → m ≤ most_candidates → IsNode m set free → AreSums weights scale unit sums → (row : Row) → IsIncreasing 1 m row.0
    → IsCubicMajorant weights scale unit (hits row.0 set) (min left (hits row.0 free)) (row_constant sums shift set free left row) (row_worth sums shift set free left row) (row_overlap sums shift set free left row)
    (row_triple sums shift set free left row)
cubic-is weights sums scale unit m shift set free left most is_node are row up h few =
    let before = hits row.0 set in
    let worth = row_worth sums shift set free left row in
    let overlap = row_overlap sums shift set free left row in
    let triple = row_triple sums shift set free left row in
    let constant = row_constant sums shift set free left row in
    let low : lack sums before worth overlap triple h ≤ constant = highest-above (lack sums before worth overlap triple) (min left (hits row.0 free) + 1) h (omega (arith, few)) in
    let bounds : get_or sums (before + h) 0 + overlap * (h * (h - 1)) ≤ constant + worth * h + triple * (h * ((h - 1) * (h - 2))) = omega (arith, low) in
    let units : unit * (get_or sums (before + h) 0 + overlap * (h * (h - 1))) ≤ unit * (constant + worth * h + triple * (h * ((h - 1) * (h - 2)))) = mul-le-mul_left unit bounds in
    let split : (a b c : ℕ) → a * (b + c) ≡ a * b + a * c = λ a b c. omega arith in
    let within : before + h ≤ most_candidates = omega (arith, few, hits-both m row.0 set free up most is_node) in
    omega (arith, units, split unit (get_or sums (before + h) 0) (overlap * (h * (h - 1))), are.up (before + h) within)

pub cubics-are : (weights sums : List ℕ) (scale unit m shift : ℕ) (set free : List ℕ) (left : ℕ) → m ≤ most_candidates → IsNode m set free → AreSums weights scale unit sums → (rows : List Row)
    → AllByRecursion (λ (row : Row). IsIncreasing 1 m row.0) rows
    → AllByRecursion (λ (row : Row). IsCubicMajorant weights scale unit (hits row.0 set) (min left (hits row.0 free)) (row_constant sums shift set free left row) (row_worth sums shift set free left row)
    (row_overlap sums shift set free left row) (row_triple sums shift set free left row)) rows
cubics-are weights sums scale unit m shift set free left most is_node are [] ups = tt
cubics-are weights sums scale unit m shift set free left most is_node are (row ∷ rows) ups =
    (cubic-is weights sums scale unit m shift set free left most is_node are row ups.0, cubics-are weights sums scale unit m shift set free left most is_node are rows ups.1)

-- ---- sums over rows

-- a sum over some rows
filter-sum : (f : Row → ℕ) (p : Row → Bool) (rows : List Row) → sum_by f (filter p rows) ≡ sum_by (λ (r : Row). cond (p r) (f r) 0) rows
filter-sum f p [] = refl
filter-sum f p (row ∷ rows) = omega (arith, head (p row) (filter-sum f p rows), sum_by-cons (λ (r : Row). cond (p r) (f r) 0) row rows)
  where
    head : (b : Bool) → sum_by f (filter p rows) ≡ sum_by (λ (r : Row). cond (p r) (f r) 0) rows
        → sum_by f (cond b (row ∷ filter p rows) (filter p rows)) ≡ cond b (f row) 0 + sum_by (λ (r : Row). cond (p r) (f r) 0) rows
    head true rest = omega (arith, sum_by-cons f row (filter p rows), rest)
    head false rest = omega (arith, rest)

worth-sum : (worth : Row → ℕ) (rows : List Row) (n : ℕ) → all_worth worth rows n ≡ sum_by (λ (r : Row). cond (has_member r.0 n) (r.1 * worth r) 0) rows
worth-sum worth rows n = filter-sum (λ (r : Row). r.1 * worth r) (λ (r : Row). has_member r.0 n) rows

overlap-sum : (overlap : Row → ℕ) (rows : List Row) (i j : ℕ) → all_overlap overlap rows i j ≡ sum_by (λ (r : Row). portion (has_member r.0 i) (has_member r.0 j) (r.1 * overlap r)) rows
overlap-sum overlap rows i j =
    filter-sum (λ (r : Row). r.1 * overlap r) (λ (r : Row). has_member r.0 j) (supporters rows i)
    ∙ filter-sum (λ (r : Row). cond (has_member r.0 j) (r.1 * overlap r) 0) (λ (r : Row). has_member r.0 i) rows

pub triple-sum : (triple : Row → ℕ) (rows : List Row) (i j l : ℕ)
    → all_triples triple rows i j l ≡ sum_by (λ (r : Row). part (has_member r.0 i) (has_member r.0 j) (has_member r.0 l) (r.1 * triple r)) rows
triple-sum triple rows i j l =
    overlap-sum triple (supporters rows i) j l
    ∙ filter-sum (λ (r : Row). portion (has_member r.0 j) (has_member r.0 l) (r.1 * triple r)) (λ (r : Row). has_member r.0 i) rows

module _ (rows : List Row) (i : ℕ) (row : Row) (found : slice_get rows i ≡ Some row) where
  pub row-more : (f : Row → ℕ) → sum_by f (take (i + 1) rows) ≡ sum_by f (take i rows) + f row
  row-more f =
      let here : get_or rows i row ≡ row = get_or_from_slice_get rows i row row found in
      let within : i < length rows = slice_get_within rows i row found in
      rw here at (sum_by_more f rows i row within)

  pub worth-more : (worth : Row → ℕ) (n : ℕ) → all_worth worth (take (i + 1) rows) n ≡ all_worth worth (take i rows) n + cond (has_member row.0 n) (row.1 * worth row) 0
  worth-more worth n =
      omega (arith, worth-sum worth (take (i + 1) rows) n, worth-sum worth (take i rows) n, row-more (λ (r : Row). cond (has_member r.0 n) (r.1 * worth r) 0))

  pub overlap-more : (overlap : Row → ℕ) (a b : ℕ) → all_overlap overlap (take (i + 1) rows) a b ≡ all_overlap overlap (take i rows) a b + portion (has_member row.0 a) (has_member row.0 b) (row.1 * overlap row)
  overlap-more overlap a b =
      omega (
        arith,
        overlap-sum overlap (take (i + 1) rows) a b,
        overlap-sum overlap (take i rows) a b,
        row-more (λ (r : Row). portion (has_member r.0 a) (has_member r.0 b) (r.1 * overlap r)),
      )

  pub triple-more : (triple : Row → ℕ) (a b c : ℕ)
      → all_triples triple (take (i + 1) rows) a b c ≡ all_triples triple (take i rows) a b c + part (has_member row.0 a) (has_member row.0 b) (has_member row.0 c) (row.1 * triple row)
  triple-more triple a b c =
      omega (
        arith,
        triple-sum triple (take (i + 1) rows) a b c,
        triple-sum triple (take i rows) a b c,
        row-more (λ (r : Row). part (has_member r.0 a) (has_member r.0 b) (has_member r.0 c) (r.1 * triple r)),
      )

-- ---- tables

-- one more is made
pub set-made : (P : ℕ → ℕ → Type 0) (xs : List ℕ) (n v : ℕ) → n < length xs → ((x : ℕ) → x < n → P x (get_or xs x 0)) → P n v → (x : ℕ) → x < n + 1 → P x (get_or (set xs n v) x 0)
set-made P xs n v within made here x low = elim (cases_lt x n) [
  | inl less ↦ subst (P x) (sym (get_or-set_other xs n x v 0 (λ same. absurd (omega (arith, less, same))))) (made x less)
  | inr high ↦
      let same : n ≡ x = omega (arith, low, high) in
      subst (λ y. P y (get_or (set xs n v) y 0)) same (subst (P n) (sym (get_or-set_same xs n v 0 within)) here)
]

-- ---- row sums

-- rounded up, the sum is no lower
pub threshold-rough : (f g : ℕ → ℕ) (xs : List ℕ) (count t : ℕ) → ((n : ℕ) → has_member xs n ≡ true → f n ≤ roughly * g n) → threshold_sum f xs count (roughly * t) ≤ roughly * threshold_sum g xs count t
threshold-rough f g xs count t less =
    let turned : (a b c : ℕ) → a * (b * c) ≡ b * (a * c) = λ a b c. omega arith in
    omega (arith, sum-less (λ n. f n - roughly * t) (λ n. roughly * (g n - t)) xs (λ n is. omega (arith, less n is)), scaled (λ n. g n - t) xs, turned count roughly t)
  where
    scaled : (h : ℕ → ℕ) (xs : List ℕ) → sum_by (λ n. roughly * h n) xs ≡ roughly * sum_by h xs
    scaled h [] = refl
    scaled h (x ∷ xs) = omega (arith, scaled h xs, sum_by-cons h x xs, sum_by-cons (λ n. roughly * h n) x xs)

pub threshold-less : (f g : ℕ → ℕ) (xs : List ℕ) (count t : ℕ) → ((n : ℕ) → has_member xs n ≡ true → f n ≤ g n) → threshold_sum f xs count t ≤ threshold_sum g xs count t
threshold-less f g xs count t less = omega (arith, sum-less (λ n. f n - t) (λ n. g n - t) xs (λ n is. omega (arith, less n is)))

pub threshold-same : (f g : ℕ → ℕ) (xs : List ℕ) (count t : ℕ) → ((n : ℕ) → has_member xs n ≡ true → f n ≡ g n) → threshold_sum f xs count t ≡ threshold_sum g xs count t
threshold-same f g xs count t same = omega (arith, sum-equal (λ n. f n - t) (λ n. g n - t) xs (λ n is. ap (λ x. x - t) (same n is)))

-- what there is for each member, as a function
pick : {T : Type 0} (P : ℕ → T → Type 0) (xs : List ℕ) (none : T) → ((n : ℕ) → has_member xs n ≡ true → (t : T) × P n t) → (n : ℕ) (b : Bool) → has_member xs n ≡ b → T
pick P xs none some n true is = (some n is).0
pick P xs none some n false is = none

pub choose : {T : Type 0} (P : ℕ → T → Type 0) (xs : List ℕ) (none : T) → ((n : ℕ) → has_member xs n ≡ true → (t : T) × P n t) → ℕ → T
choose P xs none some n = pick P xs none some n (has_member xs n) refl

pub chosen : {T : Type 0} (P : ℕ → T → Type 0) (xs : List ℕ) (none : T) (some : (n : ℕ) → has_member xs n ≡ true → (t : T) × P n t) (n : ℕ) → has_member xs n ≡ true → P n (choose P xs none some n)
unfolding pick choose
chosen P xs none some n here = by (has_member xs n) refl here
  where
    by : (b : Bool) (is : has_member xs n ≡ b) → b ≡ true → P n (pick P xs none some n b is)
    by true is so = (some n is).1
    by false is so = absurd cc

-- worths of three that are equal have equal row sums
pub one-same : (three other : ℕ → ℕ → ℕ → ℕ) (free : List ℕ) (left i sum : ℕ)
    → ((j l : ℕ) → has_member (without_member free i) j ≡ true → has_member (without_member (without_member free i) j) l ≡ true → three i j l ≡ other i j l)
    → IsSumOfOne three free left i sum → IsSumOfOne other free left i sum
one-same three other free left i sum same (third, second, is) = (
  third,
  second,
  omega (
    arith,
    is,
    threshold-same (sum_of_two three free left (λ n. third) i) (sum_of_two other free left (λ n. third) i) (without_member free i) (left - 1) second
        (λ j here. threshold-same (three i j) (other i j) (without_member (without_member free i) j) (left - 2) (third j) (λ l there. same j l here there)),
  ),
)

-- lower worths of three have lower row sums
pub one-less : (three other : ℕ → ℕ → ℕ → ℕ) (free : List ℕ) (left i sum : ℕ)
    → ((j l : ℕ) → has_member (without_member free i) j ≡ true → has_member (without_member (without_member free i) j) l ≡ true → three i j l ≤ other i j l)
    → IsSumOfOne other free left i sum → IsSumOfOne three free left i sum
one-less three other free left i sum less (third, second, is) = (
  third,
  second,
  omega (
    arith,
    is,
    threshold-less (sum_of_two three free left (λ n. third) i) (sum_of_two other free left (λ n. third) i) (without_member free i) (left - 1) second
        (λ j here. threshold-less (three i j) (other i j) (without_member (without_member free i) j) (left - 2) (third j) (λ l there. less j l here there)),
  ),
)
