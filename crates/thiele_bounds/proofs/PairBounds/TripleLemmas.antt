-- Triples of members.
use Rattle.std.proofs.Common.{◌≡◌, ℕ, ◌+◌, ◌-◌, ◌*◌, ◌≤◌, ◌==◌, ◌&&◌, ◌∙◌, Bool, true, false, not, cond, List, [], ◌∷◌, refl, sym, ap, arith, min, sum, sum_by, take}
use Rattle.std.specs.List.{AllByRecursion}
use Rattle.std.proofs.Math.Nat.{mul-le-mul_left}
use Rattle.std.proofs.lemmas.List.Sums.{sum_by-cons}
use Rattle.ballot_base.specs.Lists.{IsIncreasing}
use Rattle.ballot_base.specs.CandSet.{has_member, common_members, without_member}
use Rattle.ballot_base.specs.Ballots.{Row, hits}
use Rattle.ballot_base.proofs.Increasing.{IsIncreasing-filter, same_increasing}
use Rattle.tie_walk.specs.Sequences.{supporters}
use Rattle.tie_walk.specs.Values.{thiele_value}
use Rattle.row_multipliers.specs.Completions.{IsNode, IsCompletion}
use Rattle.thiele_bounds.specs.Pairs.{all_constants, all_worth, all_overlap}
use Rattle.thiele_bounds.specs.Triples.{IsCubicMajorant, all_triples, sum_of_pairs, sum_of_triples}
use Rattle.row_multipliers.proofs.CompletionLemmas.{added-increasing, member-without}
use Rattle.thiele_bounds.proofs.PairBounds.PairLemmas.{hits-few, hits-joined, hits-sum, overlap-cons, sum-apart, sum-equal, sum-more, worth-cons}

-- how many members a ballot has
abbrev pub ones : (ℕ → Bool) → List ℕ → ℕ
ones has xs = sum_by (λ n. cond (has n) 1 0) xs

-- an amount for the triples that a ballot has
abbrev pub part : Bool → Bool → Bool → ℕ → ℕ
part p q r n = cond p (cond q (cond r n 0) 0) 0

pub rest-rises : (m i : ℕ) (xs : List ℕ) → IsIncreasing 1 m xs → IsIncreasing 1 m (without_member xs i)
rest-rises m i xs up = IsIncreasing-filter (λ x. not (x == i)) 1 m xs up

-- two members may be left out in either order
pub rests-turned : (m : ℕ) (xs : List ℕ) → IsIncreasing 1 m xs → (i j : ℕ) → without_member (without_member xs i) j ≡ without_member (without_member xs j) i
rests-turned m xs up i j = same_increasing 1 m (without_member (without_member xs i) j) (without_member (without_member xs j) i) (rest-rises m j (without_member xs i) (rest-rises m i xs up)) (rest-rises m i (without_member xs j) (rest-rises m j xs up))
    (λ n. member-without (without_member xs i) j n ∙ ap (λ b. not (n == j) && b) (member-without xs i n) ∙ turned (not (n == j)) (not (n == i)) (has_member xs n)
    ∙ sym (member-without (without_member xs j) i n ∙ ap (λ b. not (n == i) && b) (member-without xs j n)))
  where
    turned : (p r s : Bool) → (p && (r && s)) ≡ (r && (p && s))
    turned true true s = refl
    turned true false s = refl
    turned false true s = refl
    turned false false s = refl

-- pairs of a ballot count more by the same
pub of-pairs-more : (f g : ℕ → ℕ → ℕ) (has : ℕ → Bool) (more m : ℕ) (xs : List ℕ) → IsIncreasing 1 m xs
    → ((i j : ℕ) → g i j ≡ f i j + cond (has i) (cond (has j) more 0) 0)
    → sum_of_pairs g xs ≡ sum_of_pairs f xs + more * (ones has xs * (ones has xs - 1))
of-pairs-more f g has more m xs up are =
    let h = ones has xs in
    let turned : (a b : ℕ) → a * (b - 1) * b ≡ a * (b * (b - 1)) = λ a b. omega arith in
    omega (arith, sum-more (λ i. sum_by (f i) (without_member xs i)) (λ i. sum_by (g i) (without_member xs i)) has (more * (h - 1)) xs row, turned more h)
  where
    row : (i : ℕ) → has_member xs i ≡ true → sum_by (g i) (without_member xs i) ≡ sum_by (f i) (without_member xs i) + cond (has i) (more * (ones has xs - 1)) 0
    row i here = by (has i) refl (sum-apart (λ n. cond (has n) 1 0) m 1 i xs up here)
      where
        by : (b : Bool) → has i ≡ b → ones has xs ≡ cond b 1 0 + ones has (without_member xs i)
            → sum_by (g i) (without_member xs i) ≡ sum_by (f i) (without_member xs i) + cond b (more * (ones has xs - 1)) 0
        by true e count =
            let y : ones has xs - 1 ≡ ones has (without_member xs i) = omega (arith, count) in
            omega (arith, sum-more (f i) (g i) has more (without_member xs i) (λ j is. are i j ∙ ap (λ b. f i j + cond b (cond (has j) more 0) 0) e), ap (λ n. more * n) y)
        by false e count =
            let same : sum_by (g i) (without_member xs i) ≡ sum_by (f i) (without_member xs i) =
            sum-equal (g i) (f i) (without_member xs i) (λ j is. omega (arith, are i j ∙ ap (λ b. f i j + cond b (cond (has j) more 0) 0) e)) in
            omega (arith, same)

-- triples of a ballot count more by the same
pub of-triples-more : (f g : ℕ → ℕ → ℕ → ℕ) (has : ℕ → Bool) (more m : ℕ) (xs : List ℕ) → IsIncreasing 1 m xs
    → ((i j l : ℕ) → g i j l ≡ f i j l + part (has i) (has j) (has l) more)
    → sum_of_triples g xs ≡ sum_of_triples f xs + more * (ones has xs * ((ones has xs - 1) * (ones has xs - 2)))
of-triples-more f g has more m xs up are =
    let h = ones has xs in
    let turned : (a b c d : ℕ) → a * (c * d) * b ≡ a * (b * (c * d)) = λ a b c d. omega arith in
    omega (arith, sum-more (λ i. sum_of_pairs (f i) (without_member xs i)) (λ i. sum_of_pairs (g i) (without_member xs i)) has (more * ((h - 1) * (h - 2))) xs row, turned more h (h - 1) (h - 2))
  where
    row : (i : ℕ) → has_member xs i ≡ true → sum_of_pairs (g i) (without_member xs i) ≡ sum_of_pairs (f i) (without_member xs i) + cond (has i) (more * ((ones has xs - 1) * (ones has xs - 2))) 0
    row i here = by (has i) refl (sum-apart (λ n. cond (has n) 1 0) m 1 i xs up here)
      where
        rest : List ℕ
        rest = without_member xs i

        by : (b : Bool) → has i ≡ b → ones has xs ≡ cond b 1 0 + ones has (without_member xs i)
            → sum_of_pairs (g i) (without_member xs i) ≡ sum_of_pairs (f i) (without_member xs i) + cond b (more * ((ones has xs - 1) * (ones has xs - 2))) 0
        by true e count =
            let y : ones has xs - 1 ≡ ones has (without_member xs i) = omega (arith, count) in
            let z : ones has xs - 2 ≡ ones has (without_member xs i) - 1 = omega (arith, count) in
            omega (
              arith,
              of-pairs-more (f i) (g i) has more m (without_member xs i) (rest-rises m i xs up) (λ j l. are i j l ∙ ap (λ b. f i j l + part b (has j) (has l) more) e),
              ap (λ n. more * (n * (ones has xs - 2))) y,
              ap (λ n. more * (ones has (without_member xs i) * n)) z,
            )
        by false e count =
            let same : sum_of_pairs (g i) (without_member xs i) ≡ sum_of_pairs (f i) (without_member xs i) =
            sum-equal (λ j. sum_by (g i j) (without_member (without_member xs i) j)) (λ j. sum_by (f i j) (without_member (without_member xs i) j)) (without_member xs i)
            (λ j is. sum-equal (g i j) (f i j) (without_member (without_member xs i) j) (λ l is'. omega (arith, are i j l ∙ ap (λ b. f i j l + part b (has j) (has l) more) e))) in
            omega (arith, same)

-- the triples of a row more
pub triples-cons : (triple : Row → ℕ) (row : Row) (rows : List Row) (i j l : ℕ)
    → all_triples triple (row ∷ rows) i j l ≡ all_triples triple rows i j l + part (has_member row.0 i) (has_member row.0 j) (has_member row.0 l) (row.1 * triple row)
triples-cons triple row rows i j l = by (has_member row.0 i)
  where
    by : (b : Bool) → all_overlap triple (cond b (row ∷ supporters rows i) (supporters rows i)) j l ≡ all_overlap triple (supporters rows i) j l + part b (has_member row.0 j) (has_member row.0 l) (row.1 * triple row)
    by true = overlap-cons triple row (supporters rows i) j l
    by false = omega arith

-- the voters of one row, with h hits among those who join
one-row : (scale unit voters given constant worth overlap triple h pairs triples : ℕ)
    → scale * given + unit * (overlap * pairs) ≤ unit * (constant + worth * h + triple * triples)
    → scale * (voters * given) + unit * (voters * overlap * pairs) ≤ unit * (voters * constant + voters * worth * h + voters * triple * triples)
one-row scale unit voters given constant worth overlap triple h pairs triples one =
    let all : voters * (scale * given + unit * (overlap * pairs)) ≤ voters * (unit * (constant + worth * h + triple * triples)) = mul-le-mul_left voters one in
    let low : (v s g u o p : ℕ) → v * (s * g + u * (o * p)) ≡ s * (v * g) + u * (v * o * p) = λ v s g u o p. omega arith in
    let top : (v u k w h t q : ℕ) → v * (u * (k + w * h + t * q)) ≡ u * (v * k + v * w * h + v * t * q) = λ v u k w h t q. omega arith in
    omega (arith, all, low voters scale given unit overlap pairs, top voters unit constant worth h triple triples)

module _ (weights : List ℕ) (scale unit m : ℕ) (set free : List ℕ) (left : ℕ) (committee : List ℕ) (is_node : IsNode m set free) (whole : IsCompletion m set free left committee)
    (constant worth overlap : Row → ℕ) (triple : Row → ℕ) where
  abbrev more : List ℕ
  more = common_members free committee

  none-pairs : (xs : List ℕ) → sum_by (λ i. sum_by (all_overlap overlap [] i) (without_member more i)) xs ≡ 0
  none-pairs [] = refl
  none-pairs (x ∷ xs) = omega (arith, none-pairs xs, none (without_member more x), sum_by-cons (λ i. sum_by (all_overlap overlap [] i) (without_member more i)) x xs)
    where
      none : (ys : List ℕ) → sum_by (all_overlap overlap [] x) ys ≡ 0
      none [] = refl
      none (y ∷ ys) = omega (arith, none ys, sum_by-cons (all_overlap overlap [] x) y ys)

  pub triples-bound : (rows : List Row) → AllByRecursion (λ row. IsIncreasing 1 m row.0) rows
      → AllByRecursion (λ row. IsCubicMajorant weights scale unit (hits row.0 set) (min left (hits row.0 free)) (constant row) (worth row) (overlap row) (triple row)) rows
      → scale * thiele_value weights rows committee + unit * sum_of_pairs (all_overlap overlap rows) more
      ≤ unit * (all_constants constant rows + sum_by (all_worth worth rows) more + sum_of_triples (all_triples triple rows) more)
  triples-bound [] ups are = omega (arith, ap (λ n. unit * n) (none-pairs more))
  triples-bound (row ∷ rows) ups are =
      let has = has_member row.0 in
      let up = added-increasing m set free left committee is_node whole in
      let h = ones has more in
      let count : hits row.0 more ≡ h = hits-sum weights scale unit m set free left committee is_node whole row.0 ups.0 in
      let given = sum (take (hits row.0 set + h) weights) in
      let few : h ≤ min left (hits row.0 free) = omega (arith, count, hits-few weights scale unit m set free left committee is_node whole row.0 ups.0) in
      let pairs : ℕ = h * (h - 1) in
      let triples : ℕ = h * ((h - 1) * (h - 2)) in
      let one = one-row scale unit row.1 given (constant row) (worth row) (overlap row) (triple row) h pairs triples (are.0 h few) in
      let constants = sum_by-cons (λ (r : Row). r.1 * constant r) row rows in
      let worths : sum_by (all_worth worth (row ∷ rows)) more ≡ sum_by (all_worth worth rows) more + row.1 * worth row * h =
      sum-more (all_worth worth rows) (all_worth worth (row ∷ rows)) has (row.1 * worth row) more (λ n is. worth-cons worth row rows n) in
      let overlaps : sum_of_pairs (all_overlap overlap (row ∷ rows)) more ≡ sum_of_pairs (all_overlap overlap rows) more + row.1 * overlap row * pairs =
      of-pairs-more (all_overlap overlap rows) (all_overlap overlap (row ∷ rows)) has (row.1 * overlap row) m more up (overlap-cons overlap row rows) in
      let thirds : sum_of_triples (all_triples triple (row ∷ rows)) more ≡ sum_of_triples (all_triples triple rows) more + row.1 * triple row * triples =
      of-triples-more (all_triples triple rows) (all_triples triple (row ∷ rows)) has (row.1 * triple row) m more up (triples-cons triple row rows) in
      let value : thiele_value weights (row ∷ rows) committee ≡ row.1 * given + thiele_value weights rows committee =
      sum_by-cons (λ (r : Row). r.1 * sum (take (hits r.0 committee) weights)) row rows
      ∙ ap (λ n. row.1 * sum (take n weights) + thiele_value weights rows committee) (hits-joined weights scale unit m set free left committee is_node whole row.0 ∙ ap (λ n. hits row.0 set + n) count) in
      combine (thiele_value weights (row ∷ rows) committee) (row.1 * given) (thiele_value weights rows committee) (sum_of_pairs (all_overlap overlap (row ∷ rows)) more) (sum_of_pairs (all_overlap overlap rows) more) (row.1 * overlap row * pairs)
      (all_constants constant (row ∷ rows)) (all_constants constant rows) (row.1 * constant row) (sum_by (all_worth worth (row ∷ rows)) more) (sum_by (all_worth worth rows) more) (row.1 * worth row * h)
      (sum_of_triples (all_triples triple (row ∷ rows)) more) (sum_of_triples (all_triples triple rows) more) (row.1 * triple row * triples) value overlaps constants worths thirds one (triples-bound rows ups.1 are.1)
    where
      combine : (v a v0 o o0 b k k0 c w w0 d t t0 e : ℕ) → v ≡ a + v0 → o ≡ o0 + b → k ≡ c + k0 → w ≡ w0 + d → t ≡ t0 + e
          → scale * a + unit * b ≤ unit * (c + d + e) → scale * v0 + unit * o0 ≤ unit * (k0 + w0 + t0) → scale * v + unit * o ≤ unit * (k + w + t)
      combine v a v0 o o0 b k k0 c w w0 d t t0 e v-is o-is k-is w-is t-is one before =
          let two : (x y z : ℕ) → x * (y + z) ≡ x * y + x * z = λ x y z. omega arith in
          let six : (x c k d w e t : ℕ) → x * (c + k + (w + d) + (t + e)) ≡ x * (c + d + e) + x * (k + w + t) = λ x c k d w e t. omega arith in
          omega (
            arith,
            one,
            before,
            ap (λ n. scale * n) v-is,
            two scale a v0,
            ap (λ n. unit * n) o-is,
            two unit o0 b,
            ap (λ n. unit * (n + w + t)) k-is,
            ap (λ n. unit * (c + k0 + n + t)) w-is,
            ap (λ n. unit * (c + k0 + (w0 + d) + n)) t-is,
            six unit c k0 d w0 e t0,
          )
