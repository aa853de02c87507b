-- What the majorants of the rows so far add up to.
use Rattle.std.proofs.Common.{◌≡◌, ℕ, ◌+◌, ◌*◌, ◌^◌, ◌<◌, ◌≤◌, ◌∙◌, Bool, true, false, cond, List, [], ◌∷◌, ◌++◌, Some, refl, ap, arith, length, min, sum, sum_by, take, get_or, slice_get}
use Rattle.std.specs.Prelude.{slice_index}
use Rattle.std.proofs.Math.Nat.{mul-le-mul_left}
use Rattle.std.proofs.lemmas.List.Sums.{count_by-le-length, sum_by-cons, sum_by-take-le, sum_by_more}
use Rattle.std.proofs.lemmas.Option.{get_or_from_slice_get, slice_get_within}
use Rattle.ballot_base.specs.CandSet.{has_member, common_members}
use Rattle.ballot_base.specs.Limits.{most_candidates}
use Rattle.ballot_base.specs.Lists.{IsIncreasing}
use Rattle.ballot_base.specs.Ballots.{Row, Election, IsElection, hits, voter_count}
use Rattle.ballot_base.proofs.Committees.{length-increasing}
use Rattle.tie_walk.proofs.Distances.{ballot-found}
use Rattle.tie_walk.specs.Values.{thiele_value}
use Rattle.row_multipliers.specs.Completions.{IsNode}
use Rattle.thiele_bounds.specs.Pairs.{IsMajorant}
use Rattle.thiele_bounds.specs.Steps.Paired.{AreNothing, AreSums, AreTotals, overlap_at}
use Rattle.row_multipliers.proofs.HitLemmas.{hits-append, free-common}
use Rattle.thiele_bounds.proofs.PairBounds.OverlapLemmas.{portion}
use Rattle.thiele_bounds.proofs.PairBounds.PairLemmas.{row-bound}

-- ---- one row

-- a ballot has no more hits in both sets than it has candidates
pub hits-both : (m : ℕ) (ballot set free : List ℕ) → IsIncreasing 1 m ballot → m ≤ most_candidates → IsNode m set free → hits ballot set + hits ballot free ≤ most_candidates
hits-both m ballot set free up most is_node =
    omega (
      arith,
      hits-append ballot set free is_node.apart,
      count_by-le-length (has_member (set ++ free)) ballot,
      length-increasing 1 m ballot up,
      most,
    )

-- numbers that are above the sums make a majorant
majorant-is : (weights sums : List ℕ) (scale unit before most constant worth overlap : ℕ) → AreSums weights scale unit sums → before + most ≤ most_candidates
    → ((h : ℕ) → h ≤ most → get_or sums (before + h) 0 + overlap * (h * h) ≤ constant + worth * h) → IsMajorant weights scale unit before most constant worth overlap
majorant-is weights sums scale unit before most constant worth overlap are fits bounds h few =
    let units : unit * (get_or sums (before + h) 0 + overlap * (h * h)) ≤ unit * (constant + worth * h) = mul-le-mul_left unit (bounds h few) in
    let split : (a b c : ℕ) → a * (b + c) ≡ a * b + a * c = λ a b c. omega arith in
    omega (arith, units, split unit (get_or sums (before + h) 0) (overlap * (h * h)), are.up (before + h) (omega (arith, fits, few)))

-- free candidates that are on a ballot
pub cells-same : (ballot free open_ : List ℕ) (i j amount : ℕ) → open_ ≡ common_members ballot free → has_member free i ≡ true → has_member free j ≡ true
    → portion (has_member open_ i) (has_member open_ j) amount ≡ portion (has_member ballot i) (has_member ballot j) amount
cells-same ballot free open_ i j amount is here there =
    ap (λ b. portion b (has_member open_ j) amount) (ap (λ l. has_member l i) is ∙ free-common ballot free i here)
    ∙ ap (λ b. portion (has_member ballot i) b amount) (ap (λ l. has_member l j) is ∙ free-common ballot free j there)

pub portion-most : (p q : Bool) (n : ℕ) → portion p q n ≤ n
portion-most true true n = omega arith
portion-most true false n = omega arith
portion-most false q n = omega arith

pub portion-self : (p q : Bool) (n : ℕ) → portion p q n ≤ portion p p n
portion-self true true n = omega arith
portion-self true false n = omega arith
portion-self false q n = omega arith

-- ---- the rows so far

-- nothing yet
pub totals-none : (weights : List ℕ) (scale unit m : ℕ) (rows : List Row) (set free : List ℕ) (left constant : ℕ) (worths table : List ℕ) → AreNothing constant worths table
    → AreTotals weights scale unit m (take 0 rows) set free left constant worths table
totals-none weights scale unit m rows set free left constant worths table nothing committee whole =
    let none : scale * thiele_value weights (take 0 rows) committee ≡ 0 = omega arith in
    omega (arith, none, ap (λ n. unit * n) (all (common_members free committee) (common_members free committee)))
  where
    row : (i : ℕ) (xs : List ℕ) → sum_by (overlap_at table i) xs ≡ 0
    row i [] = refl
    row i (x ∷ xs) = omega (arith, row i xs, nothing.overlaps_none i x, sum_by-cons (overlap_at table i) x xs)

    all : (xs ys : List ℕ) → sum_by (λ i. sum_by (overlap_at table i) ys) xs ≡ 0
    all [] ys = refl
    all (x ∷ xs) ys = omega (arith, all xs ys, row x ys, sum_by-cons (λ i. sum_by (overlap_at table i) ys) x xs)

module _ (e : Election) (valid : IsElection e) (i : ℕ) (row : Row) (found : slice_get e.rows i ≡ Some row) where
  pub row-up : IsIncreasing 1 e.m row.0
  row-up = ballot-found e.m e.rows i row valid.ballots found

  pub voters-more : voter_count (take (i + 1) e.rows) ≡ voter_count (take i e.rows) + row.1
  voters-more =
      let here : get_or e.rows i row ≡ row = get_or_from_slice_get e.rows i row row found in
      let within : i < length e.rows = slice_get_within e.rows i row found in
      rw here at (sum_by_more (λ (r : Row). r.1) e.rows i row within)

  pub voters-room : voter_count (take i e.rows) + row.1 ≤ 2 ^ 32
  voters-room = omega (arith, voters-more, sum_by-take-le (λ (r : Row). r.1) e.rows (i + 1), valid.voters)

  -- a row more
  pub totals-more : (weights sums : List ℕ) (scale unit : ℕ) (set free : List ℕ) (left before most constant worth overlap all : ℕ) (worths more_worths table more_table : List ℕ) → IsNode e.m set free
      → AreSums weights scale unit sums → before ≡ hits row.0 set → most ≡ min left (hits row.0 free)
      → ((h : ℕ) → h ≤ most → get_or sums (before + h) 0 + overlap * (h * h) ≤ constant + worth * h)
      → AreTotals weights scale unit e.m (take i e.rows) set free left all worths table
      → ((n : ℕ) → has_member free n ≡ true → get_or more_worths n 0 ≡ get_or worths n 0 + cond (has_member row.0 n) (row.1 * worth) 0)
      → ((a b : ℕ) → has_member free a ≡ true → has_member free b ≡ true → overlap_at more_table a b ≡ overlap_at table a b + portion (has_member row.0 a) (has_member row.0 b) (row.1 * overlap))
      → AreTotals weights scale unit e.m (take (i + 1) e.rows) set free left (all + row.1 * constant) more_worths more_table
  totals-more weights sums scale unit set free left before most constant worth overlap all worths more_worths table more_table is_node are before-is most-is bounds so_far worths-are table-are committee whole =
      let here : get_or e.rows i row ≡ row = get_or_from_slice_get e.rows i row row found in
      let within : i < length e.rows = slice_get_within e.rows i row found in
      let value : thiele_value weights (take (i + 1) e.rows) committee ≡ thiele_value weights (take i e.rows) committee + row.1 * sum (take (hits row.0 committee) weights) =
      rw here at (sum_by_more (λ (r : Row). r.1 * sum (take (hits r.0 committee) weights)) e.rows i row within) in
      let fits : before + most ≤ most_candidates = omega (arith, before-is, most-is, hits-both e.m row.0 set free row-up valid.most is_node) in
      let majorant : IsMajorant weights scale unit (hits row.0 set) (min left (hits row.0 free)) constant worth overlap =
      rw most-is at (rw before-is at (majorant-is weights sums scale unit before most constant worth overlap are fits bounds)) in
      let one = row-bound weights scale unit e.m set free left committee is_node whole (take i e.rows) row row-up constant worth overlap all (slice_index worths) (slice_index more_worths) (overlap_at table) (overlap_at more_table)
      majorant (so_far committee whole) worths-are table-are in
      omega (arith, one, ap (λ n. scale * n) value)
