-- What the totals of pairs say of a set.
use Rattle.std.proofs.Common.{◌≡◌, ℕ, ◌+◌, ◌-◌, ◌*◌, ◌≤◌, true, List, ap, arith, inl, inr, sum_by, get_or}
use Rattle.std.specs.Prelude.{slice_index}
use Rattle.std.proofs.Math.Nat.{mul-le-mul_left}
use Rattle.std.proofs.lemmas.Bool.{cases_lt}
use Rattle.ballot_base.specs.CandSet.{has_member, common_members}
use Rattle.ballot_base.specs.Limits.{most_candidates}
use Rattle.ballot_base.specs.Ballots.{Row}
use Rattle.tie_walk.specs.Values.{thiele_value}
use Rattle.row_multipliers.specs.Completions.{IsNode, IsCompletion}
use Rattle.thiele_bounds.specs.Pairs.{pair_sum, row_sum}
use Rattle.thiele_bounds.specs.Steps.Paired.{AreTotals, IsRowSum, overlap_at}
use Rattle.row_multipliers.proofs.CompletionLemmas.{added-free, added-increasing, added-size, member-high}
use Rattle.thiele_bounds.proofs.PairBounds.PairLemmas.{rows-bound}

-- a value that is reached in units is reached by the bound
pub units-low : (scale unit least needed all overlaps : ℕ) → 1 ≤ unit → ((value : ℕ) → scale * least ≤ unit * value → needed ≤ value) → scale * least + unit * overlaps ≤ unit * all → needed + overlaps ≤ all
units-low scale unit least needed all overlaps some units bound = elim (cases_lt all overlaps) [
  | inl high ↦
      let more : unit * (all + 1) ≤ unit * overlaps = mul-le-mul_left unit (omega (arith, high)) in
      let spread : unit * (all + 1) ≡ unit * all + unit = omega arith in
      absurd (omega (arith, more, spread, bound, some))
  | inr low ↦
      let is : all ≡ (all - overlaps) + overlaps = omega (arith, low) in
      let spread : (a b c : ℕ) → a * (b + c) ≡ a * b + a * c = λ a b c. omega arith in
      let few : needed ≤ all - overlaps = units (all - overlaps) (omega (arith, bound, ap (λ n. unit * n) is, spread unit (all - overlaps) overlaps)) in
      omega (arith, few, low)
]

module _ (weights : List ℕ) (scale unit m : ℕ) (rows : List Row) (set free : List ℕ) (left constant : ℕ) (worths table : List ℕ) (is_node : IsNode m set free) (size : m ≤ most_candidates) (two : 2 ≤ left) (some : 1 ≤ unit)
    (totals : AreTotals weights scale unit m rows set free left constant worths table) (least needed raise : ℕ) (units : (value : ℕ) → scale * least ≤ unit * value → needed ≤ value)
    (enough : (i j : ℕ) → i ≤ most_candidates → j ≤ most_candidates → 2 * (left - 1) * overlap_at table i j ≤ raise) (sums : List ℕ)
    (sums_are : (i : ℕ) → has_member free i ≡ true → IsRowSum worths table free left raise i (get_or sums i 0)) (due : ℕ)
    (due_low : due ≤ 2 * (left - 1) * needed + left * left * raise - 2 * (left - 1) * constant) where
  module _ (committee : List ℕ) (whole : IsCompletion m set free left committee) (reaches : least ≤ thiele_value weights rows committee) where
    -- what is needed, times the factor of the row sums
    reach-low : 2 * (left - 1) * needed + 2 * (left - 1) * pair_sum (overlap_at table) (common_members free committee) ≤ 2 * (left - 1) * constant + 2 * (left - 1) * sum_by (slice_index worths) (common_members free committee)
    reach-low =
        let more = common_members free committee in
        let value : scale * least ≤ scale * thiele_value weights rows committee = mul-le-mul_left scale reaches in
        let low : needed + pair_sum (overlap_at table) more ≤ constant + sum_by (slice_index worths) more =
        units-low scale unit least needed (constant + sum_by (slice_index worths) more) (pair_sum (overlap_at table) more) some units (omega (arith, value, totals committee whole)) in
        let spread : (a b c : ℕ) → a * (b + c) ≡ a * b + a * c = λ a b c. omega arith in
        let product : 2 * (left - 1) * (needed + pair_sum (overlap_at table) more) ≤ 2 * (left - 1) * (constant + sum_by (slice_index worths) more) = mul-le-mul_left (2 * (left - 1)) low in
        omega (
          arith,
          product,
          spread (2 * (left - 1)) needed (pair_sum (overlap_at table) more),
          spread (2 * (left - 1)) constant (sum_by (slice_index worths) more),
        )

    beside-free : (i j : ℕ) → has_member free i ≡ true → has_member free j ≡ true → 2 * (left - 1) * overlap_at table i j ≤ slice_index worths j + raise
    beside-free i j here there =
        omega (
          arith,
          enough i j (omega (arith, size, member-high 1 m free i is_node.free_within here)) (omega (arith, size, member-high 1 m free j is_node.free_within there)),
        )

    sums-high : (n : ℕ) → has_member free n ≡ true → (s : ℕ) × (row_sum (slice_index worths) (overlap_at table) free left raise s n ≤ get_or sums n 0)
    sums-high n is = let exact = sums_are n is in (exact.0, omega (arith, exact.1))

    -- who joins has what is due
    pub pairs-pay : due ≤ sum_by (λ n. get_or sums n 0) (common_members free committee)
    pairs-pay =
        let more = common_members free committee in
        omega (
          arith,
          reach-low,
          rows-bound (slice_index worths) (overlap_at table) m free more left raise two is_node.free_within (added-increasing m set free left committee is_node whole) (added-size m set free left committee is_node whole)
              (λ n is. added-free m set free left committee is_node whole n is) beside-free (λ n. get_or sums n 0) sums-high,
          due_low,
        )
