-- The parts of row sums.
use Rattle.std.specs.Prelude.{ℕ, ◌≡◌, ◌-◌, ◌*◌, ◌^◌, ◌<◌, ◌≤◌, true, List, slice_index}
use Rattle.ballot_base.specs.Limits.{most_candidates}
use Rattle.ballot_base.specs.CandSet.{has_member}
use Rattle.thiele_bounds.specs.Pairs.{worth_beside}
use Rattle.thiele_bounds.specs.Steps.Paired.{IsRowSum, overlap_at}
use Rattle.thiele_bounds.specs.Steps.Totals.{AreSmall}
use Rattle.thiele_bounds.specs.declared.pairs.Rows.{Rows}

-- no total is too large, and worths are raised enough
pub record AreRows (rows : Rows) : Type 0 where
  pub several : 2 ≤ rows.left
  pub few : rows.left < 2 ^ 8
  pub small : AreSmall rows.totals.now
  pub raise_small : rows.raise ≤ 2 ^ 67
  pub enough : (i j : ℕ) → i ≤ most_candidates → j ≤ most_candidates
      → 2 * (rows.left - 1) * overlap_at rows.totals.now.overlaps i j ≤ rows.raise

-- the worth of each free candidate beside the candidate i, none too large
pub record AreBeside (rows : Rows) (i : ℕ) (beside : List ℕ) : Type 0 where
  pub made : (j : ℕ) → has_member rows.free j ≡ true → slice_index beside j
      ≡ worth_beside (slice_index rows.totals.now.worths) (overlap_at rows.totals.now.overlaps) rows.left rows.raise i j
  pub small : (j : ℕ) → slice_index beside j ≤ 2 ^ 68

-- the row sum of the candidate i
abbrev pub IsSum : Rows → ℕ → ℕ → Type 0
IsSum rows i sum = IsRowSum rows.totals.now.worths rows.totals.now.overlaps rows.free rows.left rows.raise i sum
