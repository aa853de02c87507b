-- What a search keeps for pairs of members, and what it adds up over the voters.
use Rattle.std.specs.Prelude.{ℕ, ◌≡◌, ◌+◌, ◌*◌, ◌/◌, ◌≤◌, ◌^◌, List, max, min, sum, sum_by, take, slice_index}
use Rattle.ballot_base.specs.Limits.{most_candidates}
use Rattle.ballot_base.specs.Ballots.{Row}
use Rattle.ballot_base.specs.CandSet.{common_members}
use Rattle.tie_walk.specs.Values.{thiele_value}
use Rattle.row_multipliers.specs.Completions.{IsCompletion}
use Rattle.thiele_bounds.specs.Pairs.{pair_sum, row_sum}
use Rattle.thiele_bounds.specs.Steps.Units.{most_given}
use Rattle.thiele_bounds.specs.declared.majorant.Majorant.{Majorant}

-- the sums are what each number of hits gives, times the scale, in units, rounded up or higher
pub record AreSums (weights : List ℕ) (scale unit : ℕ) (sums : List ℕ) : Type 0 where
  pub some : 1 ≤ unit
  pub up : (h : ℕ) → h ≤ most_candidates → scale * sum (take h weights) ≤ unit * slice_index sums h

-- what as many hits as there are candidates give
abbrev pub most_sum : List ℕ → ℕ
most_sum sums = slice_index sums most_candidates

-- no number of hits gives too much, and none gives more than all
pub record AreSmallSums (sums : List ℕ) : Type 0 where
  pub all_small : most_sum sums ≤ most_given
  pub none_above : (h : ℕ) → h ≤ most_candidates → slice_index sums h ≤ most_sum sums

-- no number of a majorant is too large beside what all hits give
pub record IsSmallMajorant (all_give : ℕ) (majorant : Majorant) : Type 0 where
  pub constant_small : majorant.constant ≤ all_give * 2 ^ 13
  pub worth_small : majorant.worth ≤ all_give * 2 ^ 8
  pub overlap_small : majorant.overlap ≤ all_give

-- for up to `most` hits after the first `before`, the majorant is at least the sum of what they and those before give
pub record IsMajorantOf (sums : List ℕ) (before most : ℕ) (majorant : Majorant) : Type 0 where
  pub bounds : (h : ℕ) → h ≤ most
      → slice_index sums (before + h) + majorant.overlap * (h * h) ≤ majorant.constant + majorant.worth * h
  pub small : IsSmallMajorant (most_sum sums) majorant

-- how many pairs there are of the numbers below n, also of a number with itself
abbrev pub triangle : ℕ → ℕ
triangle n = n * (n + 1) / 2

-- the place of two candidates in a table of unordered pairs, where the row of a candidate comes after the rows of all
-- those before it
abbrev pub pair_place : ℕ → ℕ → ℕ
pair_place i j = triangle (max i j) + min i j

-- the overlap of two candidates
abbrev pub overlap_at : List ℕ → ℕ → ℕ → ℕ
overlap_at table i j = slice_index table (pair_place i j)

-- no committee that completes the set is worth more than the constant and the worths of the members that join, less
-- their overlaps
abbrev pub AreTotals : List ℕ → ℕ → ℕ → ℕ → List Row → List ℕ → List ℕ → ℕ → ℕ → List ℕ → List ℕ → Type 0
AreTotals weights scale unit m rows set free left constant worths table =
    (committee : List ℕ) → IsCompletion m set free left committee
    → scale * thiele_value weights rows committee + unit * pair_sum (overlap_at table) (common_members free committee)
    ≤ unit * (constant + sum_by (slice_index worths) (common_members free committee))

-- nothing was added up
pub record AreNothing (constant : ℕ) (worths table : List ℕ) : Type 0 where
  pub constant_none : constant ≡ 0
  pub worths_none : (n : ℕ) → slice_index worths n ≡ 0
  pub overlaps_none : (i j : ℕ) → overlap_at table i j ≡ 0

-- the row sum of a candidate, by some threshold
abbrev pub IsRowSum : List ℕ → List ℕ → List ℕ → ℕ → ℕ → ℕ → ℕ → Type 0
IsRowSum worths table free left raise i sum =
    (threshold : ℕ) × (sum ≡ row_sum (slice_index worths) (overlap_at table) free left raise threshold i)
