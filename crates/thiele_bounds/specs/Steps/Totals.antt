-- What totals say of a node, and how large they are.
use Rattle.std.specs.Prelude.{ℕ, ◌≤◌, ◌^◌, List, Option, slice_index}
use Rattle.ballot_base.specs.Ballots.{Election}
use Rattle.ballot_base.specs.Limits.{most_candidates}
use Rattle.tie_walk.specs.Values.{thiele_value}
use Rattle.row_multipliers.specs.Steps.Narrowed.{Narrows}
use Rattle.row_multipliers.specs.declared.node.Node.{Node}
use Rattle.thiele_bounds.specs.Steps.Paired.{AreSums, AreTotals, overlap_at}
use Rattle.thiele_bounds.specs.declared.majorant.HitSums.{HitSums}
use Rattle.thiele_bounds.specs.declared.pairs.Totals.{Totals}

-- under each rule with these sums, the totals bound the committees that complete the set of a node
abbrev pub BoundNode : HitSums → Election → Node → ℕ → List ℕ → List ℕ → Type 0
BoundNode given election node constant worths table = (weights : List ℕ)
    → AreSums weights given.scale given.unit given.sums
    → AreTotals weights given.scale given.unit election.m election.rows node.set node.free node.left constant worths
    table

-- under each rule with these sums, the answer is right at a node
abbrev pub NarrowsUnder : HitSums → Election → Node → ℕ → Option (List ℕ) → Type 0
NarrowsUnder given election node least answer = (weights : List ℕ)
    → AreSums weights given.scale given.unit given.sums
    → Narrows (thiele_value weights election.rows) election.m node least answer

-- no total is too large, and no candidate overlaps more with another than with itself
pub record AreSmall (totals : Totals) : Type 0 where
  pub constant_small : totals.constant ≤ 2 ^ 71
  pub worths_small : (n : ℕ) → slice_index totals.worths n ≤ 2 ^ 66
  pub overlaps_small : (i j : ℕ) → j ≤ most_candidates → overlap_at totals.overlaps i j ≤ 2 ^ 58
  pub overlaps_self : (i j : ℕ) → i ≤ most_candidates → j ≤ most_candidates
      → overlap_at totals.overlaps i j ≤ overlap_at totals.overlaps i i
