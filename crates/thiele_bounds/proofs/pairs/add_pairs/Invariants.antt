use Rattle.std.proofs.Common.{◌≡◌, ℕ, ◌+◌, ◌≤◌, max, min}
use Rattle.ballot_base.specs.CandSet.{has_member}
use Rattle.ballot_base.specs.Limits.{most_candidates}
use Rattle.ballot_base.specs.Lists.{IsIncreasing}
use Rattle.thiele_bounds.specs.Steps.Paired.{overlap_at}
use Rattle.thiele_bounds.proofs.PairBounds.OverlapLemmas.{portion}
use Rattle.thiele_bounds.proofs.pairs.add_pairs.Given as goal

-- with the rows that are still to be added, the numbers are those at the end
abbrev pub invariant-loop-row : goal.invariant-loop-row
invariant-loop-row l = record {
  rises : IsIncreasing 1 most_candidates l.row-iterator;
  made : (i j : ℕ) → j ≤ most_candidates
      → overlap_at l.table i j + portion (has_member l.row-iterator (max i j)) (has_member l.fn.members (min i j)) l.amount ≡ overlap_at l.fn.table i j + portion (has_member l.fn.members (max i j)) (has_member l.fn.members (min i j)) l.amount;
}
