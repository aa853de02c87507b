use Rattle.std.proofs.Common.{◌≡◌, ℕ, ◌+◌, ◌≤◌, ◌==◌, true, length, max, min}
use Rattle.ballot_base.specs.CandSet.{has_member}
use Rattle.ballot_base.specs.Limits.{most_candidates}
use Rattle.ballot_base.specs.Lists.{IsIncreasing}
use Rattle.thiele_bounds.specs.Steps.Paired.{overlap_at}
use Rattle.thiele_bounds.proofs.PairBounds.OverlapLemmas.{portion}
use Rattle.thiele_bounds.proofs.pairs.add_to_pairs.Given as goal

-- with what is still to be added, the numbers are those at the end
abbrev pub invariant-loop-column : goal.invariant-loop-column
invariant-loop-column l = record {
  long : length l.table ≡ 2145;
  rises : IsIncreasing 1 most_candidates l.column-iterator;
  made : (i j : ℕ)
      → overlap_at l.table i j + portion (max i j == l.row) (has_member l.column-iterator (min i j)) l.amount ≡ overlap_at l.fn.table i j + portion (max i j == l.row) (has_member l.fn.columns (min i j)) l.amount;
  within : (n : ℕ) → has_member l.column-iterator n ≡ true → n ≤ l.row;
}
