use Rattle.std.proofs.Common.{◌≡◌, ℕ, ◌+◌, ◌<◌, ◌==◌, true, cond, length}
use Rattle.ballot_base.specs.CandSet.{has_member}
use Rattle.ballot_base.specs.Limits.{most_candidates}
use Rattle.ballot_base.specs.Lists.{IsIncreasing}
use Rattle.thiele_bounds.specs.Steps.Places.{word_at}
use Rattle.thiele_bounds.proofs.triple_table.add_to_row.Given as goal

-- with what is still to be added, the numbers are those at the end
abbrev pub invariant-loop-column : goal.invariant-loop-column
invariant-loop-column l = record {
  kept : length l.table ≡ length l.fn.table;
  rises : IsIncreasing 1 most_candidates l.column-iterator;
  before : (n : ℕ) → has_member l.column-iterator n ≡ true → n < l.middle;
  made : (z y x : ℕ) → x < y → y < z
      → word_at l.table z y x + cond (has_member l.column-iterator x) (cond (z == l.high) (cond (y == l.middle) l.amount 0) 0) 0
      ≡ word_at l.fn.table z y x + cond (has_member l.fn.columns x) (cond (z == l.high) (cond (y == l.middle) l.amount 0) 0) 0;
}
