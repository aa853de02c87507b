use Rattle.std.proofs.Common.{◌≡◌, ℕ, ◌^◌, ◌≤◌, true, false, get_or}
use Rattle.ballot_base.specs.CandSet.{has_member}
use Rattle.ballot_base.specs.Limits.{most_candidates}
use Rattle.ballot_base.specs.Lists.{IsIncreasing}
use Rattle.thiele_bounds.specs.Steps.Paired.{IsRowSum}
use Rattle.thiele_bounds.proofs.pairs.Rows.sums.Given as goal

-- the row sums of those who were passed, and no worth too large
abbrev pub invariant-loop-i : goal.invariant-loop-i
invariant-loop-i l = record {
  rises : IsIncreasing 1 most_candidates l.i-iterator;
  among : (n : ℕ) → has_member l.i-iterator n ≡ true → has_member l.self.free n ≡ true;
  made : (j : ℕ) → has_member l.self.free j ≡ true → has_member l.i-iterator j ≡ false → IsRowSum l.self.totals.now.worths l.self.totals.now.overlaps l.self.free l.self.left l.self.raise j (get_or l.sums j 0);
  small : (j : ℕ) → get_or l.beside j 0 ≤ 2 ^ 68;
}
