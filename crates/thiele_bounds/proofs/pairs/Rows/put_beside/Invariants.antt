use Rattle.std.proofs.Common.{◌≡◌, ℕ, ◌^◌, ◌≤◌, true, false, get_or}
use Rattle.std.specs.Prelude.{slice_index}
use Rattle.ballot_base.specs.CandSet.{has_member}
use Rattle.ballot_base.specs.Limits.{most_candidates}
use Rattle.ballot_base.specs.Lists.{IsIncreasing}
use Rattle.thiele_bounds.specs.Pairs.{worth_beside}
use Rattle.thiele_bounds.specs.Steps.Paired.{overlap_at}
use Rattle.thiele_bounds.proofs.pairs.Rows.put_beside.Given as goal

-- the worths of those who were passed
abbrev pub invariant-loop-j : goal.invariant-loop-j
invariant-loop-j l = record {
  rises : IsIncreasing 1 most_candidates l.j-iterator;
  made : (j : ℕ) → has_member l.self.free j ≡ true → has_member l.j-iterator j ≡ false
      → get_or l.beside j 0 ≡ worth_beside (slice_index l.self.totals.now.worths) (overlap_at l.self.totals.now.overlaps) l.self.left l.self.raise l.i j;
  small : (j : ℕ) → get_or l.beside j 0 ≤ 2 ^ 68;
}
