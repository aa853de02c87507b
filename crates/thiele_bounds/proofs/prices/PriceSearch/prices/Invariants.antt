use Rattle.std.proofs.Common.{ℕ, ◌*◌, ◌^◌, ◌≤◌, List, [], take, get_or}
use Rattle.ballot_base.specs.Ballots.{voter_count}
use Rattle.thiele_bounds.specs.Steps.Paired.{AreSums, AreTotals}
use Rattle.thiele_bounds.proofs.prices.PriceSearch.prices.Given as goal

-- what the voters of the rows so far keep, and their prices
abbrev pub invariant-loop-i : goal.invariant-loop-i
invariant-loop-i g l = record {
  totals : (weights : List ℕ) → AreSums weights l.self.given.now.scale l.self.given.now.unit l.self.given.now.sums
      → AreTotals weights l.self.given.now.scale l.self.given.now.unit l.profile.m (take l.i l.profile.rows) l.node.set l.node.free l.node.left l.constant l.worths [];
  small_constant : l.constant ≤ voter_count (take l.i l.profile.rows) * 2 ^ 46;
  small_worths : (n : ℕ) → get_or l.worths n 0 ≤ voter_count (take l.i l.profile.rows) * 2 ^ 46;
}
