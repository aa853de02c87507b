use Rattle.std.proofs.Common.{ℕ, ◌^◌, ◌<◌, ◌≤◌}
use Rattle.thiele_bounds.specs.Steps.Paired.{overlap_at}
use Rattle.thiele_bounds.proofs.pairs.Totals.greatest_overlap.Given as goal

-- no candidate so far overlaps more with itself
abbrev pub invariant-loop-candidate : goal.invariant-loop-candidate
invariant-loop-candidate l = record {
  most : (n : ℕ) → n < l.candidate → overlap_at l.self.overlaps n n ≤ l.greatest;
  small : l.greatest ≤ 2 ^ 58;
}
