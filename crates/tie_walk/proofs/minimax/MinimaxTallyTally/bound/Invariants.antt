use Rattle.std.proofs.Common.{◌≡◌, ◌≤◌, take, length}
use Rattle.tie_walk.specs.Ceilings.{greatest_distance_upto}
use Rattle.tie_walk.proofs.minimax.MinimaxTallyTally.bound.Given as goal

-- the greatest of the rows so far
abbrev pub invariant-loop-ballot : goal.invariant-loop-ballot
invariant-loop-ballot g l = record {
  value : l.greatest ≡ greatest_distance_upto l.c (take (length l.yielded) l.self.rows) l.set;
  most : l.greatest ≤ l.self.m;
}
