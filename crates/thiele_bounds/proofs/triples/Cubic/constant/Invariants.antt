use Rattle.std.proofs.Common.{◌≡◌, ◌*◌, ◌^◌, ◌≤◌}
use Rattle.thiele_bounds.specs.Steps.Cubics.{highest, lack}
use Rattle.thiele_bounds.specs.Steps.Paired.{most_sum}
use Rattle.thiele_bounds.proofs.triples.Cubic.constant.Given as goal

-- the highest of what the cubic lacks so far
abbrev pub invariant-loop-hits : goal.invariant-loop-hits
invariant-loop-hits l = record {
  value : l.constant ≡ highest (lack l.sums l.before l.self.worth l.self.overlap l.self.triple) l.hits;
  small : l.constant ≤ most_sum l.sums * 2 ^ 13;
}
