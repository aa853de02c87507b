use Rattle.std.proofs.Common.{◌≡◌, ℕ, ◌<◌, length, get_or}
use Rattle.thiele_bounds.specs.Steps.Cubics.{touch_of}
use Rattle.thiele_bounds.proofs.triples.touches_at.Given as goal

-- the first ones are made
abbrev pub invariant-loop-approved : goal.invariant-loop-approved
invariant-loop-approved l = record {
  long : length l.touches ≡ 65;
  made : (x : ℕ) → x < l.approved → get_or l.touches x 0 ≡ touch_of l.shift l.node.left (length l.node.free) x;
}
