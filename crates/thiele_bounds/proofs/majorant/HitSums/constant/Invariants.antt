use Rattle.std.proofs.Common.{ℕ, ◌+◌, ◌-◌, ◌*◌, ◌≤◌, get_or}
use Rattle.thiele_bounds.proofs.majorant.HitSums.constant.Given as goal

-- no hit so far gave less than the multiplier
abbrev pub invariant-loop-hits : goal.invariant-loop-hits
invariant-loop-hits l = record {
  few : l.hits ≤ l.most;
  highest : (h : ℕ) → h ≤ l.hits → get_or l.self.sums (l.before + h) 0 + l.multiplier * l.hits ≤ get_or l.self.sums (l.before + l.hits) 0 + l.multiplier * h;
}

abbrev pub decreases-loop-hits : goal.decreases-loop-hits
decreases-loop-hits l = l.most - l.hits
