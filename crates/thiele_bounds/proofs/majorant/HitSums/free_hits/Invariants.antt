use Rattle.std.proofs.Common.{◌-◌, ◌≤◌}
use Rattle.thiele_bounds.proofs.majorant.HitSums.free_hits.Given as goal

-- no more hits than there can be
abbrev pub invariant-loop-fewest : goal.invariant-loop-fewest
invariant-loop-fewest l = record { few : l.fewest ≤ l.most }

abbrev pub decreases-loop-fewest : goal.decreases-loop-fewest
decreases-loop-fewest l = l.most - l.fewest
