use Rattle.std.proofs.Common.{ℕ, ◌+◌, ◌*◌, ◌^◌, ◌<◌, ◌≤◌, get_or}
use Rattle.thiele_bounds.specs.Steps.Paired.{most_sum}
use Rattle.thiele_bounds.proofs.majorant.Majorant.at.Given as goal

-- the majorant is above what each number of hits so far gives
abbrev pub invariant-loop-hits : goal.invariant-loop-hits
invariant-loop-hits l = record {
  step_small : l.step ≤ most_sum l.sums;
  overlap_small : l.overlap ≤ most_sum l.sums;
  small : l.constant ≤ most_sum l.sums * 2 ^ 13;
  above : (h : ℕ) → h < l.hits → get_or l.sums (l.first + h) 0 + l.overlap * (h * h) ≤ l.constant + l.worth * h;
}
