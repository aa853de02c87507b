use Rattle.std.proofs.Common.{◌≡◌, ℕ, ◌+◌, ◌≤◌, true, get_or, length}
use Rattle.ballot_base.specs.CandSet.{has_member}
use Rattle.ballot_base.specs.Increments.{increments}
use Rattle.ballot_base.specs.Limits.{most_members}
use Rattle.ballot_base.specs.declared.increments.ThieleRule.TheVariants.{Cc}
use Rattle.row_multipliers.specs.Steps.Narrowed.{IsNarrowed}
use Rattle.tie_walk.specs.Values.{thiele_value}
use Rattle.thiele_search.specs.Steps.Uncovered.{AreFew, IsBranch, newly, uncovered_voters}
use Rattle.thiele_search.proofs.uncovered.Uncovered.+falls_short.Given as goal

abbrev pub decreases-falls_short : goal.decreases-falls_short
decreases-falls_short g l = l.branch.now.left

-- who is free is all who can still join, and their gains are known
abbrev pub invariant-loop-least : goal.invariant-loop-least
invariant-loop-least g l = record {
  set : l.open.set ≡ l.fn.branch.set;
  left : l.open.left ≡ l.fn.branch.left;
  due : l.open.due ≡ l.fn.branch.due;
  branch : IsBranch l.fn.self.profile.now l.fn.self.set l.fn.self.free l.open;
  gains : (n : ℕ) → has_member l.open.free n ≡ true → get_or l.gains n 0 ≡ newly (uncovered_voters l.fn.self.profile.now.rows l.fn.self.set l.fn.self.free) l.open.set n;
  few : AreFew l.gains;
  narrowed : (k : ℕ) → 1 ≤ k → k ≤ most_members → IsNarrowed (thiele_value (increments Cc k) l.fn.self.profile.now.rows) l.fn.self.profile.now.m l.open.set l.fn.branch.free l.open.left
      (thiele_value (increments Cc k) l.fn.self.profile.now.rows l.open.set + l.open.due) l.open.free;
}

abbrev pub decreases-loop-least : goal.decreases-loop-least
decreases-loop-least g l = length l.open.free
