use Rattle.std.proofs.Common.{ℕ, ◌≤◌, ◌<◌}
use Rattle.group_check.specs.Groups.{SomeGroupBreaks}
use Rattle.group_check.proofs.checking.find_violation.Given as goal

-- no group breaks the property at a lower level
abbrev pub invariant-loop-level : goal.invariant-loop-level
invariant-loop-level g l = (level : ℕ) → 1 ≤ level → level < l.level → SomeGroupBreaks l.property l.profile l.committee level → ⊥
