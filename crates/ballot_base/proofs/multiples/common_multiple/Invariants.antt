use Rattle.std.proofs.Common.{◌≡◌, ◌+◌, ◌-◌, ◌≤◌}
use Rattle.ballot_base.specs.CommonMultiple.{common_multiple}
use Rattle.ballot_base.proofs.multiples.common_multiple.Given as goal

-- the least common multiple of the numbers below i
abbrev pub invariant-loop-i : goal.invariant-loop-i
invariant-loop-i l = (l.i ≤ l.n + 1) × (l.multiple ≡ common_multiple (l.i - 1))
