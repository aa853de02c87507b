use Rattle.std.proofs.Common.{ℕ}
use Rattle.std.specs.Int.{IsGcd}
use Rattle.ballot_base.proofs.multiples.greatest_divisor.Given as goal

-- what divides both numbers stays the same
abbrev pub invariant-loop-b : goal.invariant-loop-b
invariant-loop-b l = (g : ℕ) → IsGcd l.a l.b g → IsGcd l.fn.a l.fn.b g

abbrev pub decreases-loop-b : goal.decreases-loop-b
decreases-loop-b l = l.b
