use Rattle.std.proofs.Common.{arith}
use Rattle.ballot_base.proofs.Sums.{replicate-most}
use Rattle.thiele_bounds.proofs.rough.Rough.none.Goals as goal

pub invariant_of-result : goal.invariant_of-result
invariant_of-result c n = omega (arith, replicate-most 65 n 0 0 (omega arith))

pub returns : goal.returns
returns c n = omega (arith, replicate-most 65 n 0 0 (omega arith))
