use Rattle.std.proofs.Common.{arith}
use Rattle.std.proofs.lemmas.Nat.Gcd.{IsGcd-from_zero, IsGcd-from_mod}
use Rattle.ballot_base.proofs.multiples.greatest_divisor.Goals as goal

pub loop-b-preserved : goal.loop-b-preserved
loop-b-preserved c g h = c.loop-b.invariant g (IsGcd-from_mod _ _ g h)

pub returns : goal.returns
returns c = c.loop-b.invariant _ (IsGcd-from_zero _ _ (omega arith))
