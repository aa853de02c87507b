use Rattle.std.proofs.Common.{arith, refl}
use Rattle.preflib_text.proofs.ballot.digits.Goals as goal

pub loop-rest-init : goal.loop-rest-init
loop-rest-init c = (c.args.first, omega arith, refl, omega arith)
