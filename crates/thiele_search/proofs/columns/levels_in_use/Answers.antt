use Rattle.std.proofs.Common.{arith}
use Rattle.thiele_search.proofs.columns.levels_in_use.Goals as goal

pub loop-h-init : goal.loop-h-init
loop-h-init c = record {
  within = omega arith;
  none = λ i high low. absurd (omega (arith, low));
}
