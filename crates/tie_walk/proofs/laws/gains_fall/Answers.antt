use Rattle.std.proofs.Common.{arith}
use Rattle.std.proofs.lemmas.Grind.{common_steps}
use Rattle.tie_walk.proofs.Submodular.{thiele_rule-submodular, satisfaction-submodular}
use Rattle.tie_walk.proofs.laws.gains_fall.Goals as goal

pub returns : goal.returns
returns c = grind (arith, common_steps, thiele_rule-submodular, satisfaction-submodular)
