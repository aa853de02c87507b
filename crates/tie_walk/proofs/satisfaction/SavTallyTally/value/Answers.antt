use Rattle.std.proofs.lemmas.Grind.{common_steps}
use Rattle.std.proofs.Common.{arith}
use Rattle.tie_walk.proofs.GreatestSums.{same_sum}
use Rattle.tie_walk.proofs.TightLemmas.{satisfaction-sum}
use Rattle.tie_walk.proofs.satisfaction.SavTallyTally.value.Goals as goal

pub returns : goal.returns
returns g c = grind (arith, common_steps, same_sum, satisfaction-sum)
