use Rattle.std.proofs.lemmas.Grind.{common_steps}
use Rattle.std.proofs.Common.{refl, arith}
use Rattle.std.proofs.Math.ListN.{length-set}
use Rattle.std.proofs.lemmas.List.{get_or-replicate}
use Rattle.ballot_base.specs.Limits.{most_members}
use Rattle.ballot_base.proofs.WeightLemmas.{increments-made}
use Rattle.ballot_base.proofs.increments.Increments.of.Goals as goal

pub loop-j-init : goal.loop-j-init
loop-j-init c = record { long = refl; made = λ i h. absurd (omega arith); others = λ i low h. get_or-replicate most_members i 0 0 h }

pub loop-j-preserved : goal.loop-j-preserved
loop-j-preserved c = grind (arith, common_steps, length-set)

pub returns-clause-weights : goal.returns-clause-weights
returns-clause-weights c = grind (arith, common_steps, increments-made)
