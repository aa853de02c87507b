use Rattle.std.proofs.Common.{arith}
use Rattle.std.proofs.lemmas.Grind.{common_steps}
use Rattle.ballot_base.proofs.profile.no_names.Goals as goal

-- without an answer this closes late
pub loop-preserved : goal.loop-preserved
loop-preserved g c = grind (arith, common_steps)
