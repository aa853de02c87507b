use Rattle.std.proofs.Common.{arith}
use Rattle.std.proofs.lemmas.Grind.{common_steps}
use Rattle.vote_cli.proofs.starts.seats_start.Goals as goal

pub returns-then-seats-from-clause-none : goal.returns-then-seats-from-clause-none
returns-then-seats-from-clause-none c = grind (arith, common_steps)

pub loop-seats-preserved : goal.loop-seats-preserved
loop-seats-preserved c = grind (arith, common_steps)

pub returns-clause-some : goal.returns-clause-some
returns-clause-some c = grind (arith, common_steps)
