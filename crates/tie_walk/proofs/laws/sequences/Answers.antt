use Rattle.std.proofs.lemmas.Grind.{common_steps}
use Rattle.std.proofs.Common.{arith}
use Rattle.tie_walk.proofs.SequenceLaws.{grown-each, each-grown, shrunk-each, each-shrunk}
use Rattle.tie_walk.proofs.laws.sequences.Goals as goal

pub returns : goal.returns
returns c = grind (arith, common_steps, grown-each, each-grown, shrunk-each, each-shrunk)
