use Rattle.ballot_base.proofs.WeightLemmas.{quotient-exact, power-exact}
use Rattle.ballot_base.proofs.laws.exact.Goals as goal

pub returns : goal.returns
returns c = record { pav = quotient-exact; geom2 = power-exact 2; geom3 = power-exact 3; geom4 = power-exact 4 }
