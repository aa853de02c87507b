use Rattle.std.proofs.Common.{◌-◌, arith}
use Rattle.ballot_base.specs.Limits.{most_members}
use Rattle.ballot_base.proofs.WeightLemmas.{power-most}
use Rattle.ballot_base.proofs.increments.ThieleRule.denominator.Goals as goal

pub pow-requires-in-Geom3 : goal.pow-requires-in-Geom3
pow-requires-in-Geom3 c = omega (arith, power-most 3 c.from-in-Geom3.result (most_members - 1) (omega arith) (omega (arith, c.from-in-Geom3.ensures)))

pub pow-requires-in-Geom4 : goal.pow-requires-in-Geom4
pow-requires-in-Geom4 c = omega (arith, power-most 4 c.from-in-Geom4.result (most_members - 1) (omega arith) (omega (arith, c.from-in-Geom4.ensures)))
