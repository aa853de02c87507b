use Rattle.std.proofs.Common.{arith}
use Rattle.ballot_base.specs.Limits.{most_candidates}
use Rattle.ballot_base.proofs.NextSet.{greatest_is, greatest_most}
use Rattle.ballot_base.proofs.cand_set.greatest.Goals as goal

pub returns-clause-high : goal.returns-clause-high
returns-clause-high c = greatest_most most_candidates c.args.bits c.ilog2.result c.ilog2.ensures.power_le c.requires.most

pub returns-clause-member : goal.returns-clause-member
returns-clause-member c = (greatest_is c.args.bits c.ilog2.result _ c.ilog2.ensures.power_le c.ilog2.ensures.next_power_gt (omega arith)).0

pub returns-clause-above : goal.returns-clause-above
returns-clause-above c = (greatest_is c.args.bits c.ilog2.result _ c.ilog2.ensures.power_le c.ilog2.ensures.next_power_gt (omega arith)).1
