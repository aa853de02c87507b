use Rattle.ballot_base.proofs.NextSet.{members_up_to, bound_of_up_to}
use Rattle.ballot_base.proofs.cand_set.CandSet.all.Goals as goal

pub invariant_of-result : goal.invariant_of-result
invariant_of-result c = rw c.numbers_to.ensures (bound_of_up_to c.args.m c.requires)

pub returns : goal.returns
returns c = rw c.numbers_to.ensures (members_up_to c.args.m c.requires)
