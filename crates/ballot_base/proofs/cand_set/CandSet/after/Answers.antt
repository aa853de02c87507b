use Rattle.ballot_base.proofs.Members.{bound_of_and}
use Rattle.ballot_base.proofs.NextSet.{members_after, bound_of_up_to}
use Rattle.ballot_base.proofs.cand_set.CandSet.after.Goals as goal

pub invariant_of-result : goal.invariant_of-result
invariant_of-result c = rw c.numbers_to.ensures (bound_of_and _ _ (bound_of_up_to c.args.m c.requires.most))

pub returns : goal.returns
returns c = rw (c.numbers_to.ensures, c.numbers_to-2.ensures) (members_after c.args.c c.args.m c.requires.within c.requires.most)
