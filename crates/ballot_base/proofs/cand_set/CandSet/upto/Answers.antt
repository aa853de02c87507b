use Rattle.ballot_base.proofs.Members.{bound_of_and}
use Rattle.ballot_base.proofs.NextSet.{members_upto_word}
use Rattle.ballot_base.proofs.cand_set.CandSet.upto.Goals as goal

pub invariant_of-result : goal.invariant_of-result
invariant_of-result c = bound_of_and c.self.inside.bits c.numbers_to.result c.self.invariant

pub returns : goal.returns
returns c = rw (← c.self.view_is) (members_upto_word c.self.inside.bits c.numbers_to.result c.args.c c.numbers_to.ensures)
