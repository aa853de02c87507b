use Rattle.ballot_base.proofs.Members.{bound_of_with, members_with}
use Rattle.ballot_base.proofs.cand_set.CandSet.with.Goals as goal

pub invariant_of-result : goal.invariant_of-result
invariant_of-result c = bound_of_with c.self.inside.bits c.args.n c.self.invariant c.requires.low c.requires.high

pub returns : goal.returns
returns c = rw (← c.self.view_is) (members_with c.self.inside.bits c.args.n c.requires.low c.requires.high)
