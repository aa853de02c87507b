use Rattle.ballot_base.proofs.Members.{eqb-members}
use Rattle.ballot_base.proofs.cand_set.CandSetPartialEq.eq.Goals as goal

pub returns : goal.returns
returns c = rw (← c.self.view_is, ← c.other.view_is) (eqb-members c.self.inside.bits c.other.inside.bits c.self.invariant c.other.invariant)
