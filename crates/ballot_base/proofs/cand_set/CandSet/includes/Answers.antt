use Rattle.ballot_base.proofs.Members.{members_included}
use Rattle.ballot_base.proofs.cand_set.CandSet.includes.Goals as goal

pub returns : goal.returns
returns c = rw (← c.self.view_is, ← c.other.view_is) (members_included c.self.inside.bits c.other.inside.bits c.other.invariant)
