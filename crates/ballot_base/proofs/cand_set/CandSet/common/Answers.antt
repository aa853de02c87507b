use Rattle.ballot_base.proofs.Members.{members_common}
use Rattle.ballot_base.proofs.cand_set.CandSet.common.Goals as goal

pub returns : goal.returns
returns c = rw (← c.self.view_is, ← c.other.view_is) (members_common c.self.inside.bits c.other.inside.bits)
