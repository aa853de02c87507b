use Rattle.ballot_base.proofs.Members.{IsIncreasing-members}
use Rattle.ballot_base.proofs.cand_set.CandSet.members.Goals as goal

pub returns-clause-valid : goal.returns-clause-valid
returns-clause-valid c = rw (← c.self.view_is) (IsIncreasing-members c.self.inside.bits)
