use Rattle.ballot_base.proofs.Members.{members_none}
use Rattle.ballot_base.proofs.cand_set.CandSet.empty.Goals as goal

pub returns : goal.returns
returns c = members_none
