use Rattle.field_laws.proofs.GreedyShares.{seqpav-shares}
use Rattle.field_laws.proofs.apportionment.sequential_proportional_approval_is_dhondt.Goals as goal

pub returns : goal.returns
returns c = seqpav-shares
