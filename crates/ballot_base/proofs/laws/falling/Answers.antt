use Rattle.ballot_base.proofs.WeightLemmas.{increments-fall}
use Rattle.ballot_base.proofs.laws.falling.Goals as goal

pub returns : goal.returns
returns c rule k i some most = increments-fall rule k i most
