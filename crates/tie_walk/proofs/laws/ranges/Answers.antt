use Rattle.tie_walk.proofs.RangeLemmas.{proportional, satisfaction, thiele}
use Rattle.tie_walk.proofs.laws.ranges.Goals as goal

pub returns : goal.returns
returns c = record { proportional = proportional; thiele = thiele; satisfaction = satisfaction }
