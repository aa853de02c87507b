use Rattle.tie_walk.proofs.RangeLemmas.{proportional-ceiling, satisfaction-ceiling, thiele-ceiling}
use Rattle.tie_walk.proofs.laws.ceiling_ranges.Goals as goal

pub returns : goal.returns
returns c = record { proportional = proportional-ceiling; thiele = thiele-ceiling; satisfaction = satisfaction-ceiling }
