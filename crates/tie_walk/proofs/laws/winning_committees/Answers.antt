use Rattle.tie_walk.proofs.LawLemmas.{winner-is, winner-from_is}
use Rattle.tie_walk.proofs.laws.winning_committees.Goals as goal

pub returns : goal.returns
returns c value m k set = (winner-is value m k set, winner-from_is value m k set)
