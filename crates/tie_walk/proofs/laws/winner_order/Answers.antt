use Rattle.tie_walk.proofs.LawLemmas.{winners-order, winners-once}
use Rattle.tie_walk.proofs.laws.winner_order.Goals as goal

pub returns : goal.returns
returns c = record { later = winners-order; once = winners-once }
