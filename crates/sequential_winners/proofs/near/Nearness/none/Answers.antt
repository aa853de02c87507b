use Rattle.sequential_winners.proofs.TableNear.{none-near}
use Rattle.sequential_winners.proofs.near.Nearness.none.Goals as goal

pub returns : goal.returns
returns c n = none-near 65 n c.empty.result c.empty.ensures
