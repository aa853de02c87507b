use Rattle.tie_walk.proofs.LawLemmas.{no_greater_value, some_winner}
use Rattle.tie_walk.proofs.laws.greatest_value.Goals as goal

pub returns : goal.returns
returns c = record { reached = some_winner; greatest = no_greater_value }
