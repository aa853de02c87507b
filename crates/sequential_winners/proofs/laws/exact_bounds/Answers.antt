use Rattle.sequential_winners.proofs.ValueLemmas.{exact-law}
use Rattle.sequential_winners.proofs.laws.exact_bounds.Goals as goal

pub returns : goal.returns
returns c = exact-law
