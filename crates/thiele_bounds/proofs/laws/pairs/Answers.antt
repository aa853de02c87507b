use Rattle.thiele_bounds.proofs.PairBounds.PairLemmas.{pairs-bound}
use Rattle.thiele_bounds.proofs.laws.pairs.Goals as goal

pub returns : goal.returns
returns c weights scale unit m constant worth overlap rows set free left committee ballots is_node whole are =
    pairs-bound weights scale unit m set free left committee is_node whole constant worth overlap rows ballots are
