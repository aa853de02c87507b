use Rattle.thiele_bounds.proofs.PairBounds.TripleLemmas.{triples-bound}
use Rattle.thiele_bounds.proofs.laws.triples.Goals as goal

pub returns : goal.returns
returns c weights scale unit m constant worth overlap triple rows set free left committee ballots is_node whole are =
    triples-bound weights scale unit m set free left committee is_node whole constant worth overlap triple rows ballots are
