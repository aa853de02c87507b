use Rattle.thiele_bounds.proofs.PairBounds.TripleSums.{threes-bound}
use Rattle.thiele_bounds.proofs.laws.triple_sums.Goals as goal

pub returns : goal.returns
returns c worth overlap triple m left raise third second free members two rises up size among symmetric enough =
    threes-bound worth overlap triple m left raise third second free members two rises up size among symmetric enough
