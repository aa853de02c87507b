use Rattle.std.proofs.Common.{arith}
use Rattle.thiele_bounds.specs.Pairs.{row_sum}
use Rattle.thiele_bounds.proofs.PairBounds.PairLemmas.{rows-bound}
use Rattle.thiele_bounds.proofs.laws.row_sums.Goals as goal

pub returns : goal.returns
returns c worth overlap m left raise threshold free members two rises up size among enough =
    rows-bound worth overlap m free members left raise two rises up size among enough (λ i. row_sum worth overlap free left raise (threshold i) i) (λ n is. (threshold n, omega arith))
