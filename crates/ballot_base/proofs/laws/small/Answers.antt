use Rattle.ballot_base.proofs.LeastMultiples.{common_multiple_small}
use Rattle.ballot_base.proofs.WeightLemmas.{denominator-most, increment-most}
use Rattle.ballot_base.proofs.laws.small.Goals as goal

pub returns : goal.returns
returns c = record { multiples = common_multiple_small; denominators = denominator-most; increments = increment-most }
