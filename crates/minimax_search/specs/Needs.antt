-- Hits that ballots need so that none is far from a committee. The distance is the sum of both sizes, less two for each
-- hit (Legrand, Markakis and Mehta, Some results on approximating the minimax solution in approval voting). Weighted
-- needs of all rows add up to one constraint, a surrogate for the needs (Glover, Surrogate constraints).
use Rattle.std.specs.Prelude.{ℕ, ◌+◌, ◌-◌, ◌*◌, ◌/◌, List, length, sum_by}
use Rattle.ballot_base.specs.Ballots.{Row, hits}
use Rattle.tie_walk.specs.Sequences.{supporters}

-- the minimum number of hits with which a ballot of this size is no farther than `most` from a committee of k
abbrev pub hits_needed : ℕ → ℕ → ℕ → ℕ
hits_needed size k most = (size + k - most + 1) / 2

-- the hits that all ballots need beside those in the set, each times the weight of its row
abbrev pub weighted_needs : (Row → ℕ) → ℕ → ℕ → List ℕ → List Row → ℕ
weighted_needs weight k most set rows =
    sum_by (λ row. weight row * (hits_needed (length row.0) k most - hits row.0 set)) rows

-- the total weight of the rows that approve the candidate
abbrev pub weighted_support : (Row → ℕ) → List Row → ℕ → ℕ
weighted_support weight rows n = sum_by weight (supporters rows n)
