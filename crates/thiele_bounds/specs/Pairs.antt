-- Pairs of members. What a voter gives for h hits is at most a concave quadratic function of h, and h * h counts the
-- ordered pairs of members that the voter approves. So the voters together give at most a quadratic function of the
-- members, and row sums bound that by a linear one (Gallo, Hammer and Simeone, Quadratic knapsack problems).
use Rattle.std.specs.Prelude.{ℕ, ◌+◌, ◌-◌, ◌*◌, ◌≤◌, List, sum, sum_by, take}
use Rattle.ballot_base.specs.Ballots.{Row}
use Rattle.ballot_base.specs.CandSet.{without_member}
use Rattle.tie_walk.specs.Sequences.{supporters}

-- constant + worth * h - overlap * h * h is at least what h hits after the first `before` give in all, for h up to
-- `most`: times the scale, in units
abbrev pub IsMajorant : List ℕ → ℕ → ℕ → ℕ → ℕ → ℕ → ℕ → ℕ → Type 0
IsMajorant weights scale unit before most constant worth overlap =
    (h : ℕ) → h ≤ most
    → scale * sum (take (before + h) weights) + unit * (overlap * (h * h)) ≤ unit * (constant + worth * h)

-- what all voters keep
abbrev pub all_constants : (Row → ℕ) → List Row → ℕ
all_constants constant rows = sum_by (λ row. row.1 * constant row) rows

-- the worths of all voters who approve the candidate
abbrev pub all_worth : (Row → ℕ) → List Row → ℕ → ℕ
all_worth worth rows n = sum_by (λ row. row.1 * worth row) (supporters rows n)

-- the overlaps of all voters who approve both candidates
abbrev pub all_overlap : (Row → ℕ) → List Row → ℕ → ℕ → ℕ
all_overlap overlap rows i j = sum_by (λ row. row.1 * overlap row) (supporters (supporters rows i) j)

-- the sum over all ordered pairs of members, also of each with itself
abbrev pub pair_sum : (ℕ → ℕ → ℕ) → List ℕ → ℕ
pair_sum overlap members = sum_by (λ i. sum_by (overlap i) members) members

-- the worth of a candidate beside another: less a multiple of their overlap, and raised so that it is not below 0
abbrev pub worth_beside : (ℕ → ℕ) → (ℕ → ℕ → ℕ) → ℕ → ℕ → ℕ → ℕ → ℕ
worth_beside worth overlap left raise i j = worth j + raise - 2 * (left - 1) * overlap i j

-- for a free candidate, a bound on the sum of its row: on its own worth and that of left - 1 others beside it
abbrev pub row_sum : (ℕ → ℕ) → (ℕ → ℕ → ℕ) → List ℕ → ℕ → ℕ → ℕ → ℕ → ℕ
row_sum worth overlap free left raise threshold i =
    (left - 2) * worth i + worth_beside worth overlap left raise i i + (left - 1) * threshold
    + sum_by (λ j. worth_beside worth overlap left raise i j - threshold) (without_member free i)
