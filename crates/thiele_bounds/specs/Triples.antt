-- Three members at a time. What a voter gives for h hits is at most a cubic function of h, and cubic functions count
-- the ordered pairs and triples of different members that the voter approves. Row sums bound a sum over triples by one
-- over the members (Gallo, Hammer and Simeone, Quadratic knapsack problems, has them for pairs).
use Rattle.std.specs.Prelude.{ℕ, ◌+◌, ◌-◌, ◌*◌, ◌≤◌, List, sum, sum_by, take}
use Rattle.ballot_base.specs.Ballots.{Row}
use Rattle.ballot_base.specs.CandSet.{without_member}
use Rattle.tie_walk.specs.Sequences.{supporters}
use Rattle.thiele_bounds.specs.Pairs.{all_overlap}

-- constant + worth * h - overlap * h * (h - 1) + triple * h * (h - 1) * (h - 2) is at least what h hits after the first
-- `before` give in all, for h up to `most`: times the scale, in units
abbrev pub IsCubicMajorant : List ℕ → ℕ → ℕ → ℕ → ℕ → ℕ → ℕ → ℕ → ℕ → Type 0
IsCubicMajorant weights scale unit before most constant worth overlap triple =
    (h : ℕ) → h ≤ most
    → scale * sum (take (before + h) weights) + unit * (overlap * (h * (h - 1)))
    ≤ unit * (constant + worth * h + triple * (h * ((h - 1) * (h - 2))))

-- the triples of all voters who approve all three candidates
abbrev pub all_triples : (Row → ℕ) → List Row → ℕ → ℕ → ℕ → ℕ
all_triples triple rows i = all_overlap triple (supporters rows i)

-- the sum over all ordered pairs of different members
abbrev pub sum_of_pairs : (ℕ → ℕ → ℕ) → List ℕ → ℕ
sum_of_pairs overlap members = sum_by (λ i. sum_by (overlap i) (without_member members i)) members

-- the sum over all ordered triples of different members
abbrev pub sum_of_triples : (ℕ → ℕ → ℕ → ℕ) → List ℕ → ℕ
sum_of_triples triple members = sum_by (λ i. sum_of_pairs (triple i) (without_member members i)) members

-- a bound on the sum of `count` of the candidates: each of them brings the threshold, and the excess over it
abbrev pub threshold_sum : (ℕ → ℕ) → List ℕ → ℕ → ℕ → ℕ
threshold_sum worth candidates count threshold = count * threshold + sum_by (λ n. worth n - threshold) candidates

-- the worth of three candidates together: less multiples of their overlaps, and raised so that it is not below 0
abbrev pub worth_of_three : (ℕ → ℕ) → (ℕ → ℕ → ℕ) → (ℕ → ℕ → ℕ → ℕ) → ℕ → ℕ → ℕ → ℕ → ℕ → ℕ
worth_of_three worth overlap triple left raise i j l =
    worth i + worth j + worth l + 3 * (left - 1) * (left - 2) * triple i j l + raise
    - (left - 1) * (overlap i j + overlap i l + overlap j l)

-- for two free candidates, a bound on the worths of three that they and left - 2 others make
abbrev pub sum_of_two : (ℕ → ℕ → ℕ → ℕ) → List ℕ → ℕ → (ℕ → ℕ → ℕ) → ℕ → ℕ → ℕ
sum_of_two worth free left threshold i j =
    threshold_sum (worth i j) (without_member (without_member free i) j) (left - 2) (threshold i j)

-- for a free candidate, a bound on the sums of two that it and left - 1 others make
abbrev pub sum_of_one : (ℕ → ℕ → ℕ) → List ℕ → ℕ → (ℕ → ℕ) → ℕ → ℕ
sum_of_one sum free left threshold i =
    threshold_sum (sum i) (without_member free i) (left - 1) (threshold i)
