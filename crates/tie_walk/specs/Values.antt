-- The values of committees (Lackner and Skowron, Multi-Winner Voting with Approval Preferences).
use Rattle.std.specs.Prelude.{ℕ, ◌+◌, ◌-◌, ◌*◌, ◌/◌, ◌==◌, not, List, length, sum, sum_by, count_by, filter, fold, max, take}
use Rattle.ballot_base.specs.CandSet.{has_member}
use Rattle.ballot_base.specs.Ballots.{Row, Election, hits}
use Rattle.ballot_base.specs.CommonMultiple.{common_multiple}
use Rattle.ballot_base.specs.Increments.{increments}
use Rattle.ballot_base.specs.declared.increments.ThieleRule.{ThieleRule}

-- under a Thiele rule with these increments, a voter with x hits gives a committee the sum of the first x increments
abbrev pub thiele_value : List ℕ → List Row → List ℕ → ℕ
thiele_value weights rows committee = sum_by (λ row. row.1 * sum (take (hits row.0 committee) weights)) rows

-- Under satisfaction approval voting, a voter who approves someone gives a committee its hits divided by the size of
-- the ballot. Here this is times the least common multiple of 1 to m.
abbrev pub satisfaction_value : ℕ → List Row → List ℕ → ℕ
satisfaction_value m rows committee =
    sum_by (λ row. row.1 * hits row.0 committee * (common_multiple m / length row.0))
    (filter (λ row. not (length row.0 == 0)) rows)

-- how many candidates are in exactly one of a ballot and a committee
abbrev pub distance : List ℕ → List ℕ → ℕ
distance ballot committee =
    count_by (λ n. not (has_member committee n)) ballot + count_by (λ n. not (has_member ballot n)) committee

-- the maximum distance of a voter's ballot from the committee, however many voters cast it
abbrev pub greatest_distance : List Row → List ℕ → ℕ
greatest_distance rows committee = fold (λ greatest row. max greatest (distance row.0 committee)) 0 rows

-- under minimax approval voting the smallest maximum distance wins; the value is m minus this distance
abbrev pub closeness : ℕ → List Row → List ℕ → ℕ
closeness m rows committee = m - greatest_distance rows committee

-- what contracts see of a tally of a Thiele rule for committees of k
pub record Thiele : Type 0 where
  pub election : Election
  pub rule : ThieleRule
  pub k : ℕ

abbrev pub thiele_of : Election → ThieleRule → ℕ → Thiele
thiele_of election rule k = record { election = election; rule = rule; k = k }

-- what a tally of a Thiele rule gives a set
abbrev pub tally_value : Thiele → List ℕ → ℕ
tally_value tally set = thiele_value (increments tally.rule tally.k) tally.election.rows set
