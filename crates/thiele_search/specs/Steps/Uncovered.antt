-- The voters without a hit at a node under the rule of Chamberlin and Courant.
use Rattle.std.specs.Prelude.{ℕ, true, ◌≡◌, ◌+◌, ◌-◌, ◌*◌, ◌<◌, ◌≤◌, ◌==◌, ◌&&◌, Bool, not, List, filter, slice_index, if◌then◌else◌}
use Rattle.std.specs.Int.{bit_at}
use Rattle.ballot_base.specs.Ballots.{Row, Election, IsElection, hits}
use Rattle.ballot_base.specs.CandSet.{has_member}
use Rattle.ballot_base.specs.Increments.{increments}
use Rattle.ballot_base.specs.Limits.{most_candidates, most_members}
use Rattle.ballot_base.specs.declared.increments.ThieleRule.TheVariants.{Cc}
use Rattle.row_multipliers.specs.Completions.{IsNode, IsOutOfReach}
use Rattle.tie_walk.specs.Values.{thiele_value}
use Rattle.thiele_search.specs.Steps.Columns.{block_voters, total, voter_ballot, voters_of}
use Rattle.thiele_search.specs.declared.uncovered.Branch.{Branch}

-- the number of blocks of a table, and the maximum number of seats that are left
abbrev pub table_blocks : ℕ
table_blocks = 4

abbrev pub most_left : ℕ
most_left = 7

-- whether a ballot has no hit in the set, and some among the free candidates
abbrev pub is_uncovered : List ℕ → List ℕ → List ℕ → Bool
is_uncovered set free ballot = (hits ballot set == 0) && not (hits ballot free == 0)

-- the ballots of the voters without a hit who approve a free candidate
abbrev pub uncovered_voters : List Row → List ℕ → List ℕ → List (List ℕ)
uncovered_voters rows set free = voters_of (filter (λ (row : Row). is_uncovered set free row.0) rows)

-- 1 for a ballot without a hit that approves the candidate, and 0 for the others
abbrev pub joins : List ℕ → ℕ → List ℕ → ℕ
joins set c ballot = if has_member ballot c then (if hits ballot set == 0 then 1 else 0) else 0

-- how many voters have their first hit if the candidate joins the set
abbrev pub newly : List (List ℕ) → List ℕ → ℕ → ℕ
newly ballots set c = total (λ v. joins set c (voter_ballot ballots v)) (table_blocks * block_voters)

-- no gain is above the number of voters that a table has room for
abbrev pub AreFew : List ℕ → Type 0
AreFew gains = (n : ℕ) → slice_index gains n ≤ table_blocks * block_voters

-- a bound on what `left` candidates gain: each gains the threshold, and what exceeds it
abbrev pub bound_by : (ℕ → ℕ) → ℕ → ℕ → ℕ
bound_by gains left threshold = left * threshold + total (λ n. gains n - threshold) (most_candidates + 1)

-- a bit of the words is set for each voter without a hit in the set
abbrev pub AreWithout : List (List ℕ) → List ℕ → List ℕ → Type 0
AreWithout ballots set voters = (b i : ℕ) → b < table_blocks → i < block_voters → bit_at (slice_index voters b) i
    ≡ (if hits (voter_ballot ballots (b * block_voters + i)) set == 0 then 1 else 0)

-- a branch below the node with this set and these free candidates
pub record IsBranch (e : Election) (set free : List ℕ) (branch : Branch) : Type 0 where
  pub valid : IsElection e
  pub is_node : IsNode e.m branch.set branch.free
  pub whole : (n : ℕ) → has_member set n ≡ true → has_member branch.set n ≡ true
  pub among : (n : ℕ) → has_member branch.free n ≡ true → has_member free n ≡ true
  pub voters : AreWithout (uncovered_voters e.rows set free) branch.set branch.voters

-- no completion of the branch adds what is due to the value of its set
abbrev pub FallsShort : Election → Branch → Type 0
FallsShort e branch = (k : ℕ) → 1 ≤ k → k ≤ most_members
    → IsOutOfReach (thiele_value (increments Cc k) e.rows) e.m branch.set branch.free branch.left
    (thiele_value (increments Cc k) e.rows branch.set + branch.due)
