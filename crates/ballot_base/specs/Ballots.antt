-- Approval ballots and profiles of them.
use Rattle.std.specs.Prelude.{ℕ, zero, suc, ◌+◌, ◌<◌, ◌≤◌, ◌≡◌, ◌≢◌, Bool, List, [], ◌∷◌, length, map, sum_by, count_by, Option, Some, None, slice_get, unwrap_or, AllPairs, if◌then◌else◌}
use Rattle.std.specs.List.{AllByRecursion, list_any}
use Rattle.std.specs.Str.{bytes_eq}
use Rattle.ballot_base.specs.Limits.{most_candidates, most_voters}
use Rattle.ballot_base.specs.Lists.{IsIncreasing}
use Rattle.ballot_base.specs.CandSet.{has_member}

-- a ballot, as the candidates that it approves, and how many voters cast it
abbrev pub Row : Type 0
Row = List ℕ × ℕ

-- what contracts see of a profile: the number of candidates, the name of each ([] for none), and the distinct
-- ballots in the order of their first appearance
pub record Election : Type 0 where
  pub m : ℕ
  pub names : List (List ℕ)
  pub rows : List Row

-- the election of m candidates with these names and these rows
abbrev pub election : ℕ → List (List ℕ) → List Row → Election
election m names rows = record { m = m; names = names; rows = rows }

-- a name, if it has bytes
abbrev pub some_name : List ℕ → Option (List ℕ)
some_name [] = None
some_name (b ∷ bytes) = Some (b ∷ bytes)

-- the name of a candidate, if there is one; 0 and the numbers above m have none
abbrev pub name_of : Election → ℕ → Option (List ℕ)
name_of e zero = None
name_of e (suc i) = some_name (unwrap_or (slice_get e.names i) [])

-- how many candidates of the ballot are in the committee
-- (Lackner and Skowron, Multi-Winner Voting with Approval Preferences)
abbrev pub hits : List ℕ → List ℕ → ℕ
hits ballot committee = count_by (has_member committee) ballot

-- how many voters there are
abbrev pub voter_count : List Row → ℕ
voter_count rows = sum_by (λ row. row.1) rows

-- the ballots of the rows
abbrev pub ballots_of : List Row → List (List ℕ)
ballots_of rows = map (λ row. row.0) rows

-- whether some voter cast this ballot
abbrev pub has_ballot : List Row → List ℕ → Bool
has_ballot rows ballot = list_any (λ row. bytes_eq ballot row.0) rows

-- The rows after `count` more voters cast this ballot: a known ballot keeps its place, and a new one comes last.
abbrev pub with_votes : List Row → List ℕ → ℕ → List Row
with_votes [] ballot count = (ballot, count) ∷ []
with_votes (row ∷ rows) ballot count =
    if bytes_eq ballot row.0 then (row.0, row.1 + count) ∷ rows else row ∷ with_votes rows ballot count

-- What is true of every profile, and of each one under construction. No ballot is in two rows.
pub record IsElection (e : Election) : Type 0 where
  pub least : 1 ≤ e.m
  pub most : e.m ≤ most_candidates
  pub names : length e.names ≡ e.m
  pub ballots : AllByRecursion (λ row. IsIncreasing 1 e.m row.0) e.rows
  pub distinct : AllPairs (λ ballot other. ballot ≢ other) (ballots_of e.rows)
  pub counts : AllByRecursion (λ row. 0 < row.1) e.rows
  pub voters : voter_count e.rows ≤ most_voters
