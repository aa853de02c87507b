-- Elections by party lists.
use Rattle.std.specs.Prelude.{◌≡◌, ℕ, ◌≤◌, List, length, map, count_by}
use Rattle.std.specs.List.{AllByRecursion}
use Rattle.ballot_base.specs.CandSet.{has_member}
use Rattle.ballot_base.specs.Lists.{IsIncreasing}
use Rattle.ballot_base.specs.Ballots.{Row, Election, hits}
use Rattle.seat_share.specs.declared.method.Method.{Method}
use Rattle.seat_share.specs.Fair.{IsFair}

-- Each ballot is the list of a party. Nobody is on two lists, and each list is long enough for all of k seats
-- (Brill, Laslier and Skowron, Multiwinner Approval Rules as Apportionment Methods, 2018).
pub record ArePartyLists (k : ℕ) (rows : List Row) : Type 0 where
  pub apart : (candidate : ℕ) → count_by (λ (row : Row). has_member row.0 candidate) rows ≤ 1
  pub long : AllByRecursion (λ (row : Row). k ≤ length row.0) rows

-- the votes of each party
abbrev pub votes_of : List Row → List ℕ
votes_of rows = map (λ row. row.1) rows

-- how many seats a committee gives each party
abbrev pub seats_of : List Row → List ℕ → List ℕ
seats_of rows committee = map (λ row. hits row.0 committee) rows

-- a committee of k that gives the parties a fair allocation of its seats
pub record IsApportioned (method : Method) (e : Election) (k : ℕ) (committee : List ℕ) : Type 0 where
  pub candidates : IsIncreasing 1 e.m committee
  pub size : length committee ≡ k
  pub fair : IsFair method (votes_of e.rows) k (seats_of e.rows committee)
