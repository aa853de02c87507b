-- Minimax approval voting elects exactly the committees whose greatest distance to a ballot is least.
use Rattle.std.proofs.Common.{◌≡◌, ℕ, ◌≤◌, ◌↔◌, List, arith, length, Contains}
use Rattle.ballot_base.specs.Lists.{IsIncreasing}
use Rattle.ballot_base.specs.Ballots.{Election, IsElection}
use Rattle.ballot_base.proofs.Committees.{increasing_lists-contains, length-increasing}
use Rattle.tie_walk.specs.Values.{closeness, greatest_distance}
use Rattle.tie_walk.specs.Winners.{winners}
use Rattle.tie_walk.proofs.Distances.{greatest_distance-most}
use Rattle.tie_walk.proofs.LawLemmas.{no_greater_value, some_winner, winner-from_is, winner-is}
use Rattle.field_laws.proofs.Exchanges.{no-better}

module _ (e : Election) (k : ℕ) (committee : List ℕ) (valid : IsElection e) where
  -- no committee is farther than all candidates from a ballot, so the value says the distance
  distance-most : (set : List ℕ) → IsIncreasing 1 e.m set → greatest_distance e.rows set ≤ e.m
  distance-most set up = greatest_distance-most e.m e.rows set valid.ballots up

  pub nearest-winner : Contains (winners (closeness e.m e.rows) e.m k) committee
      → IsIncreasing 1 e.m committee × (length committee ≡ k) × ((other : List ℕ) → IsIncreasing 1 e.m other → length other ≡ k → greatest_distance e.rows committee ≤ greatest_distance e.rows other)
  nearest-winner wins =
      let is = winner-is (closeness e.m e.rows) e.m k committee wins in (
        is.0,
        is.1,
        λ other up size. omega (arith, no-better (closeness e.m e.rows) e.m k committee other wins up size, distance-most committee is.0, distance-most other up),
      )

  pub winner-nearest : IsIncreasing 1 e.m committee × (length committee ≡ k) × ((other : List ℕ) → IsIncreasing 1 e.m other → length other ≡ k → greatest_distance e.rows committee ≤ greatest_distance e.rows other)
      → Contains (winners (closeness e.m e.rows) e.m k) committee
  winner-nearest nearest =
      let value = closeness e.m e.rows in
      let best = some_winner value e.m k (omega (arith, nearest.1, length-increasing 1 e.m committee nearest.0)) in
      let is = winner-is value e.m k best.0 best.1 in
      winner-from_is value e.m k committee (
        nearest.0,
        nearest.1,
        omega (arith, is.2, nearest.2 best.0 is.0 is.1, no_greater_value value e.m k committee (increasing_lists-contains 1 e.m k committee (nearest.0, nearest.1))),
      )

-- both ways
pub nearest-decide : (e : Election) (k : ℕ) (committee : List ℕ) → IsElection e
    → Contains (winners (closeness e.m e.rows) e.m k) committee
    ↔ (IsIncreasing 1 e.m committee × (length committee ≡ k) × ((other : List ℕ) → IsIncreasing 1 e.m other → length other ≡ k → greatest_distance e.rows committee ≤ greatest_distance e.rows other))
nearest-decide e k committee valid = (nearest-winner e k committee valid, winner-nearest e k committee valid)
