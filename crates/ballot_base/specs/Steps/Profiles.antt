-- How a profile is kept: its names in vectors, and its number of voters beside the rows.
use Rattle.std.specs.Prelude.{ℕ, ◌≡◌, List, map, Vec}
use Rattle.ballot_base.specs.Ballots.{Election, IsElection, voter_count}

-- the bytes of names
abbrev pub texts : {A : Type 0} → List (Vec ℕ A) → List (List ℕ)
texts names = map (λ name. name.items) names

-- an election with this number of voters
pub record IsCounted (e : Election) (voters : ℕ) : Type 0 where
  pub valid : IsElection e
  pub total : voters ≡ voter_count e.rows
