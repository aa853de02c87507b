-- What contracts see of the families of winners.
use Rattle.std.specs.Prelude.{ℕ, ◌+◌, ◌++◌, Bool, List}
use Rattle.std.specs.List.{list_any}
use Rattle.ballot_base.specs.Lists.{increasing_lists}
use Rattle.ballot_base.specs.Ballots.{Election}
use Rattle.tie_walk.specs.Sequences.{is_sequential_winner}
use Rattle.tie_walk.specs.declared.sequential.SeqRule.{SeqRule}

-- an election, a sequential rule, and the size of a committee
pub record Sequential : Type 0 where
  pub election : Election
  pub rule : SeqRule
  pub k : ℕ

abbrev pub sequential_of : Election → SeqRule → ℕ → Sequential
sequential_of election rule k = record { election = election; rule = rule; k = k }

-- whether some sequence of choices makes the set
abbrev pub is_winner : Sequential → List ℕ → Bool
is_winner s set = is_sequential_winner s.rule s.election s.k set

-- whether some sequence of choices makes a committee of the set and of `left` of the candidates after c
abbrev pub some_winner : Sequential → ℕ → List ℕ → ℕ → Bool
some_winner s c set left = list_any (λ added. is_winner s (set ++ added)) (increasing_lists (c + 1) s.election.m left)
