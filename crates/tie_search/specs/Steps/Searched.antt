-- What a tally by search keeps.
use Rattle.std.specs.Prelude.{◌≡◌, ℕ, ◌≤◌, List}
use Rattle.ballot_base.specs.Limits.{most_candidates}
use Rattle.tie_walk.specs.Winners.{best_value}
use Rattle.tie_search.specs.declared.found.Tied.{Tied}
use Rattle.tie_search.specs.Tied.{AreBest}

-- what is true of each tally by search: it knows how many candidates there are, and committees with the highest value
-- are listed
pub record IsSearched (value : List ℕ → ℕ) (class : ℕ → List ℕ) (candidates m k best : ℕ) (tied : Tied) : Type 0 where
  pub size : m ≡ candidates
  pub most : candidates ≤ most_candidates
  pub some : 1 ≤ k
  pub fits : k ≤ candidates
  pub best_is : best ≡ best_value value candidates k
  pub listed : AreBest value class candidates k tied
