-- The prices that a search keeps.
use Rattle.std.specs.Prelude.{◌≡◌, [], Option, MatchOption, ⊤}
use Rattle.std.specs.List.{range_with_len}
use Rattle.ballot_base.specs.Increments.{increments}
use Rattle.tie_walk.specs.Values.{Thiele}
use Rattle.thiele_bounds.specs.Steps.Paired.{AreSums, AreTotals}
use Rattle.thiele_bounds.specs.declared.prices.Priced.{Priced}

-- no committee of k is worth more than what all keep and the prices of its members
pub record ArePrices {A : Type 0} (tally : Thiele) (priced : Priced A) : Type 0 where
  pub k_is : priced.k ≡ tally.k
  pub sums : AreSums (increments tally.rule tally.k) priced.given.scale priced.given.unit priced.given.sums
  pub totals : AreTotals (increments tally.rule tally.k) priced.given.scale priced.given.unit tally.election.m
      tally.election.rows [] (range_with_len 1 tally.election.m) tally.k priced.whole.constant priced.whole.worths []

-- the prices are those of the election, if they are kept
abbrev pub IsPriced : {A : Type 0} → Thiele → Option (Priced A) → Type 0
IsPriced tally priced = MatchOption priced ⊤ (ArePrices tally)
