-- What a list needs so that a reader can tell its answers from the text.
use Rattle.std.specs.Prelude.{ℕ, ◌≡◌, ◌<◌, ◌≤◌, ◌^◌, false, List, length, IfSome}
use Rattle.std.specs.List.{AllByRecursion}
use Rattle.ballot_base.specs.Limits.{most_candidates}
use Rattle.ballot_base.specs.CandSet.{has_member}
use Rattle.text_output.specs.Names.{Names}

-- no name has the byte that ends a line; the names that are read from a file have none
abbrev pub AreInLines : Names → Type 0
AreInLines names = IfSome names (AllByRecursion (λ name. has_member name 10 ≡ false))

-- at most as many numbers as there may be candidates, or parties, each of at most 64 bits
pub record AreNumbers (numbers : List ℕ) : Type 0 where
  pub few : length numbers ≤ most_candidates
  pub small : AllByRecursion (λ n. n < 2 ^ 64) numbers
