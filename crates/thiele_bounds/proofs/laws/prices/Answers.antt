use Rattle.std.proofs.Common.{ℕ, List, [], ◌∷◌, arith, min}
use Rattle.std.specs.List.{AllByRecursion}
use Rattle.ballot_base.specs.Ballots.{Row, hits}
use Rattle.thiele_bounds.specs.Pairs.{IsMajorant}
use Rattle.thiele_bounds.specs.Prices.{IsLinearMajorant}
use Rattle.thiele_bounds.proofs.PairBounds.PairLemmas.{pairs-bound}
use Rattle.thiele_bounds.proofs.laws.prices.Goals as goal

-- a linear majorant is a majorant without an overlap
majorants : (weights : List ℕ) (scale unit : ℕ) (constant multiplier : Row → ℕ) (set free : List ℕ) (left : ℕ) (rows : List Row)
    → AllByRecursion (λ (row : Row). IsLinearMajorant weights scale unit (hits row.0 set) (min left (hits row.0 free)) (constant row) (multiplier row)) rows
    → AllByRecursion (λ (row : Row). IsMajorant weights scale unit (hits row.0 set) (min left (hits row.0 free)) (constant row) (multiplier row) 0) rows
majorants weights scale unit constant multiplier set free left [] are = tt
majorants weights scale unit constant multiplier set free left (row ∷ rows) are =
    ((λ h few. omega (arith, are.0 h few)), majorants weights scale unit constant multiplier set free left rows are.1)

pub returns : goal.returns
returns c weights scale unit m constant multiplier rows set free left committee ballots is_node whole are =
    omega (
      arith,
      pairs-bound weights scale unit m set free left committee is_node whole constant multiplier (λ row. 0) rows ballots (majorants weights scale unit constant multiplier set free left rows are),
    )
