-- Allocations as choices: each party has the seats that are certain, and some of the tied parties get one more.
use Rattle.std.specs.Prelude.{ℕ, zero, suc, ◌+◌, Bool, true, false, List, [], ◌∷◌, ◌++◌, map}

-- a party's certain seats, and whether it is tied for one more
abbrev pub Standing : Type 0
Standing = ℕ × Bool

-- all ways to give one more seat to this many of the tied parties, in ascending order of the allocations
unfoldable pub choices : List Standing → ℕ → List (List ℕ)
choices [] zero = [] ∷ []
choices [] (suc more) = []
choices ((sure, false) ∷ rest) more = map (λ seats. sure ∷ seats) (choices rest more)
choices ((sure, true) ∷ rest) zero = map (λ seats. sure ∷ seats) (choices rest zero)
choices ((sure, true) ∷ rest) (suc more) =
    map (λ seats. sure ∷ seats) (choices rest (suc more)) ++ map (λ seats. (sure + 1) ∷ seats) (choices rest more)
