-- How numbers are printed.
use Rattle.std.specs.Prelude.{ℕ, List, ◌∷◌, decimal, flat_map}

-- numbers in digits, with a comma before each
abbrev pub following_text : List ℕ → List ℕ
following_text numbers = flat_map (λ n. 44 ∷ decimal n) numbers
