-- Increasing lists as conditions.
use Rattle.std.specs.Prelude.{ℕ, ◌+◌, List, [], ◌∷◌}
use Rattle.std.specs.Coded.{Unit-prop, le_prop}
use mathlib.Core.HLevel.{×₃_prop}
use Rattle.ballot_base.specs.Lists.{IsIncreasing}

-- there is at most one proof that a list is increasing
pub IsIncreasing-prop : (first last : ℕ) (set : List ℕ) → IsProp (IsIncreasing first last set)
IsIncreasing-prop first last [] = Unit-prop
IsIncreasing-prop first last (n ∷ rest) = ×₃_prop le_prop le_prop (IsIncreasing-prop (n + 1) last rest)
