-- Prices of candidates. A voter gives a completion of a set at most a constant, and the multiplier for each further
-- hit. So no completion is worth more than all constants and the prices of the members that join (Fisher, The
-- Lagrangian relaxation method for solving integer programming problems).
use Rattle.std.specs.Prelude.{ℕ, ◌+◌, ◌*◌, ◌≤◌, List, sum, take}

-- constant + multiplier * h is at least what h hits after the first `before` give in all, for h up to `most`: times the
-- scale, in units
abbrev pub IsLinearMajorant : List ℕ → ℕ → ℕ → ℕ → ℕ → ℕ → ℕ → Type 0
IsLinearMajorant weights scale unit before most constant multiplier =
    (h : ℕ) → h ≤ most → scale * sum (take (before + h) weights) ≤ unit * (constant + multiplier * h)
