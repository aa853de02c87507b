-- Limits of multipliers.
use Rattle.std.specs.Prelude.{ℕ, ◌^◌}

-- the greatest number that a step moves a multiplier to
abbrev pub most_moved : ℕ
most_moved = 2 ^ 40
