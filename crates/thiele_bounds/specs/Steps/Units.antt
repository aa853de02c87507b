-- Limits of the units in which prices and majorants count.
use Rattle.std.specs.Prelude.{ℕ, ◌^◌}

-- the first hit of a voter gives at most about this many units
abbrev pub most_units : ℕ
most_units = 2 ^ 40

-- all hits of a voter give at most this many units, as much as 64 first hits
abbrev pub most_given : ℕ
most_given = 2 ^ 46

-- the overlaps of all voters together have at most this many units
abbrev pub most_overlap : ℕ
most_overlap = 2 ^ 58

-- all voters together keep at most this many units, and no price is above it
abbrev pub most_priced : ℕ
most_priced = 2 ^ 78
