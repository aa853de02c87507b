-- The range of what a request may ask for.
use Rattle.std.specs.Prelude.{ℕ}

-- the maximum number of answers that a request may ask for
abbrev pub most_limit : ℕ
most_limit = 4294967295

-- the maximum number of a way
abbrev pub most_way_number : ℕ
most_way_number = 1000000
