-- The limits of what is shared out, and among how many.
use Rattle.std.specs.Prelude.{ℕ, ◌^◌}

-- the maximum number of parties
abbrev pub most_parties : ℕ
most_parties = 64

-- the maximum number of seats
abbrev pub most_seats : ℕ
most_seats = 10000

-- the maximum number of votes, of all parties together
abbrev pub most_votes : ℕ
most_votes = 2 ^ 32
