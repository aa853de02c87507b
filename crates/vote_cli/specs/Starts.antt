-- The lists after which the answers to a request may start.
use Rattle.std.specs.Prelude.{ℕ, ◌==◌, ◌&&◌, Bool, true, List, Option, Some, None, length, nat_le}
use Rattle.std.specs.List.{list_all}
use Rattle.seat_share.specs.Limits.{most_seats}

-- whether there is no start, or one that fits
abbrev pub may_start : (List ℕ → Bool) → Option (List ℕ) → Bool
may_start fits None = true
may_start fits (Some start) = fits start

-- whether a list has a number of seats for each of the parties, be it an allocation or not
abbrev pub has_seats_for : ℕ → List ℕ → Bool
has_seats_for parties list = length list == parties && list_all (λ seats. nat_le seats most_seats) list
