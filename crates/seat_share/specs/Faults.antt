-- What is refused.
use Rattle.std.specs.Prelude.{ℕ, ◌==◌, nat_lt, sum, Bool, ◌||◌, false, not, if◌then◌else◌}
use Rattle.std.specs.Prelude.{List, length, Option, Some, None}
use Rattle.seat_share.specs.declared.method.ShareFault.{ShareFault}
use Rattle.seat_share.specs.declared.method.ShareFault.TheVariants.{NoParties, TooManyParties, NoVotes}
use Rattle.seat_share.specs.declared.method.ShareFault.TheVariants.{TooManyVotes, BadSeats, AfterLength}
use Rattle.seat_share.specs.Limits.{most_parties, most_seats, most_votes}

-- whether there is a start of another length
abbrev pub has_other_length : ℕ → Option (List ℕ) → Bool
has_other_length count None = false
has_other_length count (Some start) = not (length start == count)

-- the first fault of these votes, seats and start, if there is one
abbrev pub share_fault : List ℕ → ℕ → Option (List ℕ) → Option ShareFault
share_fault votes seats after =
    if length votes == 0 then Some NoParties
    else if nat_lt most_parties (length votes) then Some TooManyParties
    else if sum votes == 0 then Some NoVotes
    else if nat_lt most_votes (sum votes) then Some TooManyVotes
    else if seats == 0 || nat_lt most_seats seats then Some BadSeats
    else if has_other_length (length votes) after then Some AfterLength
    else None
