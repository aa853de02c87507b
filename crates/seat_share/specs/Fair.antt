-- Which allocations of seats a method allows.
use Rattle.std.specs.Prelude.{ℕ, ◌+◌, ◌-◌, ◌*◌, ◌/◌, ◌%◌, ◌==◌, nat_le, sum}
use Rattle.std.specs.Prelude.{Bool, ◌&&◌, ◌||◌, not, IsTrue, List, length, zip}
use Rattle.std.specs.List.{list_all}
use Rattle.seat_share.specs.declared.method.Method.{Method}
use Rattle.seat_share.specs.declared.method.Method.TheVariants.{Hamilton}
use Rattle.seat_share.specs.Quotients.{quotient, is_at_least}

-- a party, as its votes and its seats
abbrev pub Party : Type 0
Party = ℕ × ℕ

-- whether a test holds of each two parties
abbrev pub all_pairs : (Party → Party → Bool) → List Party → Bool
all_pairs test parties = list_all (λ one. list_all (test one) parties) parties

-- A divisor method: the quotient of the last seat of the first is at least that of the next seat of the second. This is
-- required of parties with votes, if the first has a seat.
abbrev pub keeps_its_seat : Method → Party → Party → Bool
keeps_its_seat method one other =
    one.0 == 0 || other.0 == 0 || one.1 == 0
    || is_at_least (quotient method one.0 (one.1 - 1)) (quotient method other.0 other.1)

-- what the quota gives a party, rounded down, and what remains, for `total` votes and `seats` seats
abbrev pub quota_seats : ℕ → ℕ → ℕ → ℕ
quota_seats total seats votes = votes * seats / total

abbrev pub remainder : ℕ → ℕ → ℕ → ℕ
remainder total seats votes = votes * seats % total

-- Hamilton's method: a party has what the quota gives it, or one seat more ..
abbrev pub is_near_quota : ℕ → ℕ → Party → Bool
is_near_quota total seats party =
    party.1 == quota_seats total seats party.0 || party.1 == quota_seats total seats party.0 + 1

-- .. and a party that was rounded up has at least the remainder of each that was rounded down
abbrev pub has_the_remainder : ℕ → ℕ → Party → Party → Bool
has_the_remainder total seats one other =
    not (one.1 == quota_seats total seats one.0 + 1) || not (other.1 == quota_seats total seats other.0)
    || nat_le (remainder total seats other.0) (remainder total seats one.0)

-- whether the parties have their seats by the method, for `total` votes and `seats` seats
abbrev pub is_right : Method → ℕ → ℕ → List Party → Bool
is_right Hamilton total seats parties =
    list_all (is_near_quota total seats) parties && all_pairs (has_the_remainder total seats) parties
is_right method total seats parties = all_pairs (keeps_its_seat method) parties

-- whether a party without votes has no seat
abbrev pub has_votes_for_seats : Party → Bool
has_votes_for_seats party = not (party.0 == 0) || party.1 == 0

-- A fair allocation of the seats to parties with these votes (Balinski and Young, Fair Representation; Pukelsheim,
-- Proportional Representation). It shares out all of them, gives none to a party without votes, and is right by the
-- method.
abbrev pub is_fair : Method → List ℕ → ℕ → List ℕ → Bool
is_fair method votes seats allocation =
    length allocation == length votes && sum allocation == seats
    && list_all has_votes_for_seats (zip votes allocation)
    && is_right method (sum votes) seats (zip votes allocation)

abbrev pub IsFair : Method → List ℕ → ℕ → List ℕ → Type 0
IsFair method votes seats allocation = IsTrue (is_fair method votes seats allocation)
