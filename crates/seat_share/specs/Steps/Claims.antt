-- What decides on a party's claim to its next seat.
use Rattle.std.specs.Prelude.{ℕ, ◌+◌, ◌-◌, ◌*◌, ◌≤◌}
use Rattle.seat_share.specs.declared.method.Method.{Method}
use Rattle.seat_share.specs.declared.method.Method.TheVariants.{Hamilton}
use Rattle.seat_share.specs.Limits.{most_seats, most_votes}
use Rattle.seat_share.specs.Quotients.{Quotient, quotient}

-- The claim of a party with these votes and these seats to its next one, if `most` seats are shared out by `total`
-- votes. For a divisor method it is the quotient. For Hamilton's method it is what is left of the votes times the seats
-- when the quota of each seat is taken away; `most` quotas are added, so that it is a whole number.
abbrev pub claim : Method → ℕ → ℕ → ℕ → ℕ → Quotient
claim Hamilton total most votes seats = (votes * most + (most - seats) * total, 1)
claim method total most votes seats = quotient method votes seats

-- within the limits no dividend of a claim is above this ..
abbrev pub most_dividend : ℕ
most_dividend = most_votes * most_votes

-- .. and no divisor is above this
abbrev pub most_divisor : ℕ
most_divisor = 2 * most_seats * (most_seats + 1)

-- all votes and all seats are within the limits, and the votes and the seats of a party are among them
pub record IsWithinLimits (total most votes seats : ℕ) : Type 0 where
  pub few_votes : total ≤ most_votes
  pub few_seats : most ≤ most_seats
  pub own_votes : votes ≤ most_votes
  pub own_seats : seats ≤ most
