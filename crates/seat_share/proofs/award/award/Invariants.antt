use Rattle.seat_share.specs.Steps.Claims.{claim}
use Rattle.seat_share.specs.Steps.Standings.{votes_of}
use Rattle.seat_share.proofs.AwardLemmas.{HasGiven}
use Rattle.seat_share.proofs.award.award.Given as goal

-- the seats that were given so far were claimed at `low` or above it, and no party claims more above it
abbrev pub invariant-loop-given : goal.invariant-loop-given
invariant-loop-given l =
    HasGiven (claim l.contest.method l.contest.votes l.contest.seats) l.contest.seats (votes_of l.initial.parties) l.low l.parties l._given
