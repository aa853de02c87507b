use Rattle.std.proofs.Common.{take}
use Rattle.seat_share.specs.Steps.Claims.{claim}
use Rattle.seat_share.specs.Steps.Standings.{IsGreatest}
use Rattle.seat_share.proofs.award.first_claimant.Given as goal

-- the greatest claim of the parties so far
abbrev pub invariant-loop-place : goal.invariant-loop-place
invariant-loop-place l = IsGreatest (claim l.contest.method l.contest.votes l.contest.seats) (take l.place l.parties) l.best
