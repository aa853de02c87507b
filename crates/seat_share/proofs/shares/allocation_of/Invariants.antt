use Rattle.std.proofs.Common.{◌≡◌, take}
use Rattle.seat_share.specs.Steps.Standings.{allocation}
use Rattle.seat_share.proofs.shares.allocation_of.Given as goal

abbrev pub invariant-loop-party : goal.invariant-loop-party
invariant-loop-party l = l.seats.items ≡ allocation (take l.party-index l.parties)
