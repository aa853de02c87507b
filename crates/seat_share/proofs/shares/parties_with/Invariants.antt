use Rattle.std.proofs.Common.{◌≡◌, take}
use Rattle.std.specs.List.{AllByRecursion}
use Rattle.seat_share.specs.Steps.Standings.{votes_of}
use Rattle.seat_share.proofs.shares.parties_with.Given as goal

abbrev pub invariant-loop-votes : goal.invariant-loop-votes
invariant-loop-votes l = record {
  votes : votes_of l.parties.items ≡ take l.votes-index l.votes;
  fresh : AllByRecursion (λ c. c.seats ≡ 0) l.parties.items;
}
