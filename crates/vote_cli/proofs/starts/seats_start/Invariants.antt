use Rattle.std.proofs.Common.{◌≡◌, true, take}
use Rattle.std.specs.Prelude.{nat_le}
use Rattle.std.specs.List.{list_all}
use Rattle.seat_share.specs.Limits.{most_seats}
use Rattle.vote_cli.proofs.starts.seats_start.Given as goal

-- the numbers so far are kept, and each is one of seats
abbrev pub invariant-loop-seats : goal.invariant-loop-seats
invariant-loop-seats l = record {
  kept : l.start.items ≡ take l.seats-index l.list;
  fit : list_all (λ n. nat_le n most_seats) (take l.seats-index l.list) ≡ true;
}
