use Rattle.std.proofs.Common.{◌≡◌, false, length, take}
use Rattle.std.specs.Prelude.{nat_lt}
use Rattle.std.specs.List.{list_any}
use Rattle.ballot_base.specs.Ballots.{Row}
use Rattle.vote_cli.proofs.PartyLemmas.{tallies}
use Rattle.vote_cli.proofs.parties.votes_of.Given as goal

-- the ballots so far approve one candidate at most, and their voters are counted
abbrev pub invariant-loop-ballot : goal.invariant-loop-ballot
invariant-loop-ballot g l = record {
  single : list_any (λ (row : Row). nat_lt 1 (length row.0)) (take (length l.yielded) l.profile.rows) ≡ false;
  votes : l.votes ≡ tallies (take (length l.yielded) l.profile.rows);
}
