use Rattle.std.proofs.Common.{length}
use Rattle.seat_share.proofs.party.+advance.Given as goal

abbrev pub decreases-advance : goal.decreases-advance
decreases-advance l = length l.parties.now
