use Rattle.std.proofs.Common.{length}
use Rattle.seat_share.proofs.party.+place_last.Given as goal

abbrev pub decreases-place_last : goal.decreases-place_last
decreases-place_last l = length l.parties.now
