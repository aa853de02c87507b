use Rattle.std.proofs.Common.{length}
use Rattle.seat_share.proofs.award.+settle.Given as goal

abbrev pub decreases-settle : goal.decreases-settle
decreases-settle l = length l.parties.now
