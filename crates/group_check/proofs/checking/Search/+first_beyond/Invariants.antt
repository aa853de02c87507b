use Rattle.std.proofs.Common.{length}
use Rattle.group_check.proofs.checking.Search.+first_beyond.Given as goal

abbrev pub decreases-first_beyond : goal.decreases-first_beyond
decreases-first_beyond g l = length l.pool
