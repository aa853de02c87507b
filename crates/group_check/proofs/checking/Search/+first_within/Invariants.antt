use Rattle.std.proofs.Common.{length}
use Rattle.group_check.proofs.checking.Search.+first_within.Given as goal

abbrev pub decreases-first_within : goal.decreases-first_within
decreases-first_within g l = length l.pool
