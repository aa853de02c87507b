use Rattle.std.proofs.Common.{◌+◌, length}
use Rattle.group_check.proofs.checking.Search.+is_refuted.Given as goal

abbrev pub decreases-is_refuted : goal.decreases-is_refuted
decreases-is_refuted g l = length l.choices.pool + length l.choices.members
