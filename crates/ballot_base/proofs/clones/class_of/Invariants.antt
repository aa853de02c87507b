use Rattle.std.proofs.Common.{◌≡◌, filter, length, take}
use Rattle.std.specs.List.{range_with_len}
use Rattle.ballot_base.specs.Clones.{are_clones}
use Rattle.ballot_base.proofs.clones.class_of.Given as goal

-- those whom the rows so far do not tell from c
abbrev pub invariant-loop-ballot : goal.invariant-loop-ballot
invariant-loop-ballot g l = l.clones ≡ filter (are_clones (take (length l.yielded) l.profile.rows) l.c) (range_with_len 1 l.profile.m)
