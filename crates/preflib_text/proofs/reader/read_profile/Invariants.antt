use Rattle.std.proofs.Common.{length}
use Rattle.preflib_text.proofs.After.{IsAt}
use Rattle.preflib_text.proofs.reader.read_profile.Given as goal

abbrev pub invariant-loop-rest : goal.invariant-loop-rest
invariant-loop-rest g l = IsAt l.fn.pick l.fn.bytes l.rest l.notes l.builder l.number

abbrev pub decreases-loop-rest : goal.decreases-loop-rest
decreases-loop-rest g l = length l.rest
