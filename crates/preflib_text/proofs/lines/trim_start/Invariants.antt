use Rattle.std.proofs.Common.{◌≡◌, length}
use Rattle.preflib_text.specs.Lines.{trim_start}
use Rattle.preflib_text.proofs.lines.trim_start.Given as goal

-- blanks alone were passed over
abbrev pub invariant-loop-rest : goal.invariant-loop-rest
invariant-loop-rest l = trim_start l.rest ≡ trim_start l.fn.bytes

abbrev pub decreases-loop-rest : goal.decreases-loop-rest
decreases-loop-rest l = length l.rest
