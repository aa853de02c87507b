use Rattle.std.proofs.Common.{◌≡◌, length, reverse}
use Rattle.preflib_text.specs.Lines.{trim_start}
use Rattle.preflib_text.specs.Metadata.{trimmed}
use Rattle.preflib_text.proofs.lines.trim.Given as goal

-- blanks alone were cut off
abbrev pub invariant-loop-rest : goal.invariant-loop-rest
invariant-loop-rest l = reverse (trim_start (reverse l.rest)) ≡ trimmed l.fn.bytes

abbrev pub decreases-loop-rest : goal.decreases-loop-rest
decreases-loop-rest l = length l.rest
