use Rattle.std.proofs.Common.{◌≡◌, ◌+◌, length}
use Rattle.reading_tests.proofs.tests.support.in_pieces.Given as goal

-- what was fed and what is left are the file
abbrev pub invariant-loop-i : goal.invariant-loop-i
invariant-loop-i l = length l.reader.fed + length l.rest ≡ length l.fn.file
