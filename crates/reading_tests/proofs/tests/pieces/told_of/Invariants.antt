use Rattle.std.proofs.Common.{◌≡◌, ◌+◌, length}
use Rattle.reading_tests.proofs.tests.pieces.told_of.Given as goal

-- what was fed and what is left are the file
abbrev pub invariant-loop-size : goal.invariant-loop-size
invariant-loop-size g l = length l.reader.fed + length l.rest ≡ length l.fn.file
