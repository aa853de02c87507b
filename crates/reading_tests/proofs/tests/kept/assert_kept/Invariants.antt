use Rattle.std.proofs.Common.{◌≡◌, ◌+◌, length}
use Rattle.reading_tests.proofs.tests.kept.assert_kept.Given as goal

-- what was fed and what is left are what was fed before and the lines
abbrev pub invariant-loop-i : goal.invariant-loop-i
invariant-loop-i g l = length l.reader.fed + length l.rest ≡ length l.fn.reader.fed + length l.fn.lines
