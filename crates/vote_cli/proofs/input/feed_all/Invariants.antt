use Rattle.std.proofs.Common.{◌≡◌, ◌+◌, length}
use Rattle.std.specs.Io.KnownBytes.{Consumes}
use Rattle.preflib_text.specs.Limits.{word_limit}
use Rattle.vote_cli.proofs.input.feed_all.Given as goal

-- the bytes that were fed are those that the reader gave in this run, and the others that may be fed are counted
abbrev pub invariant-loop-count : goal.invariant-loop-count
invariant-loop-count g l = record {
  read : Consumes (g.R.Source.remaining l.initial.reader) (g.R.Source.remaining l.reader) l.lines.fed;
  given : g.R.Source.given l.reader ≡ g.R.Source.given l.initial.reader + length l.lines.fed;
  unfailed : g.R.Device.has_failed l.reader ≡ g.R.Device.has_failed l.initial.reader;
  pick : l.lines.pick ≡ l.initial.lines.pick;
  left : l.left + length l.lines.fed + 1 ≡ word_limit;
}

abbrev pub decreases-loop-count : goal.decreases-loop-count
decreases-loop-count g l = l.left
