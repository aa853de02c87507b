use Rattle.std.proofs.Common.{◌≡◌, length, take}
use Rattle.thiele_search.specs.Steps.Columns.{AreColumns, voters_of}
use Rattle.thiele_search.proofs.columns.blocks_of.Given as goal

-- the voters of the rows so far are there
abbrev pub invariant-loop-ballot : goal.invariant-loop-ballot
invariant-loop-ballot g l = record {
  long : length l.blocks.items ≡ length l.initial.blocks.items;
  many : length (voters_of (take (length l.yielded) l.profile.rows)) ≡ l.voters;
  held : AreColumns (voters_of (take (length l.yielded) l.profile.rows)) l.blocks.items;
}
