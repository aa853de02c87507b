use Rattle.std.proofs.Common.{◌≡◌, ◌*◌, ◌≤◌, length, take}
use Rattle.thiele_search.specs.Steps.Columns.{block_voters, AreColumns}
use Rattle.thiele_search.specs.Steps.Uncovered.{table_blocks, uncovered_voters}
use Rattle.thiele_search.proofs.uncovered.Uncovered.of.Given as goal

-- the voters without a hit of the rows so far are there
abbrev pub invariant-loop-ballot : goal.invariant-loop-ballot
invariant-loop-ballot g l = record {
  long : length l.blocks ≡ table_blocks;
  many : length (uncovered_voters (take (length l.yielded) l.fn.profile.rows) l.fn.node.set l.fn.node.free) ≡ l.voters;
  few : l.voters ≤ table_blocks * block_voters;
  held : AreColumns (uncovered_voters (take (length l.yielded) l.fn.profile.rows) l.fn.node.set l.fn.node.free) l.blocks;
}
