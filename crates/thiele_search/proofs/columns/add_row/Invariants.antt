use Rattle.std.proofs.Common.{◌≡◌, ℕ, List, ◌++◌, length, replicate}
use Rattle.thiele_search.specs.Steps.Columns.{AreColumns}
use Rattle.thiele_search.proofs.columns.add_row.Given as goal

-- so many voters of the row are there
abbrev pub invariant-loop-passed : goal.invariant-loop-passed
invariant-loop-passed l = record {
  long : length l.blocks ≡ length l.fn.blocks;
  held : (ballots : List (List ℕ)) → length ballots ≡ l.voters → AreColumns ballots l.fn.blocks → AreColumns (ballots ++ replicate l.passed l.ballot) l.blocks;
}
