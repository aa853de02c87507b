use Rattle.std.proofs.Common.{◌≡◌, ℕ, ◌*◌, ◌≤◌, List}
use Rattle.thiele_search.specs.Steps.Columns.{block_voters, total, approves_some, voter_ballot, AreColumns, AreRising}
use Rattle.thiele_search.proofs.columns.Columns.covered.Given as goal

-- the voters of the blocks so far are counted
abbrev pub invariant-loop-block : goal.invariant-loop-block
invariant-loop-block g l = record {
  summed : (ballots : List (List ℕ)) → AreColumns ballots l.self.blocks.items → AreRising ballots
      → l.covered ≡ total (λ v. approves_some l.fn.set (voter_ballot ballots v)) (l.block-index * block_voters);
  most : l.covered ≤ l.block-index * block_voters;
}
