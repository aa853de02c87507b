use Rattle.std.proofs.Common.{◌≡◌, ℕ, ◌*◌, ◌^◌, ◌≤◌, true, List, get_or}
use Rattle.ballot_base.specs.CandSet.{has_member}
use Rattle.thiele_search.specs.Steps.Columns.{block_voters, total, given, voter_ballot, AreColumns, AreRising}
use Rattle.thiele_search.proofs.columns.Columns.gains_of.Given as goal

-- the voters of the blocks so far are counted
abbrev pub invariant-loop-block : goal.invariant-loop-block
invariant-loop-block g l = record {
  summed : (ballots : List (List ℕ)) → AreColumns ballots l.self.blocks.items → AreRising ballots → (c : ℕ) → has_member l.fn.free c ≡ true
      → get_or l.gains c 0 ≡ total (λ v. given l.self.weights l.fn.set c (voter_ballot ballots v)) (l.block-index * block_voters);
  most : (c : ℕ) → get_or l.gains c 0 ≤ l.block-index * 2 ^ 96;
}
