use Rattle.std.proofs.Common.{◌≡◌, ℕ, ◌*◌, ◌≤◌, List}
use Rattle.thiele_search.specs.Steps.Columns.{block_voters, total, voter_ballot}
use Rattle.thiele_search.specs.Steps.Uncovered.{AreWithout, joins, uncovered_voters}
use Rattle.thiele_search.proofs.uncovered.Uncovered.gain.Given as goal

-- the voters of the blocks so far are counted
abbrev pub invariant-loop-b : goal.invariant-loop-b
invariant-loop-b g l = record {
  counted : (set : List ℕ) → AreWithout (uncovered_voters l.fn.self.profile.now.rows l.fn.self.set l.fn.self.free) set l.fn.voters
      → l.gain ≡ total (λ v. joins set l.fn.candidate (voter_ballot (uncovered_voters l.fn.self.profile.now.rows l.fn.self.set l.fn.self.free) v)) (l.b * block_voters);
  most : l.gain ≤ l.b * block_voters;
}
