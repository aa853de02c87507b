use Rattle.std.proofs.Common.{◌≡◌, ℕ, ◌+◌, ◌*◌, ◌<◌, ◌≤◌, ◌==◌, cond, false, List, get_or, length}
use Rattle.std.specs.Int.{bit_at}
use Rattle.ballot_base.specs.Ballots.{hits}
use Rattle.ballot_base.specs.CandSet.{has_member, with_member}
use Rattle.thiele_search.specs.Steps.Columns.{block_voters, voter_ballot}
use Rattle.thiele_search.specs.Steps.Uncovered.{AreWithout, table_blocks, uncovered_voters}
use Rattle.thiele_search.proofs.uncovered.Uncovered.without.Given as goal

-- in the blocks so far, the voters who approve the candidate have left
abbrev pub invariant-loop-b : goal.invariant-loop-b
invariant-loop-b g l = record {
  long : length l.rest ≡ table_blocks;
  ahead : (b : ℕ) → l.b ≤ b → get_or l.rest b 0 ≡ get_or l.fn.voters b 0;
  passed : (set : List ℕ) → has_member set l.fn.candidate ≡ false → AreWithout (uncovered_voters l.fn.self.profile.now.rows l.fn.self.set l.fn.self.free) set l.fn.voters
      → (b i : ℕ) → b < l.b → i < block_voters → bit_at (get_or l.rest b 0) i
      ≡ cond (hits (voter_ballot (uncovered_voters l.fn.self.profile.now.rows l.fn.self.set l.fn.self.free) (b * block_voters + i)) (with_member set l.fn.candidate) == 0) 1 0;
}
