use Rattle.std.proofs.Common.{◌≡◌, ℕ, ◌==◌, ◌<◌, ◌≤◌, cond, List}
use Rattle.std.specs.Int.{bit_at}
use Rattle.ballot_base.specs.Limits.{most_candidates}
use Rattle.ballot_base.specs.Lists.{IsIncreasing}
use Rattle.ballot_base.specs.Ballots.{hits}
use Rattle.thiele_search.specs.Steps.Columns.{block_voters, IsBlock}
use Rattle.thiele_search.proofs.columns.covered_by.Given as goal

-- who approves a member of those before the ones that are left
abbrev pub invariant-loop-member : goal.invariant-loop-member
invariant-loop-member l = record {
  rises : IsIncreasing 1 most_candidates l.member-iterator;
  counted : (ballot_at : ℕ → List ℕ) → IsBlock ballot_at l.block → (i : ℕ) → i < block_voters
      → bit_at l.covered i ≡ cond (hits (ballot_at i) l.fn.set == hits (ballot_at i) l.member-iterator) 0 1;
  within : (ballot_at : ℕ → List ℕ) → IsBlock ballot_at l.block → (i : ℕ) → hits (ballot_at i) l.member-iterator ≤ hits (ballot_at i) l.fn.set;
}
