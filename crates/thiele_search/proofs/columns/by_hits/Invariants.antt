use Rattle.std.proofs.Common.{◌≡◌, ℕ, ◌+◌, ◌==◌, ◌<◌, ◌≤◌, cond, List, get_or}
use Rattle.std.specs.Int.{bit_at}
use Rattle.ballot_base.specs.Limits.{most_candidates}
use Rattle.ballot_base.specs.Lists.{IsIncreasing}
use Rattle.ballot_base.specs.Ballots.{hits}
use Rattle.thiele_search.specs.Steps.Columns.{block_voters, IsBlock}
use Rattle.thiele_search.proofs.columns.by_hits.Given as goal

-- who has so many hits without those of the members that are left
abbrev pub invariant-loop-member : goal.invariant-loop-member
invariant-loop-member l = record {
  rises : IsIncreasing 1 most_candidates l.member-iterator;
  counted : (ballot_at : ℕ → List ℕ) → IsBlock ballot_at l.block → (h i : ℕ) → h < l.levels → i < block_voters
      → bit_at (get_or l.words h 0) i ≡ cond (hits (ballot_at i) l.fn.set == h + hits (ballot_at i) l.member-iterator) 1 0;
  within : (ballot_at : ℕ → List ℕ) → IsBlock ballot_at l.block → (i : ℕ) → hits (ballot_at i) l.member-iterator ≤ hits (ballot_at i) l.fn.set;
}
