use Rattle.std.proofs.Common.{◌≡◌, ℕ, ◌+◌, ◌==◌, ◌<◌, ◌&&◌, cond, length, get_or}
use Rattle.std.specs.Int.{bit_at}
use Rattle.ballot_base.specs.Limits.{most_candidates}
use Rattle.ballot_base.specs.Lists.{IsIncreasing}
use Rattle.ballot_base.specs.CandSet.{has_member}
use Rattle.thiele_search.specs.Steps.Columns.{block_voters}
use Rattle.thiele_search.proofs.columns.add_voter.Given as goal

-- with the candidates who are left, the bits are those at the end
abbrev pub invariant-loop-candidate : goal.invariant-loop-candidate
invariant-loop-candidate l = record {
  long : length l.block ≡ most_candidates + 1;
  rises : IsIncreasing 1 most_candidates l.candidate-iterator;
  made : (c i : ℕ) → i < block_voters → cond ((i == l.place) && has_member l.candidate-iterator c) 1 (bit_at (get_or l.block c 0) i)
      ≡ cond ((i == l.place) && has_member l.fn.ballot c) 1 (bit_at (get_or l.fn.block c 0) i);
}
