use Rattle.std.proofs.Common.{◌≡◌, ℕ, ◌+◌, ◌==◌, ◌<◌, ◌≤◌, cond, length, get_or}
use Rattle.std.specs.Int.{bit_at}
use Rattle.ballot_base.specs.Limits.{most_candidates}
use Rattle.thiele_search.specs.Steps.Columns.{block_voters, word_before}
use Rattle.thiele_search.proofs.columns.add_hit.Given as goal

-- the words so far have moved, and the others are as they were
abbrev pub invariant-loop-h : goal.invariant-loop-h
invariant-loop-h l = record {
  long : length l.words ≡ most_candidates + 1;
  moved : (h i : ℕ) → h < l.h → i < block_voters → bit_at (get_or l.words h 0) i
      ≡ cond (bit_at l.approving i == 1) (bit_at (word_before l.fn.words h) i) (bit_at (get_or l.fn.words h 0) i);
  same : (h : ℕ) → l.h ≤ h → get_or l.words h 0 ≡ get_or l.fn.words h 0;
  last : l.before ≡ word_before l.fn.words l.h;
}
