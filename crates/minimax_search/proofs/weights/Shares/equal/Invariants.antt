use Rattle.std.proofs.Common.{◌≡◌, ◌+◌, ℕ, ◌≤◌, length, slice_index}
use Rattle.ballot_base.specs.Limits.{most_candidates}
use Rattle.minimax_search.specs.Steps.Search.{share_parts}
use Rattle.minimax_search.proofs.weights.Shares.equal.Given as goal

abbrev pub invariant-loop-n : goal.invariant-loop-n
invariant-loop-n l = record {
  long : length l.of_one ≡ most_candidates + 1;
  small : (i : ℕ) → slice_index l.of_one i ≤ share_parts;
}
