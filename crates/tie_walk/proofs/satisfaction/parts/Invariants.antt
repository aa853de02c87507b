use Rattle.std.proofs.Common.{◌≡◌, ℕ, ◌+◌, ◌/◌, ◌<◌, ◌≤◌, length, get_or}
use Rattle.ballot_base.specs.Limits.{most_candidates}
use Rattle.tie_walk.proofs.satisfaction.parts.Given as goal

-- the parts by the numbers below n stand
abbrev pub invariant-loop-n : goal.invariant-loop-n
invariant-loop-n l = record {
  long : length l.parts ≡ most_candidates + 1;
  first : get_or l.parts 0 0 ≡ 0;
  made : (i : ℕ) → 1 ≤ i → i < l.n → get_or l.parts i 0 ≡ l.whole / i;
}
