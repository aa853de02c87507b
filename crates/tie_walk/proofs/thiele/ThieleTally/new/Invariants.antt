use Rattle.std.proofs.Common.{◌≡◌, ℕ, ◌+◌, ◌≤◌, length, take, get_or, sum}
use Rattle.ballot_base.specs.Limits.{most_candidates}
use Rattle.tie_walk.proofs.thiele.ThieleTally.new.Given as goal

-- the sums up to that of the first x stand
abbrev pub invariant-loop-x : goal.invariant-loop-x
invariant-loop-x g l = record {
  long : length l.sums ≡ most_candidates + 1;
  made : (i : ℕ) → i ≤ l.x → get_or l.sums i 0 ≡ sum (take i l.weights);
}
