use Rattle.std.proofs.Common.{◌≡◌, ℕ, ◌+◌, ◌<◌, ◌≤◌, get_or, length}
use Rattle.ballot_base.specs.Limits.{most_members}
use Rattle.ballot_base.specs.Increments.{increment}
use Rattle.ballot_base.proofs.increments.Increments.of.Given as goal

-- the increments of the first j members stand, and the others are 0
abbrev pub invariant-loop-j : goal.invariant-loop-j
invariant-loop-j l = record {
  long : length l.w ≡ most_members;
  made : (i : ℕ) → i < l.j → get_or l.w i 0 ≡ increment l.rule l.k (i + 1);
  others : (i : ℕ) → l.j ≤ i → i < most_members → get_or l.w i 0 ≡ 0;
}
