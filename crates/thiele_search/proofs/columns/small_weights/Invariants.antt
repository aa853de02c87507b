use Rattle.std.proofs.Common.{◌≡◌, ℕ, ◌<◌, ◌≤◌, ◌^◌, length, get_or}
use Rattle.ballot_base.specs.Limits.{most_members}
use Rattle.thiele_search.proofs.columns.small_weights.Given as goal

-- the weights so far are the same, none is too large, and none counts from the last level on
abbrev pub invariant-loop-j : goal.invariant-loop-j
invariant-loop-j l = record {
  long : length l.small ≡ most_members;
  same : (i : ℕ) → i < l.j → get_or l.small i 0 ≡ get_or l.weights i 0;
  few : (i : ℕ) → get_or l.small i 0 < 2 ^ 44;
  within : l.levels ≤ l.j;
  none : (i : ℕ) → l.levels ≤ i → i < l.j → get_or l.small i 0 ≡ 0;
}
