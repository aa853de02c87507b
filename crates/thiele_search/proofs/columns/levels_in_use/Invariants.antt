use Rattle.std.proofs.Common.{◌≡◌, ℕ, ◌<◌, ◌≤◌, get_or}
use Rattle.thiele_search.proofs.columns.levels_in_use.Given as goal

-- no word from the last one in use on has a voter
abbrev pub invariant-loop-h : goal.invariant-loop-h
invariant-loop-h l = record {
  within : l.used ≤ l.h;
  none : (i : ℕ) → l.used ≤ i → i < l.h → get_or l.words i 0 ≡ 0;
}
