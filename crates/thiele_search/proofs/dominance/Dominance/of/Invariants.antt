use Rattle.std.proofs.Common.{◌≡◌, ℕ, ◌+◌, ◌<◌, ◌≤◌, true, [], length, get_or}
use Rattle.ballot_base.specs.CandSet.{has_member}
use Rattle.ballot_base.specs.Limits.{most_candidates}
use Rattle.thiele_search.specs.Steps.Dominance.{is_follower}
use Rattle.thiele_search.proofs.dominance.Dominance.of.Given as goal

-- in the places before c are only followers
abbrev pub invariant-loop-c : goal.invariant-loop-c
invariant-loop-c g l = record {
  long : length l.followers ≡ most_candidates + 1;
  made : (e d : ℕ) → 1 ≤ e → e < l.c → has_member (get_or l.followers e []) d ≡ true → is_follower l.profile.rows e d ≡ true;
}
