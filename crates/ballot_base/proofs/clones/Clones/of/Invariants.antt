use Rattle.std.proofs.Common.{◌≡◌, ℕ, ◌+◌, ◌<◌, ◌≤◌, [], length, get_or}
use Rattle.ballot_base.specs.Limits.{most_candidates}
use Rattle.ballot_base.specs.Clones.{clones_among}
use Rattle.ballot_base.proofs.clones.Clones.of.Given as goal

-- the clones of those before c are in their places
abbrev pub invariant-loop-c : goal.invariant-loop-c
invariant-loop-c g l = record {
  long : length l.classes ≡ most_candidates + 1;
  made : (d : ℕ) → 1 ≤ d → d < l.c → get_or l.classes d [] ≡ clones_among l.profile.m l.profile.rows d;
}
