use Rattle.std.proofs.Common.{◌≡◌, ℕ, ◌+◌, [], length, get_or}
use Rattle.ballot_base.specs.Limits.{most_candidates}
use Rattle.ballot_base.specs.Lists.{IsIncreasing}
use Rattle.sequential_winners.proofs.TableNear.{part}
use Rattle.sequential_winners.proofs.near.Nearness.join.Given as goal

-- with those who are still to come, the table is that at the end
abbrev pub invariant-loop-c : goal.invariant-loop-c
invariant-loop-c l = record {
  long : length l.self-inside.each ≡ most_candidates + 1;
  members : IsIncreasing 1 most_candidates l.c-iterator;
  made : (n : ℕ) → part l.fn.group l.c-iterator (get_or l.self-inside.each n []) n ≡ part l.fn.group l.fn.group (get_or l.fn.self n []) n;
}
