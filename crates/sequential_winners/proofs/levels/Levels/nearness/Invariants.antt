use Rattle.std.proofs.Common.{◌≡◌, ℕ, [], true, take, length, get_or}
use Rattle.ballot_base.specs.Limits.{most_candidates}
use Rattle.ballot_base.specs.Lists.{IsIncreasing}
use Rattle.ballot_base.specs.CandSet.{has_member}
use Rattle.tie_walk.specs.Sequences.{hit_weights}
use Rattle.tie_walk.specs.Steps.Choices.{step_of}
use Rattle.sequential_winners.specs.Steps.Near.{near_of}
use Rattle.sequential_winners.proofs.NearLemmas.{IsNear}
use Rattle.sequential_winners.proofs.levels.Levels.nearness.Given as goal

-- who shares a voter of the rows so far
abbrev pub invariant-loop-ballot : goal.invariant-loop-ballot
invariant-loop-ballot g l =
    let s = l.self.choices in record {
      rises : (c : ℕ) → IsIncreasing 1 most_candidates (get_or l.near c []);
      near : (c : ℕ) → has_member l.ties c ≡ true → IsNear (step_of s.rule) (hit_weights s.rule s.profile.now.m) l.set c l.ties (take (length l.yielded) s.profile.now.rows) (near_of l.near c);
    }
