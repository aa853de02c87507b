use Rattle.std.proofs.Common.{◌≡◌, ℕ, true, [], get_or}
use Rattle.ballot_base.specs.Limits.{most_candidates}
use Rattle.ballot_base.specs.CandSet.{has_member}
use Rattle.ballot_base.specs.Lists.{IsIncreasing}
use Rattle.ballot_base.proofs.Passed.{AreLeft}
use Rattle.tie_walk.specs.Steps.Choices.{step_of}
use Rattle.sequential_winners.specs.Steps.Levels.{is_first_open}
use Rattle.sequential_winners.proofs.levels.Levels.firsts.Given as goal

-- of those that were passed, those are left who are the first of their clones
abbrev pub invariant-loop-c : goal.invariant-loop-c
invariant-loop-c g l = record {
  rises : IsIncreasing 1 most_candidates l.c-iterator;
  inside : (n : ℕ) → has_member l.c-iterator n ≡ true → has_member l.fn.tied n ≡ true;
  set : IsIncreasing 1 most_candidates l.firsts;
  each : AreLeft (λ n. is_first_open (step_of l.self.choices.rule) (get_or l.self.clones n []) l.fn.set n) l.fn.tied l.firsts l.c-iterator;
}
