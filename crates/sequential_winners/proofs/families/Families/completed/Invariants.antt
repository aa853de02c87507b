use Rattle.std.proofs.Common.{◌≡◌, ◌+◌}
use Rattle.std.specs.Prelude.{fold}
use Rattle.ballot_base.specs.Lists.{IsIncreasing}
use Rattle.sequential_winners.specs.Steps.Tables.{completed, completed_by}
use Rattle.sequential_winners.proofs.families.Families.completed.Given as goal

-- what is left of those who have clones completes the set
abbrev pub invariant-loop-x : goal.invariant-loop-x
invariant-loop-x g l = record {
  rises : IsIncreasing (l.fn.c + 1) l.self.election.m l.x-iterator;
  candidates : IsIncreasing 1 l.self.election.m l.all;
  made : fold (completed_by l.self.election.rows l.fn.other) l.all l.x-iterator ≡ completed l.fn.c l.self.election.m l.self.election.rows l.fn.set l.fn.other;
}
