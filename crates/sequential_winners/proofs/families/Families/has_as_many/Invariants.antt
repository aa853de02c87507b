use Rattle.std.proofs.Common.{◌≡◌}
use Rattle.std.specs.Prelude.{nat_le}
use Rattle.std.specs.List.{list_all}
use Rattle.ballot_base.specs.Lists.{IsIncreasing}
use Rattle.sequential_winners.specs.Clones.{clone_count, has_as_many}
use Rattle.sequential_winners.proofs.families.Families.has_as_many.Given as goal

-- what is left of those who have clones decides
abbrev pub invariant-loop-c : goal.invariant-loop-c
invariant-loop-c g l = record {
  rises : IsIncreasing 1 l.self.election.m l.c-iterator;
  rest : has_as_many l.self.election.m l.self.election.rows l.fn.set l.fn.other ≡ list_all (λ x. nat_le (clone_count l.self.election.rows l.fn.other x) (clone_count l.self.election.rows l.fn.set x)) l.c-iterator;
}
