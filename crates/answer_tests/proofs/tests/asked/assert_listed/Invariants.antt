use Rattle.std.specs.List.{AllByRecursion}
use Rattle.ballot_base.specs.Lists.{IsIncreasing}
use Rattle.answer_tests.proofs.tests.asked.assert_listed.Given as goal

-- each committee has candidates 1 to m
abbrev pub invariant-loop-committee : goal.invariant-loop-committee
invariant-loop-committee g l = AllByRecursion (λ set. IsIncreasing 1 l.m set) l.committee-iterator
