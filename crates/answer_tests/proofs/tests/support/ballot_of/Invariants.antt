use Rattle.ballot_base.specs.Lists.{IsIncreasing}
use Rattle.answer_tests.proofs.tests.support.ballot_of.Given as goal

abbrev pub invariant-loop-n : goal.invariant-loop-n
invariant-loop-n l = IsIncreasing 1 l.m l.set
