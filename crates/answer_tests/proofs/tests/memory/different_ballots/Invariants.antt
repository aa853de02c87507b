use Rattle.std.proofs.Common.{◌≡◌}
use Rattle.answer_tests.proofs.tests.memory.different_ballots.Given as goal

abbrev pub invariant-loop-word : goal.invariant-loop-word
invariant-loop-word g l = l.builder.m ≡ 20
