use Rattle.std.specs.List.{AllByRecursion}
use Rattle.ballot_base.proofs.Committees.{IsChosen}
use Rattle.answer_tests.proofs.tests.asked.assert_starts.Given as goal

-- each start is a committee
abbrev pub invariant-loop-start : goal.invariant-loop-start
invariant-loop-start g l = AllByRecursion (IsChosen 1 l.m l.k) l.start-iterator
