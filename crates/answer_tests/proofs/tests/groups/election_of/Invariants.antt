use Rattle.std.proofs.Common.{◌≡◌}
use Rattle.ballot_base.specs.Limits.{most_candidates}
use Rattle.answer_tests.proofs.tests.groups.election_of.Given as goal

-- the builder keeps its candidates
abbrev pub invariant-loop-ballot : goal.invariant-loop-ballot
invariant-loop-ballot g l = l.builder.m ≡ most_candidates
