use Rattle.std.proofs.Common.{◌≡◌}
use Rattle.ballot_base.specs.Limits.{most_candidates}
use Rattle.reading_tests.proofs.tests.builders.built.Given as goal

-- as many candidates as at first
abbrev pub invariant-loop-i : goal.invariant-loop-i
invariant-loop-i g l = l.builder.m ≡ most_candidates
