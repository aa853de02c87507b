use Rattle.ballot_base.specs.Lists.{IsIncreasing}
use Rattle.thiele_search.proofs.counts.Counts.grown.Given as goal

abbrev pub invariant-loop-joined : goal.invariant-loop-joined
invariant-loop-joined g l = IsIncreasing 1 l.self.tally.election.m l.committee
