use Rattle.ballot_base.specs.Limits.{most_candidates}
use Rattle.ballot_base.specs.Lists.{IsIncreasing}
use Rattle.thiele_search.proofs.counts.Counts.exchanged.Given as goal

abbrev pub invariant-loop-pass : goal.invariant-loop-pass
invariant-loop-pass g l = IsIncreasing 1 l.self.tally.election.m l.best

abbrev pub invariant-loop-member : goal.invariant-loop-member
invariant-loop-member g l = record {
  members : IsIncreasing 1 most_candidates l.member-iterator;
  candidates : IsIncreasing 1 l.self.tally.election.m l.best;
}
