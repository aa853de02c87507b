use Rattle.std.proofs.Common.{◌≡◌, ◌-◌, length}
use Rattle.ballot_base.specs.Lists.{IsIncreasing}
use Rattle.tie_search.proofs.oracle.best_committee.Given as goal

abbrev pub invariant-loop-value : goal.invariant-loop-value
invariant-loop-value g l = record {
  candidates : IsIncreasing 1 (g.S.Tally.candidates l.search) l.best;
  size : length l.best ≡ l.k;
  value : l.value ≡ g.S.Tally.value_of l.search l.best;
}

abbrev pub decreases-loop-value : goal.decreases-loop-value
decreases-loop-value g l = l.most - l.value
