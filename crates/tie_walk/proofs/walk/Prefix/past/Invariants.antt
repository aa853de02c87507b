use Rattle.std.proofs.Common.{◌≤◌}
use Rattle.ballot_base.specs.Lists.{IsIncreasing}
use Rattle.tie_walk.proofs.walk.Prefix.past.Given as goal

-- no candidate after c is a member
abbrev pub invariant-loop-c : goal.invariant-loop-c
invariant-loop-c l = record {
  low : l.c ≤ l.self.c;
  members : IsIncreasing 1 l.c l.self.set;
}

abbrev pub decreases-loop-c : goal.decreases-loop-c
decreases-loop-c l = l.c
