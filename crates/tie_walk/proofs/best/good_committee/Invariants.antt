use Rattle.std.proofs.Common.{◌≡◌, length}
use Rattle.ballot_base.specs.Lists.{IsIncreasing}
use Rattle.tie_walk.proofs.best.good_committee.Given as goal

-- so many candidates so far
abbrev pub invariant-loop-size : goal.invariant-loop-size
invariant-loop-size g l = IsIncreasing 1 (g.T.Tally.candidates l.tally) l.set × (length l.set ≡ l._size)
