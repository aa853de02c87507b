use Rattle.tie_walk.proofs.BestLemmas.{IsGrowing}
use Rattle.tie_walk.proofs.best.with_best.Given as goal

-- the best so far
abbrev pub invariant-loop-n : goal.invariant-loop-n
invariant-loop-n g l = IsGrowing (g.T.Tally.candidates l.tally) l.set l.best l.grown l.n-iterator
