use Rattle.thiele_bounds.specs.Steps.Threes.{IsBound}
use Rattle.thiele_bounds.proofs.rough.Rough.bound.Given as goal

-- what was tried gives bounds
abbrev pub invariant-loop-turn : goal.invariant-loop-turn
invariant-loop-turn l = record {
  tried : IsBound l.fn.self l.fn.candidates l.fn.count l.last.sum;
  found : IsBound l.fn.self l.fn.candidates l.fn.count l.least.sum;
}
