use Rattle.std.proofs.Common.{◌≡◌, take, length}
use Rattle.tie_walk.specs.Sequences.{hit_weights}
use Rattle.tie_walk.specs.Steps.Choices.{step_of}
use Rattle.sequential_winners.specs.Steps.Levels.{given}
use Rattle.sequential_winners.proofs.levels.Levels.given.Given as goal

-- what the voters of the rows so far give
abbrev pub invariant-loop-ballot : goal.invariant-loop-ballot
invariant-loop-ballot g l =
    let s = l.self.choices in
    l.given ≡ given (step_of s.rule) (hit_weights s.rule s.profile.now.m) (take (length l.yielded) s.profile.now.rows) l.set l.candidates
