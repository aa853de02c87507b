use Rattle.sequential_winners.specs.Steps.Levels.{AreReached}
use Rattle.sequential_winners.proofs.levels.Levels.go_on.Given as goal

-- it is a level of these choices
abbrev pub invariant-loop-choice : goal.invariant-loop-choice
invariant-loop-choice g l = AreReached l.self.choices.rule l.self.choices.profile.now l.total l.level.size l.level.sets.items
