use Rattle.std.proofs.Common.{◌≡◌, map, take}
use Rattle.sequential_winners.specs.Steps.Levels.{other_end_by}
use Rattle.sequential_winners.proofs.families.Stored.of.Given as goal

-- the other ends of the families so far
abbrev pub invariant-loop-set : goal.invariant-loop-set
invariant-loop-set g l = l.ends.items ≡ map (other_end_by l.levels.choices.rule l.levels.choices.profile.now l.k) (take l.set-index l.set-items)
