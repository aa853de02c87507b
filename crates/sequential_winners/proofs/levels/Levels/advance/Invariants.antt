use Rattle.std.proofs.Common.{take}
use Rattle.std.specs.List.{flat_map}
use Rattle.tie_walk.specs.Sequences.{hit_weights}
use Rattle.tie_walk.specs.Steps.Choices.{step_of, HasSetsOf}
use Rattle.sequential_winners.specs.Steps.Levels.{family_changes}
use Rattle.sequential_winners.proofs.levels.Levels.advance.Given as goal

-- the families that follow the sets so far
abbrev pub invariant-loop-set : goal.invariant-loop-set
invariant-loop-set g l =
    let e = l.self.choices.profile.now in
    let rule = l.self.choices.rule in
    HasSetsOf (flat_map (family_changes (step_of rule) (hit_weights rule e.m) e.m e.rows l.total l.fn.level.size) (take l.set-index l.set-items)) l.found.keys
