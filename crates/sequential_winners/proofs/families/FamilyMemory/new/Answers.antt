use Rattle.std.proofs.Common.{◌≡◌, ◌∷◌, [], ◌∙◌, ap}
use Rattle.tie_walk.specs.Sequences.{hit_weights}
use Rattle.tie_walk.specs.Steps.Choices.{step_of, start}
use Rattle.sequential_winners.proofs.LevelLemmas.{level-first}
use Rattle.sequential_winners.proofs.WinnerLemmas.{hit_weights-fall, hit_weights-count}
use Rattle.sequential_winners.proofs.families.FamilyMemory.new.Goals as goal

pub go_on-requires-clause-level : goal.go_on-requires-clause-level
go_on-requires-clause-level g c =
    let e = c.args.profile.now in
    let rule = c.args.rule in
    let level = c.in_ok-level.level in
    let made : c.start.result ≡ start (step_of rule) e.m = c.start.ensures ∙ ap (start c.step.result) c.m-2.ensures.value ∙ ap (λ s. start s e.m) c.step.ensures in
    rw (c.new-levels.ensures.rule, c.new-levels.ensures.profile, c.in_ok-level.ensures.0) (
    level-first (step_of rule) (hit_weights rule e.m) e.m e.rows c.m.ensures.valid.ballots (hit_weights-fall rule e.m) c.m.ensures.valid.counts (hit_weights-count rule e.m) c.choices-total.result level.sets.items
    (c.in_ok-level.ensures.1 ∙ ap (λ s. s ∷ []) made))
