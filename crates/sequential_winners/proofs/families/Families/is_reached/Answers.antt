use Rattle.std.proofs.Common.{◌≡◌, ◌∙◌, ℕ, List, [], Contains, refl, ap, arith, length}
use Rattle.tie_walk.specs.Steps.Choices.{step_of, start}
use Rattle.sequential_winners.proofs.QuestionLemmas.{start-up, start-few, reached-is}
use Rattle.sequential_winners.proofs.families.Families.is_reached.Goals as goal
use Rattle.sequential_winners.proofs.families.Families.is_reached.Goals.{After-start-start, in-Some, in_default}

none-in : (keys : List (List ℕ)) (x : List ℕ) → keys ≡ [] → Contains keys x → ⊥
none-in keys x none inside = omega (arith, inside.1, ap length none)

start-is : (g : _) (c : After-start-start g) → c.start-start.result ≡ start (step_of c.self.inside.levels.choices.rule) c.self.inside.levels.choices.profile.now.m
start-is g c = c.start-start.ensures ∙ ap (start c.step.result) c.m.ensures.value ∙ ap (λ s. start s c.self.inside.levels.choices.profile.now.m) c.step.ensures

pub leads-is_reached-requires-clause-from : goal.leads-is_reached-requires-clause-from
leads-is_reached-requires-clause-from g c =
    let f = c.self.inside in
    start-up f.levels.choices.rule f.levels.choices.rule f.levels.choices.profile.now f.levels.choices.profile.now c.start-start.result refl refl (start-is g (goal.at.leads-is_reached-requires-clause-from g c).After-start-start)

pub leads-is_reached-requires-clause-few : goal.leads-is_reached-requires-clause-few
leads-is_reached-requires-clause-few g c =
    let f = c.self.inside in
    start-few f.levels.choices.rule f.levels.choices.rule f.levels.choices.profile.now f.levels.choices.profile.now c.start-start.result refl refl (start-is g (goal.at.leads-is_reached-requires-clause-few g c).After-start-start) f.k

pub leads-is_reached-requires-clause-dead : goal.leads-is_reached-requires-clause-dead
leads-is_reached-requires-clause-dead g c = elim c.match-dead.branch [
  | in-Some w ↦ rw w.dead-is (λ from inside. absurd (none-in w.forget.new.sets.keys from w.forget.ensures inside))
  | in_default w ↦ rw (w.dead-is, w.in_default.is) tt
]

pub returns : goal.returns
returns g c =
    let f = c.self.inside in
    reached-is f.levels.choices.rule f.levels.choices.rule f.levels.choices.profile.now f.levels.choices.profile.now c.start-start.result refl refl (start-is g (goal.at.returns g c).After-start-start) f.k c.self.invariant.0.fits
    c.m.ensures.valid.ballots c.m.ensures.valid.counts c.args.self.now c.self.view_is c.args.c c.args.set c.requires.within c.requires.set c.requires.size c.leads-is_reached.result c.leads-is_reached.ensures.live c.leads-is_reached.ensures.none
