use Rattle.std.proofs.lemmas.Grind.{common_steps}
use Rattle.std.proofs.Common.{◌≡◌, ℕ, ◌+◌, ◌<◌, ◌++◌, List, Option, ap, subst, arith, ◌∙◌}
use Rattle.std.specs.Prelude.{option_to_list}
use Rattle.ballot_base.specs.Lists.{IsIncreasing, increasing_lists}
use Rattle.tie_walk.specs.Steps.Walks.{committees_from, those_reaching, IsPlace, Aim, Progress, aim, aim_at}
use Rattle.tie_walk.specs.declared.walk.Prefix.{Prefix}
use Rattle.tie_walk.specs.Winners.{best_value}
use Rattle.tie_walk.proofs.BestLemmas.{greatest-good, greatest-found, best-reached}
use Rattle.tie_walk.proofs.WinnersLemmas.{greatest, greatest-begun, greatest-done}
use Rattle.tie_walk.proofs.best.greatest_value.Goals as goal
use Rattle.tie_walk.proofs.best.greatest_value.Goals.{After-next, After-raise, In-Some}

-- what the walk looks for once its best is raised
raised : (g : _) (c : After-raise g) → (aim c.raise.new.self ≡ aim_at c.args.tally.now (g.T.Tally.candidates c.args.tally.now) c.args.k (c.loop-best.best + 1)) × (c.raise.new.self.place ≡ c.loop-best.walk.place)
raised g c = (
  c.raise.ensures.aim ∙ ap (λ (x : Aim g.row.T.Denot). aim_at x.tally x.m x.k (c.loop-best.best + 1)) c.loop-best.invariant.same,
  ap (λ (p : Progress). p.place) c.raise.ensures.progress,
)

-- what the walk passes
passed : (g : _) (c : After-next g) → those_reaching (g.T.Tally.value_of c.args.tally.now) (c.loop-best.best + 1) (committees_from (g.T.Tally.candidates c.args.tally.now) c.args.k c.loop-best.walk.place)
    ≡ option_to_list c.next.result ++ those_reaching (g.T.Tally.value_of c.args.tally.now) (c.loop-best.best + 1) (committees_from (g.T.Tally.candidates c.args.tally.now) c.args.k c.next.new.self.place)
passed g c =
    let over = λ (place : Option Prefix) (x : Aim g.row.T.Denot). those_reaching (g.T.Tally.value_of x.tally) x.best (committees_from x.m x.k place) in
    let sought : Aim g.row.T.Denot = aim_at c.args.tally.now (g.T.Tally.candidates c.args.tally.now) c.args.k (c.loop-best.best + 1) in
    let is = raised g (goal.at.After-next g c).After-raise in
    let next = subst (λ (x : Aim g.row.T.Denot). over c.raise.new.self.place x ≡ option_to_list c.next.result ++ over c.next.new.self.place x) is.0 c.next.ensures.stride.next in
    subst (λ (place : Option Prefix). over place sought ≡ option_to_list c.next.result ++ over c.next.new.self.place sought) is.1 next

-- one more committee above the greatest value so far
found : (g : _) (c : In-Some g) → IsIncreasing 1 (g.T.Tally.candidates c.args.tally.now) c.in-Some.committee × (c.loop-best.best < g.T.Tally.value_of c.args.tally.now c.in-Some.committee)
    × (greatest (g.T.Tally.value_of c.args.tally.now) (g.T.Tally.value_of c.args.tally.now c.in-Some.committee) (committees_from (g.T.Tally.candidates c.args.tally.now) c.args.k c.next.new.self.place)
    ≡ best_value (g.T.Tally.value_of c.args.tally.now) (g.T.Tally.candidates c.args.tally.now) c.args.k)
found g c =
    let m = g.T.Tally.candidates c.args.tally.now in
    let k = c.args.k in
    let value = g.T.Tally.value_of c.args.tally.now in
    let floor = c.loop-best.best in
    let from = c.loop-best.walk.place in
    let rest = c.next.new.self.place in
    let next = subst (λ (o : Option (List ℕ)). those_reaching value (floor + 1) (committees_from m k from) ≡ option_to_list o ++ those_reaching value (floor + 1) (committees_from m k rest)) c.in-Some.is (passed g c.before) in
    let here = subst (λ (x : Aim g.row.T.Denot). IsPlace x.m x.k from) c.loop-best.invariant.same c.loop-best.invariant.walk.place_is in
    greatest-found value m k (best_value value m k) floor from rest c.in-Some.committee here next c.loop-best.invariant.best

pub loop-best-init : goal.loop-best-init
loop-best-init g c =
    let m = g.T.Tally.candidates c.args.tally.now in
    let value = g.T.Tally.value_of c.args.tally.now in
    let begun = c.begin-walk.ensures.begun in
    let start = greatest-begun value c.value-best.result (committees_from m c.args.k c.begin-walk.result.place) (increasing_lists 1 m c.args.k) begun.next in
    grind (arith, common_steps, start, greatest-good)

pub value-best-requires-in-loop-best : goal.value-best-requires-in-loop-best
value-best-requires-in-loop-best g c = (found g (goal.at.value-best-requires-in-loop-best g c).In-Some).0

pub loop-best-smaller : goal.loop-best-smaller
loop-best-smaller g c = omega (arith, (found g (goal.at.loop-best-smaller g c).In-Some).1, c.value-best-in-loop-best.ensures, c.loop-best-test.true)

pub loop-best-preserved : goal.loop-best-preserved
loop-best-preserved g c =
    let best = found g (goal.at.loop-best-preserved g c).In-Some in
    grind (arith, common_steps, best)

pub returns-after-loop-best : goal.returns-after-loop-best
returns-after-loop-best g c = grind (arith, common_steps, best-reached)

pub returns-in_default : goal.returns-in_default
returns-in_default g c =
    let next = passed g (goal.at.returns-in_default g c).After-next in
    grind (arith, common_steps, next, greatest-done)
