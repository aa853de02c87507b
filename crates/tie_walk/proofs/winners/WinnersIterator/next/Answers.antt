use Rattle.std.proofs.lemmas.Grind.{common_steps}
use Rattle.std.proofs.Common.{ap, subst, arith}
use Rattle.tie_walk.specs.Ceilings.{IsExactAtBest}
use Rattle.tie_walk.specs.Steps.Walks.{Aim, progress}
use Rattle.tie_walk.specs.Winners.{Winning}
use Rattle.tie_walk.proofs.WaitLemmas.{wait-few}
use Rattle.tie_walk.proofs.winners.WinnersIterator.next.Goals as goal

pub returns-clause-steps : goal.returns-clause-steps
returns-clause-steps g c =
    let old = c.self.inside.walk in
    let new = c.next.new.self in
    let stride = c.next.ensures.stride in
    let walk = c.self.invariant.walk_is in
    let exact_at = λ (x : Aim g.row.T.Denot). IsExactAtBest (g.T.Tally.value_of x.tally) (g.T.Tally.bound_of x.tally) x.m x.k x.best in
    record {
      first = grind (arith, common_steps);
      same_tally = grind (arith, common_steps);
      same_m = grind (arith, common_steps);
      same_k = grind (arith, common_steps);
      same_best = grind (arith, common_steps);
      same_start = grind (arith, common_steps);
      all_entered = λ end. grind (arith, common_steps);
      none_else = λ end none. grind (arith, common_steps);
      entered_rises = grind (arith, common_steps);
      ceilings_rise = grind (arith, common_steps);
      short_wait = λ exact.
          let wait = stride.wait (subst exact_at stride.same exact) in
          let few = wait-few (g.T.Tally.value_of old.tally.now) old.m old.k old.best old.place (progress old) (progress new) c.next.result (omega (arith, walk.some, walk.fits)) walk.place_is wait in
          omega (arith, few, ap (λ (x : Aim g.row.T.Denot). x.m) stride.same, ap (λ (x : Winning g.row.T.Denot). x.ceilings) c.self.view_is);
    }
