use Rattle.std.proofs.Common.{◌≡◌, ◌+◌, ◌≤◌}
use Rattle.tie_walk.specs.Ceilings.{IsExactAtBest}
use Rattle.tie_walk.specs.Steps.Walks.{committees_from, work_left, those_reaching, open_from, waits_from, IsWalk, aim, progress}
use Rattle.tie_walk.proofs.walk.Walk.next.Given as goal

-- what was passed so far has no winner, and each prefix entered and each bound asked for is counted
abbrev pub invariant-loop-self : goal.invariant-loop-self
invariant-loop-self g l =
    let a = aim l.fn.self in
    let value = g.T.Tally.value_of a.tally in
    let bound = g.T.Tally.bound_of a.tally in
    let from = progress l.fn.self in
    let here = progress l.self in
    record {
      walk : IsWalk g.T.Tally.candidates l.self;
      same : aim l.self ≡ a;
      rest : those_reaching value a.best (committees_from a.m a.k from.place) ≡ those_reaching value a.best (committees_from a.m a.k here.place);
      entered : from.entered ≤ here.entered;
      asked : from.ceilings ≤ here.ceilings;
      work : here.ceilings + work_left a.m here.place ≤ from.ceilings + work_left a.m from.place;
      wait : IsExactAtBest value bound a.m a.k a.best → here.ceilings + waits_from value a.m a.k a.best here.place ≤ from.ceilings + waits_from value a.m a.k a.best from.place;
      count : here.entered + open_from bound a.m a.k a.best here.place ≡ from.entered + open_from bound a.m a.k a.best from.place;
    }

abbrev pub decreases-loop-self : goal.decreases-loop-self
decreases-loop-self g l = work_left l.self.m l.self.place
