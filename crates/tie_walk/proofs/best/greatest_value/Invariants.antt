use Rattle.std.proofs.Common.{◌≡◌, ◌+◌, ◌-◌, ◌^◌, ◌<◌}
use Rattle.tie_walk.specs.Steps.Walks.{committees_from, work_left, IsWalk, aim, aim_at}
use Rattle.tie_walk.specs.Winners.{best_value}
use Rattle.tie_walk.proofs.WinnersLemmas.{greatest}
use Rattle.tie_walk.proofs.best.greatest_value.Given as goal

-- the greatest so far, with what is left, is the best
abbrev pub invariant-loop-best : goal.invariant-loop-best
invariant-loop-best g l =
    let m = g.T.Tally.candidates l.tally in
    let value = g.T.Tally.value_of l.tally in
    record {
      walk : IsWalk g.T.Tally.candidates l.walk;
      same : aim l.walk ≡ aim_at l.tally m l.k l.walk.best;
      fits : l.walk.ceilings + work_left m l.walk.place < 2 ^ 127;
      best : greatest value l.best (committees_from m l.k l.walk.place) ≡ best_value value m l.k;
    }

abbrev pub decreases-loop-best : goal.decreases-loop-best
decreases-loop-best g l = l.bound - l.best
