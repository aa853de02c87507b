use Rattle.std.proofs.Common.{◌≡◌, ◌+◌, ◌-◌, ◌≤◌, [], Some}
use Rattle.ballot_base.specs.CandSet.{members_upto}
use Rattle.tie_walk.specs.Ceilings.{live_below, live_count}
use Rattle.tie_walk.specs.Steps.Walks.{open_after, IsWalk, aim, aim_at}
use Rattle.tie_walk.proofs.walk.Walk.begin.Given as goal

-- what is live below the beginning of the start, and what is still to be entered after it, is all live, and with what
-- was entered it is all that is
abbrev pub invariant-loop-c : goal.invariant-loop-c
invariant-loop-c g l =
    let a = aim_at l.fn.tally (g.T.Tally.candidates l.fn.tally) l.fn.k l.fn.best in
    let bound = g.T.Tally.bound_of a.tally in
    record {
      walk : IsWalk g.T.Tally.candidates l.walk;
      same : aim l.walk ≡ a;
      entered : l.walk.entered ≡ l.c;
      ceilings : l.walk.ceilings ≡ l.c;
      all : live_count bound a.m a.k a.best (Some l.start)
          ≤ l.c + live_below bound a.m a.k a.best (Some l.start) (a.m - l.c) l.c (members_upto l.start l.c) + open_after bound a.m a.k a.best [] (members_upto l.start l.c);
      few : live_below bound a.m a.k a.best (Some l.start) (a.m - l.c) l.c (members_upto l.start l.c) + open_after bound a.m a.k a.best [] (members_upto l.start l.c)
          ≤ live_count bound a.m a.k a.best (Some l.start);
    }
