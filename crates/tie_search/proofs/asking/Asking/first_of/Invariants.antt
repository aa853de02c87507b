use Rattle.std.proofs.Common.{◌+◌, ◌≤◌, ◌∷◌, ◌++◌, [], length}
use Rattle.tie_search.specs.Steps.Branches.{AreListedWithin, IsOnTheWay, IsStep}
use Rattle.tie_search.proofs.asking.Asking.first_of.Given as goal

abbrev pub invariant-loop-branch : goal.invariant-loop-branch
invariant-loop-branch g l =
    let value = g.S.Tally.value_of l.oracle.search in
    let m = g.S.Tally.candidates l.oracle.search in
    record {
      listed : AreListedWithin value (g.S.WithClones.class_of l.oracle.search) m l.oracle.k l.list;
      way : IsOnTheWay value m l.oracle.k l.self l.branch;
      step : IsStep value m l.oracle.k (l.fn.self.branches.items ++ l.fn.branch ∷ []) l.fn.self.entered [] (l.self.branches.items ++ l.branch ∷ []) l.self.entered;
      rises : l.fn.self.asked ≤ l.self.asked;
      asked : l.self.asked + length l.branch.free ≤ l.fn.self.asked + length l.fn.branch.free;
    }

abbrev pub decreases-loop-branch : goal.decreases-loop-branch
decreases-loop-branch g l = length l.branch.free
