use Rattle.std.proofs.Common.{◌+◌, ◌≤◌, [], length}
use Rattle.tie_search.specs.Steps.Branches.{AreListedWithin, IsAsking, IsStep}
use Rattle.tie_search.proofs.asking.Asking.next.Given as goal

abbrev pub invariant-loop-branch : goal.invariant-loop-branch
invariant-loop-branch g l =
    let value = g.S.Tally.value_of l.oracle.search in
    let m = g.S.Tally.candidates l.oracle.search in
    let was = l.fn.self in
    record {
      listed : AreListedWithin value (g.S.WithClones.class_of l.oracle.search) m l.oracle.k l.list;
      asking : IsAsking value m l.oracle.k l.self;
      step : IsStep value m l.oracle.k was.branches.items was.entered [] l.self.branches.items l.self.entered;
      rises : was.asked ≤ l.self.asked;
      asked : l.self.asked + length l.self.branches.items ≤ was.asked + length was.branches.items;
    }

abbrev pub decreases-loop-branch : goal.decreases-loop-branch
decreases-loop-branch g l = length l.self.branches.items
