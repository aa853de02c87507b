use Rattle.std.proofs.Common.{◌≡◌, ◌++◌, Some, length}
use Rattle.tie_search.specs.Steps.Branches.{branches_after, first_branches}
use Rattle.tie_search.proofs.asking.first_branches.Given as goal

abbrev pub invariant-loop-member : goal.invariant-loop-member
invariant-loop-member l = record {
  made : l.branches.items ++ branches_after l.m l.k l.set l.member-iterator ≡ first_branches l.m l.k l.fn.after;
  start : Some (l.set ++ l.member-iterator) ≡ l.fn.after;
  size : length l.branches.items ≡ length l.set;
}
