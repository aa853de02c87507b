use Rattle.std.proofs.Common.{◌≡◌}
use Rattle.row_multipliers.specs.Completions.{IsNode}
use Rattle.row_multipliers.specs.Steps.Narrowed.{IsNarrowed}
use Rattle.row_multipliers.proofs.multipliers.narrowed.Given as goal

-- those who are still free are all who can join
abbrev pub invariant-loop-round : goal.invariant-loop-round
invariant-loop-round g l = record {
  is_node : IsNode (g.B.RowBound.candidates l.fn.bound) l.fn.node.set l.here.free;
  set : l.here.set ≡ l.fn.node.set;
  left : l.here.left ≡ l.fn.node.left;
  narrowed : IsNarrowed (g.B.RowBound.value_of l.fn.bound) (g.B.RowBound.candidates l.fn.bound) l.fn.node.set l.fn.node.free l.fn.node.left (g.B.RowBound.least l.fn.bound) l.here.free;
}
