use Rattle.std.proofs.Common.{◌≡◌, ◌-◌}
use Rattle.tie_walk.specs.Values.{closeness}
use Rattle.row_multipliers.specs.Completions.{IsNode}
use Rattle.row_multipliers.specs.Steps.Narrowed.{IsNarrowed}
use Rattle.minimax_search.proofs.weights.NeedSearch.narrowed.Given as goal

-- those who are still free are all who can join
abbrev pub invariant-loop-round : goal.invariant-loop-round
invariant-loop-round g l = record {
  is_node : IsNode l.self.profile.now.m l.fn.node.set l.here.free;
  set : l.here.set ≡ l.fn.node.set;
  left : l.here.left ≡ l.fn.node.left;
  narrowed : IsNarrowed (closeness l.self.profile.now.m l.self.profile.now.rows) l.self.profile.now.m l.fn.node.set l.fn.node.free l.fn.node.left (l.self.profile.now.m - l.self.most) l.here.free;
}
