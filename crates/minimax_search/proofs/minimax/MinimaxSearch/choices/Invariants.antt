use Rattle.std.proofs.Common.{◌-◌}
use Rattle.tie_walk.specs.Values.{closeness}
use Rattle.row_multipliers.specs.Steps.Narrowed.{IsNarrowed}
use Rattle.tie_search.specs.Steps.Descent.{AreChoices}
use Rattle.minimax_search.proofs.minimax.MinimaxSearch.choices.Given as goal

-- who can still join, and of whom one must
abbrev pub invariant-loop-visit : goal.invariant-loop-visit
invariant-loop-visit g l = record {
  narrowed : IsNarrowed (closeness l.self.m l.self.rows) l.self.m l.fn.node.set l.fn.node.free l.fn.node.left (l.self.m - l.most) l.rest;
  choice : AreChoices (closeness l.self.m l.self.rows) l.self.m l.fn.node.set l.fn.node.free l.fn.node.left (l.self.m - l.most) l.tightest.choices;
}
