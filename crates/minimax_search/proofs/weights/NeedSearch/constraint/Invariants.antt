use Rattle.minimax_search.proofs.WeightedNeeds.{AreNeeds}
use Rattle.minimax_search.proofs.weights.NeedSearch.constraint.Given as goal

abbrev pub invariant-loop-place : goal.invariant-loop-place
invariant-loop-place g l = AreNeeds l.self.profile.now l.self.most l.fn.node l.place l.needs
