use Rattle.std.proofs.Common.{arith, slice_index}
use Rattle.tie_walk.specs.Values.{closeness}
use Rattle.row_multipliers.proofs.NarrowedLemmas.{narrowed-members}
use Rattle.minimax_search.proofs.WeightedNeeds.{paid-fewer}
use Rattle.minimax_search.proofs.search.MinimaxSearchNarrowing.narrowed.Goals as goal

pub returns : goal.returns
returns g c =
    let e = c.args.self.now in
    let V = closeness e.m e.rows in
    let node = c.args.node.now in
    let plan = c.args.plan.now in
    let known = c.requires.plan.is_plan in
    narrowed-members V e.m node.set node.free node.left c.args.least (slice_index plan.worths) plan.due known.valid.most c.requires.is_node
    (λ committee whole reaches. paid-fewer V e.m node.set plan.eligible node.free node.left plan.least plan.due (slice_index plan.worths) known.is_node c.requires.is_node c.requires.plan.among known.pays committee whole
    (omega (arith, c.requires.least, reaches)))
    c.members_for.result c.members_for.ensures
