use Rattle.std.proofs.Common.{arith, slice_index}
use Rattle.row_multipliers.proofs.NarrowedLemmas.{narrowed-members}
use Rattle.row_multipliers.proofs.multipliers.Constraint.narrowed.Goals as goal

pub returns : goal.returns
returns c value m least few is_node pays =
    let node = c.args.node.now in
    narrowed-members value m node.set node.free node.left least (slice_index c.args.self.now.worths) c.saturating_sub.result few is_node
    (λ committee whole reaches. omega (arith, c.saturating_sub.ensures, pays committee whole reaches))
    c.members_for.result c.members_for.ensures
