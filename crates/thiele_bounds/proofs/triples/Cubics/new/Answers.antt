use Rattle.std.proofs.Common.{length}
use Rattle.thiele_bounds.proofs.PairBounds.MajorantLemmas.{cubics-none}
use Rattle.thiele_bounds.proofs.triples.Cubics.new.Goals as goal

pub invariant_of-result : goal.invariant_of-result
invariant_of-result c =
    (c.requires.some, c.requires.small, cubics-none (record { sums = c.args.sums.now; shift = c.args.shift; left = c.args.node.now.left; free = length c.args.node.now.free }) 128)
