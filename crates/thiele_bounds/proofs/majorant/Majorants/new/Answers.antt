use Rattle.thiele_bounds.proofs.PairBounds.MajorantLemmas.{table-none}
use Rattle.thiele_bounds.proofs.majorant.Majorants.new.Goals as goal

pub invariant_of-result : goal.invariant_of-result
invariant_of-result c = (c.requires.some, c.requires.small, table-none c.args.sums.now c.args.left 128)
