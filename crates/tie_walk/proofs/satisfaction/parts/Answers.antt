use Rattle.std.proofs.Common.{arith}
use Rattle.tie_walk.proofs.TableLemmas.{parts-made}
use Rattle.tie_walk.proofs.satisfaction.parts.Goals as goal

pub returns : goal.returns
returns c = parts-made c.args.whole c.loop-n.parts c.loop-n.invariant.long c.loop-n.invariant.first (λ n low high. c.loop-n.invariant.made n low (omega arith))
