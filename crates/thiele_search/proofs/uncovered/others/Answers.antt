use Rattle.std.proofs.Common.{◌∙◌, ap, min, w64}
use Rattle.std.specs.Int.{bit_at, bit_not}
use Rattle.std.proofs.lemmas.Nat.Bits.{bit_at_and, bit_at_not}
use Rattle.thiele_search.proofs.uncovered.others.Goals as goal

pub returns : goal.returns
returns c i within =
    bit_at_and c.args.voters (bit_not w64 c.args.column) i ∙ ap (λ n. min (bit_at c.args.voters i) n) (bit_at_not w64 c.args.column i c.ranges.column.fits within)
