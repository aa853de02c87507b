use Rattle.std.proofs.Common.{◌*◌, ap, arith}
use Rattle.thiele_bounds.proofs.rough.Rough.tried.Goals as goal

pub returns : goal.returns
returns c = (c.args.threshold, omega (arith, ap (λ n. n * c.args.threshold) c.from.ensures, c.excess-excess.ensures.more c.args.candidates c.requires.candidates))
