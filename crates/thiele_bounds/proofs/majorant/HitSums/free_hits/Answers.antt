use Rattle.std.proofs.Common.{◌+◌, ap, arith, get_or}
use Rattle.thiele_bounds.proofs.PairBounds.SumLemmas.{never-less}
use Rattle.thiele_bounds.proofs.majorant.HitSums.free_hits.Goals as goal

pub returns-clause-bounds : goal.returns-clause-bounds
returns-clause-bounds c h few =
    let sums = c.args.self.now.sums in
    omega (
      arith,
      never-less sums (c.args.before + h) (c.args.before + c.args.most) c.args.self.now.rises (omega (arith, few)) c.requires.fits,
      ap (λ m. get_or sums m 0) c.from.ensures,
    )
