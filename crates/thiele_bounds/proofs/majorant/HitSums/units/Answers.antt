use Rattle.std.proofs.Common.{◌≡◌, ℕ, ◌*◌, ◌≤◌, arith}
use Rattle.thiele_bounds.proofs.PriceBounds.{ceil-low}
use Rattle.thiele_bounds.proofs.majorant.HitSums.units.Goals as goal

pub returns : goal.returns
returns c units reaches =
    let turned : (a b : ℕ) → a * b ≡ b * a = λ a b. omega arith in
    let low : c.saturating_mul.result ≤ c.args.self.now.unit * units =
    omega (arith, c.saturating_mul.ensures, turned c.args.value c.args.self.now.scale, reaches) in
    omega (arith, c.div_ceil.ensures, ceil-low c.saturating_mul.result c.args.self.now.unit units c.args.self.now.some low)
