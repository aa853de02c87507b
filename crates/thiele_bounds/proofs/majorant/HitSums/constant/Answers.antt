use Rattle.std.proofs.Common.{◌≡◌, ℕ, ◌+◌, ◌*◌, ◌≤◌, List, ap, arith, inl, inr, get_or}
use Rattle.std.proofs.lemmas.Bool.{cases_lt}
use Rattle.thiele_bounds.proofs.PairBounds.SumLemmas.{later}
use Rattle.thiele_bounds.proofs.majorant.HitSums.constant.Goals as goal
use Rattle.thiele_bounds.proofs.majorant.HitSums.constant.Goals.{then-loop-hits-test+then-increment-multiplier, else-loop-hits-test}

-- what is subtracted is no more than the sum
less : (sums : List ℕ) (before hits at taken multiplier : ℕ) → at ≡ before + hits → taken ≡ hits
    → ((h : ℕ) → h ≤ hits → get_or sums (before + h) 0 + multiplier * hits ≤ get_or sums (before + hits) 0 + multiplier * h)
    → multiplier * taken ≤ get_or sums at 0
less sums before hits at taken multiplier place same highest =
    let first = highest 0 (omega arith) in
    omega (arith, first, ap (λ m. get_or sums m 0) place, ap (λ m. multiplier * m) same)

pub overflow_sub-constant : goal.overflow_sub-constant
overflow_sub-constant c = less c.args.self.now.sums c.args.before c.loop-hits.hits c.from.result c.from-2.result c.args.multiplier c.from.ensures c.from-2.ensures c.loop-hits.invariant.highest

pub returns-clause-bounds : goal.returns-clause-bounds
returns-clause-bounds c h few =
    let sums = c.args.self.now.sums in
    let before = c.args.before in
    let hits = c.loop-hits.hits in
    let multiplier = c.args.multiplier in
    let highest = c.loop-hits.invariant.highest in
    let bound : get_or sums (before + h) 0 + multiplier * hits ≤ get_or sums (before + hits) 0 + multiplier * h =
    elim c.loop-hits-test.branch [
      | then-loop-hits-test+then-increment-multiplier t ↦ elim (cases_lt h hits) [
        | inl low ↦ highest h (omega (arith, low))
        | inr high ↦
            let inside : before + hits + 1 ≤ 64 = omega (arith, t.loop-hits-test.true, c.requires.fits) in
            let first : get_or sums (before + hits + 1) 0 ≤ get_or sums (before + hits) 0 + multiplier =
            omega (arith, t.increment-increment.ensures.rise inside, t.if-increment-multiplier.true) in
            later sums before hits h multiplier c.args.self.now.concave first (omega (arith, high)) (omega (arith, few, c.requires.fits))
      ]
      | else-loop-hits-test t ↦ highest h (omega (arith, few, t.loop-hits-test.false))
    ] in
    omega (
      arith,
      bound,
      less sums before hits c.from.result c.from-2.result multiplier c.from.ensures c.from-2.ensures highest,
      ap (λ m. get_or sums m 0) c.from.ensures,
      ap (λ m. multiplier * m) c.from-2.ensures,
    )
