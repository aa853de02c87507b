use Rattle.std.proofs.Common.{◌+◌, ◌*◌, ◌/◌, ◌≤◌, arith}
use Rattle.std.proofs.Math.Nat.{mul-le-mul}
use Rattle.thiele_bounds.specs.Steps.Paired.{most_sum}
use Rattle.thiele_bounds.proofs.PairBounds.CubicLemmas.{bend-small, fall-small, increment-small}
use Rattle.thiele_bounds.proofs.triples.Cubic.of.Goals as goal

pub overflow_add-worth-3 : goal.overflow_add-worth-3
overflow_add-worth-3 c =
    let sums = c.args.sums.now in
    let at : c.contact_at-at.result ≤ 61 = omega (arith, c.contact_at-at.ensures) in
    let step : c.increment_of.result ≤ most_sum sums = omega (arith, c.increment_of.ensures, increment-small sums c.requires.small c.contact_at-at.result (omega (arith, at))) in
    let fall : c.fall_of-fall.result ≤ most_sum sums = omega (arith, c.fall_of-fall.ensures, fall-small sums c.requires.small c.contact_at-at.result (omega (arith, at))) in
    let bend : c.bend_of-bend.result ≤ most_sum sums = omega (arith, c.bend_of-bend.ensures, bend-small sums c.requires.small c.contact_at-at.result (omega (arith, at))) in
    let few : c.from-touch.result ≤ 61 = omega (arith, c.from-touch.ensures, c.requires.touch) in
    let square : c.from-touch.result * (c.from-touch.result + 1) ≤ 61 * 62 = mul-le-mul few (let next : c.from-touch.result + 1 ≤ 62 = omega (arith, few) in next) in
    let falls : c.from-touch.result * c.fall_of-fall.result ≤ 61 * most_sum sums = mul-le-mul few fall in
    let bends : c.from-touch.result * (c.from-touch.result + 1) / 2 * c.bend_of-bend.result ≤ 1891 * most_sum sums = mul-le-mul (let half : c.from-touch.result * (c.from-touch.result + 1) / 2 ≤ 1891 = omega (arith, square) in half) bend in
    omega (arith, step, falls, bends, c.requires.small.all_small)
