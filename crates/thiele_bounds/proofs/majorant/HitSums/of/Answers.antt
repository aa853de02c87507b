use Rattle.std.proofs.Common.{◌≡◌, ℕ, ◌+◌, ◌-◌, ◌*◌, ◌^◌, ◌≤◌, ◌∙◌, List, refl, sym, ap, arith, length, sum, get_or}
use Rattle.std.specs.Int.{div_ceil}
use Rattle.std.proofs.Math.Nat.{div-le_self, mul-le-mul, mul-le-mul_right}
use Rattle.std.proofs.lemmas.List.{get_or_past, get_or-set_same}
use Rattle.ballot_base.specs.Increments.{increments}
use Rattle.ballot_base.specs.Limits.{most_members, most_increments}
use Rattle.ballot_base.specs.declared.increments.ThieleRule.{ThieleRule}
use Rattle.ballot_base.proofs.WeightLemmas.{increments-length}
use Rattle.tie_walk.proofs.TableLemmas.{increments_sum-most, sum-take-le, sum-take_more}
use Rattle.thiele_bounds.proofs.PriceBounds.{ceil-high, ceil-low}
use Rattle.thiele_bounds.proofs.PairBounds.SumLemmas.{made-none, made-more}
use Rattle.thiele_bounds.proofs.majorant.HitSums.of.Goals as goal
use Rattle.thiele_bounds.proofs.majorant.HitSums.of.Goals.{then-hits-lt40, else-hits-lt40}

pub loop-hits-init : goal.loop-hits-init
loop-hits-init c = record {
  made = made-none c.of.result.w c.max-scale.result c.max-unit.result (64 * c.args.units) (2 ^ 128 - 1);
  given_is = refl;
}

-- a weight, times the scale, fits
scaled-small : (weights : List ℕ) (scale hits : ℕ) → sum weights ≤ most_increments → scale ≤ 2 ^ 40 → get_or weights hits 0 * scale ≤ 2 ^ 124
scaled-small weights scale hits most fine =
    let low : get_or weights hits 0 ≤ most_increments = omega (arith, most, sum-take_more weights hits, sum-take-le weights (hits + 1)) in
    let all : get_or weights hits 0 * scale ≤ most_increments * 2 ^ 40 = mul-le-mul low fine in
    omega (arith, all)

-- what a hit adds is no more
ceil-less : (a unit : ℕ) → 1 ≤ unit → div_ceil a unit ≤ a
ceil-less a unit some =
    let low : 1 * a ≤ unit * a = mul-le-mul_right a some in
    ceil-low a unit a some (omega (arith, low))

weights-small : (rule : ThieleRule) (k : ℕ) (weights : List ℕ) → k ≤ most_members → weights ≡ increments rule k → sum weights ≤ most_increments
weights-small rule k weights size same = omega (arith, ap sum same, increments_sum-most rule k size)

pub overflow_mul-weights : goal.overflow_mul-weights
overflow_mul-weights c =
    let fine : c.max-scale.result ≤ 2 ^ 40 = omega (arith, c.max-scale.ensures, div-le_self c.args.units c.max.result, c.requires.few) in
    omega (arith, scaled-small c.of.result.w c.max-scale.result c.loop-hits.hits (weights-small c.args.rule c.args.k c.of.result.w c.requires.size c.of.ensures.weights) fine)

pub overflow_add-given : goal.overflow_add-given
overflow_add-given c =
    let fine : c.max-scale.result ≤ 2 ^ 40 = omega (arith, c.max-scale.ensures, div-le_self c.args.units c.max.result, c.requires.few) in
    let scaled = get_or c.of.result.w c.loop-hits.hits 0 * c.max-scale.result in
    let small : scaled ≤ 2 ^ 124 = scaled-small c.of.result.w c.max-scale.result c.loop-hits.hits (weights-small c.args.rule c.args.k c.of.result.w c.requires.size c.of.ensures.weights) fine in
    let increment : c.if-hits-lt40.increment ≤ 2 ^ 124 = elim c.if-hits-lt40.branch [
      | then-hits-lt40 t ↦ omega (arith, t.increment-is, t.div_ceil-increment.ensures, ceil-less scaled c.max-unit.result (omega (arith, c.max-unit.ensures)), small)
      | else-hits-lt40 t ↦ omega (arith, t.increment-is)
    ] in
    omega (arith, increment, c.loop-hits.invariant.given_is, c.loop-hits.invariant.made.small c.loop-hits.hits, c.requires.few)

pub loop-hits-preserved : goal.loop-hits-preserved
loop-hits-preserved c =
    let inv = c.loop-hits.invariant in
    let hits = c.loop-hits.hits in
    let weights = c.of.result.w in
    let scaled = get_or weights hits 0 * c.max-scale.result in
    let some : 1 ≤ c.max-unit.result = omega (arith, c.max-unit.ensures) in
    let turned : c.max-scale.result * get_or weights hits 0 ≡ scaled = omega arith in
    let up : c.max-scale.result * get_or weights hits 0 ≤ c.max-unit.result * c.if-hits-lt40.increment = elim c.if-hits-lt40.branch [
      | then-hits-lt40 t ↦ omega (arith, turned, ceil-high scaled c.max-unit.result some, ap (λ n. c.max-unit.result * n) (t.increment-is ∙ t.div_ceil-increment.ensures))
      | else-hits-lt40 t ↦
          let past : get_or weights hits 0 ≡ 0 = get_or_past weights hits 0 (omega (arith, ap length c.of.ensures.weights, increments-length c.args.rule c.args.k, t.if-hits-lt40.false)) in
          omega (arith, ap (λ n. c.max-scale.result * n) past)
    ] in
    record {
      made = made-more weights c.max-scale.result c.max-unit.result (64 * c.args.units) c.loop-hits.sums hits c.loop-hits.last c.if-hits-lt40.increment (c.loop-hits.given + c.if-hits-lt40.increment) inv.made c.loop-hits-test.true up
          c.if-increment-last.false (omega (arith, inv.given_is)) c.if-given-units.false;
      given_is = sym (get_or-set_same c.loop-hits.sums (hits + 1) (c.loop-hits.given + c.if-hits-lt40.increment) 0 (omega (arith, inv.made.long, c.loop-hits-test.true)));
    }
