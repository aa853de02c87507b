use Rattle.std.proofs.Common.{◌≡◌, ℕ, ◌+◌, ◌-◌, ◌*◌, ◌^◌, ◌≤◌, refl, ap, arith, get_or}
use Rattle.std.proofs.Math.Nat.{mul-le-mul}
use Rattle.thiele_bounds.specs.Steps.Cubics.{highest, lack}
use Rattle.thiele_bounds.specs.Steps.Paired.{most_sum}
use Rattle.thiele_bounds.proofs.PairBounds.CubicLemmas.{highest-next}
use Rattle.thiele_bounds.proofs.triples.Cubic.constant.Goals as goal
use Rattle.thiele_bounds.proofs.triples.Cubic.constant.Goals.{After-saturating_sub-in-loop-hits-2}

-- an overlap for each pair of hits
pairs-small : (all overlap h g : ℕ) → overlap ≤ all → h ≤ 64 → g ≤ 64 → overlap * (h * g) ≤ all * 2 ^ 12
pairs-small all overlap h g small few less =
    let pairs : h * g ≤ 64 * 64 = mul-le-mul few less in
    let most : overlap * (h * g) ≤ all * (64 * 64) = mul-le-mul small pairs in
    omega (arith, most)

-- a triple for each triple of hits
triples-small : (all triple h g f : ℕ) → 6 * triple ≤ all → h ≤ 64 → g ≤ 63 → f ≤ 62 → triple * (h * (g * f)) ≤ all * 2 ^ 16
triples-small all triple h g f small few less least =
    let pairs : g * f ≤ 63 * 62 = mul-le-mul less least in
    let triples : h * (g * f) ≤ 64 * (63 * 62) = mul-le-mul few pairs in
    let most : 6 * triple * (h * (g * f)) ≤ all * (64 * (63 * 62)) = mul-le-mul small triples in
    let turned : 6 * triple * (h * (g * f)) ≡ 6 * (triple * (h * (g * f))) = omega arith in
    omega (arith, most, turned)

few-hits : (c : After-saturating_sub-in-loop-hits-2) → c.loop-hits.hits ≤ 64
few-hits c = omega (arith, c.loop-hits-test.true, c.from-hits-end.ensures, c.requires.fits)

triples-fit : (c : After-saturating_sub-in-loop-hits-2) → c.args.self.now.triple * (c.loop-hits.hits * (c.saturating_sub-in-loop-hits.result * c.saturating_sub-in-loop-hits-2.result)) ≤ most_sum c.args.sums.now * 2 ^ 16
triples-fit c =
    triples-small (most_sum c.args.sums.now) c.args.self.now.triple c.loop-hits.hits c.saturating_sub-in-loop-hits.result c.saturating_sub-in-loop-hits-2.result c.requires.cubic.triple_small (few-hits c)
    (omega (arith, few-hits c, c.saturating_sub-in-loop-hits.ensures)) (omega (arith, few-hits c, c.saturating_sub-in-loop-hits-2.ensures))

pairs-fit : (c : After-saturating_sub-in-loop-hits-2) → c.args.self.now.overlap * (c.loop-hits.hits * c.saturating_sub.result) ≤ most_sum c.args.sums.now * 2 ^ 12
pairs-fit c =
    pairs-small (most_sum c.args.sums.now) c.args.self.now.overlap c.loop-hits.hits c.saturating_sub.result c.requires.cubic.overlap_small (few-hits c) (omega (arith, few-hits c, c.saturating_sub.ensures))

given-small : (c : After-saturating_sub-in-loop-hits-2) → get_or c.args.sums.now (c.from-first.result + c.loop-hits.hits) 0 ≤ most_sum c.args.sums.now
given-small c =
    c.requires.small.none_above (c.from-first.result + c.loop-hits.hits) (omega (arith, c.loop-hits-test.true, c.from-hits-end.ensures, c.from-first.ensures, c.requires.fits))

pub loop-hits-init : goal.loop-hits-init
unfolding highest
loop-hits-init c = record {
  value = refl;
  small = omega arith;
}

pub overflow_add-given-in-loop-hits : goal.overflow_add-given-in-loop-hits
overflow_add-given-in-loop-hits c =
    let h = (goal.at.overflow_add-given-in-loop-hits c).After-saturating_sub-in-loop-hits-2 in
    omega (arith, given-small h, pairs-fit h, c.requires.small.all_small)

pub overflow_mul-self-in-loop-hits : goal.overflow_mul-self-in-loop-hits
overflow_mul-self-in-loop-hits c = omega (arith, triples-fit (goal.at.overflow_mul-self-in-loop-hits c).After-saturating_sub-in-loop-hits-2, c.requires.small.all_small)

pub overflow_add-self : goal.overflow_add-self
overflow_add-self c =
    let h = (goal.at.overflow_add-self c).After-saturating_sub-in-loop-hits-2 in
    let worth : c.args.self.now.worth * c.loop-hits.hits ≤ most_sum c.args.sums.now * 64 = mul-le-mul c.requires.cubic.worth_small (few-hits h) in
    omega (arith, triples-fit h, worth, c.requires.small.all_small)

pub loop-hits-preserved : goal.loop-hits-preserved
loop-hits-preserved c =
    let h = (goal.at.loop-hits-preserved c).After-saturating_sub-in-loop-hits-2 in
    let sums = c.args.sums.now in
    let self = c.args.self.now in
    let hits = c.loop-hits.hits in
    let inv = c.loop-hits.invariant in
    let is : c.saturating_sub-in-loop-hits-3.result ≡ lack sums c.args.before self.worth self.overlap self.triple hits =
    omega (
      arith,
      c.saturating_sub-in-loop-hits-3.ensures,
      ap (λ n. get_or sums (n + hits) 0) c.from-first.ensures,
      ap (λ n. self.overlap * (hits * n)) c.saturating_sub.ensures,
      ap (λ n. self.triple * (hits * (n * c.saturating_sub-in-loop-hits-2.result))) c.saturating_sub-in-loop-hits.ensures,
      ap (λ n. self.triple * (hits * ((hits - 1) * n))) c.saturating_sub-in-loop-hits-2.ensures,
    ) in
    record {
      value = omega (arith, c.max-constant.ensures, is, inv.value, highest-next (lack sums c.args.before self.worth self.overlap self.triple) hits);
      small = omega (arith, c.max-constant.ensures, c.saturating_sub-in-loop-hits-3.ensures, inv.small, given-small h, pairs-fit h);
    }
