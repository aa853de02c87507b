use Rattle.std.proofs.Common.{ℕ, ◌+◌, ◌*◌, ◌^◌, ◌≤◌, ap, arith, inl, inr, get_or}
use Rattle.std.proofs.Math.Nat.{mul-le-mul}
use Rattle.std.proofs.lemmas.Bool.{cases_eq}
use Rattle.thiele_bounds.specs.Steps.Paired.{most_sum}
use Rattle.thiele_bounds.proofs.majorant.Majorant.at.Goals as goal
use Rattle.thiele_bounds.proofs.majorant.Majorant.at.Goals.{After-from-2, then-touch-most, else-touch-most}

-- an overlap for each pair of hits
square : (all_give overlap h : ℕ) → overlap ≤ all_give → h ≤ 64 → overlap * (h * h) ≤ all_give * 2 ^ 12
square all_give overlap h small few =
    let pairs : h * h ≤ 64 * 64 = mul-le-mul few few in
    let all : overlap * (h * h) ≤ all_give * (64 * 64) = mul-le-mul small pairs in
    omega (arith, all)

worth-small : (all_give step overlap touch : ℕ) → step ≤ all_give → overlap ≤ all_give → touch ≤ 64 → step + overlap * (2 * touch + 1) ≤ all_give * 2 ^ 8
worth-small all_give step overlap touch low small few =
    let all : overlap * (2 * touch + 1) ≤ all_give * 129 = mul-le-mul small (let top : 2 * touch + 1 ≤ 129 = omega (arith, few) in top) in
    omega (arith, all, low)

step-small : (c : After-from-2) → c.if-touch-most.step ≤ most_sum c.args.sums.now
step-small c = elim c.if-touch-most.branch [
  | then-touch-most t ↦ omega (
    arith,
    t.step-is,
    t.saturating_sub-step.ensures,
    c.requires.small.none_above (c.from-first.result + c.from.result + 1) (omega (arith, t.if-touch-most.true, c.from-first.ensures, c.from.ensures, c.requires.fits)),
  )
  | else-touch-most t ↦ omega (arith, t.step-is)
]

pub overflow_mul-step : goal.overflow_mul-step
overflow_mul-step c =
    let most : c.if-touch-most.step * c.from-run.result ≤ most_sum c.args.sums.now * 64 =
    mul-le-mul (step-small (goal.at.overflow_mul-step c).After-from-2) (let few : c.from-run.result ≤ 64 = omega (arith, c.from-run.ensures, c.requires.fits) in few) in
    omega (arith, most)

pub loop-hits-init : goal.loop-hits-init
loop-hits-init c =
    let step = step-small (goal.at.loop-hits-init c).After-from-2 in
    record {
      step_small = step;
      overlap_small = omega (arith, step, c.min-overlap.ensures);
      small = omega arith;
      above = λ h low. absurd (omega (arith, low));
    }

pub loop-hits-preserved : goal.loop-hits-preserved
loop-hits-preserved c =
    let inv = c.loop-hits.invariant in
    let hits = c.loop-hits.hits in
    let few : hits ≤ 64 = omega (arith, c.loop-hits-test.true, c.from-hits-end.ensures, c.requires.fits) in
    record {
      step_small = inv.step_small;
      overlap_small = inv.overlap_small;
      small = omega (arith, c.max-constant.ensures, c.saturating_sub-in-loop-hits.ensures, inv.small, c.requires.small.none_above (c.from-first.result + hits) (omega (arith, c.loop-hits-test.true, c.from-hits-end.ensures, c.from-first.ensures, c.requires.fits)), square (most_sum c.args.sums.now) c.min-overlap.result hits inv.overlap_small few);
      above = λ h low. elim (cases_eq h hits) [
        | inl same ↦ rw same (omega (arith, c.max-constant.ensures, c.saturating_sub-in-loop-hits.ensures))
        | inr other ↦ omega (arith, inv.above h (omega (arith, low, other)), c.max-constant.ensures)
      ];
    }

pub returns : goal.returns
returns c = record {
  bounds = λ h few. omega (
    arith,
    c.loop-hits.invariant.above h (omega (arith, few, c.loop-hits-test.false, c.from-hits-end.ensures)),
    ap (λ n. get_or c.args.sums.now (n + h) 0) c.from-first.ensures,
  );
  small = record {
    constant_small = c.loop-hits.invariant.small;
    worth_small = worth-small (most_sum c.args.sums.now) c.if-touch-most.step c.min-overlap.result c.from-3.result c.loop-hits.invariant.step_small c.loop-hits.invariant.overlap_small
        (omega (arith, c.from-3.ensures, c.requires.touch, c.requires.fits));
    overlap_small = c.loop-hits.invariant.overlap_small;
  };
}

pub overflow_add-given-in-loop-hits : goal.overflow_add-given-in-loop-hits
overflow_add-given-in-loop-hits c =
    let few : c.loop-hits.hits ≤ 64 = omega (arith, c.loop-hits-test.true, c.from-hits-end.ensures, c.requires.fits) in
    let fits : c.from-first.result + c.loop-hits.hits ≤ 64 = omega (arith, c.loop-hits-test.true, c.from-hits-end.ensures, c.from-first.ensures, c.requires.fits) in
    omega (
      arith,
      c.requires.small.none_above (c.from-first.result + c.loop-hits.hits) fits,
      c.requires.small.all_small,
      square (most_sum c.args.sums.now) c.min-overlap.result c.loop-hits.hits c.loop-hits.invariant.overlap_small few,
    )

pub overflow_mul-worth-in-loop-hits : goal.overflow_mul-worth-in-loop-hits
overflow_mul-worth-in-loop-hits c =
    let hits = c.loop-hits.hits in
    let worth : ℕ = c.if-touch-most.step + c.min-overlap.result * (2 * c.from-3.result + 1) in
    let few : hits ≤ 64 = omega (arith, c.loop-hits-test.true, c.from-hits-end.ensures, c.requires.fits) in
    let small : worth ≤ most_sum c.args.sums.now * 2 ^ 8 = worth-small (most_sum c.args.sums.now) c.if-touch-most.step c.min-overlap.result c.from-3.result c.loop-hits.invariant.step_small c.loop-hits.invariant.overlap_small
    (omega (arith, c.from-3.ensures, c.requires.touch, c.requires.fits)) in
    let all : worth * hits ≤ most_sum c.args.sums.now * 2 ^ 8 * 64 = mul-le-mul small few in
    omega (arith, all, c.requires.small.all_small)

pub overflow_add-worth-2 : goal.overflow_add-worth-2
overflow_add-worth-2 c =
    omega (
      arith,
      worth-small (most_sum c.args.sums.now) c.if-touch-most.step c.min-overlap.result c.from-3.result (step-small (goal.at.overflow_add-worth-2 c).After-from-2) (omega (arith, step-small (goal.at.overflow_add-worth-2 c).After-from-2, c.min-overlap.ensures)) (omega (arith, c.from-3.ensures, c.requires.touch, c.requires.fits)),
      c.requires.small.all_small,
    )
