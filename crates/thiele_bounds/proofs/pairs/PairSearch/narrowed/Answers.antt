use Rattle.std.proofs.Common.{rules, refl, ◌≡◌, ℕ, ◌+◌, ◌-◌, ◌*◌, ◌^◌, ◌≤◌, ap, arith, get_or}
use Rattle.std.proofs.Math.Nat.{mul-le-mul, mul-le-mul_left}
use Rattle.ballot_base.specs.Limits.{most_candidates, most_increments}
use Rattle.thiele_bounds.specs.Steps.Paired.{overlap_at, pair_place}
use Rattle.tie_walk.specs.Values.{thiele_value}
use Rattle.row_multipliers.proofs.CompletionLemmas.{completion-few}
use Rattle.row_multipliers.proofs.NarrowedLemmas.{narrowed-members}
use Rattle.tie_walk.proofs.WorthLemmas.{no_total}
use Rattle.thiele_bounds.proofs.PairBounds.PairNodes.{pairs-pay}
use Rattle.thiele_bounds.proofs.pairs.PairSearch.narrowed.Goals as goal
use Rattle.thiele_bounds.proofs.pairs.PairSearch.narrowed.Goals.{After-from, After-from-factor, After-saturating_sub}

left-fits : (g : _) (c : After-from-factor g) → c.args.node.now.left ≤ 255
left-fits g c = search rules

-- products that fit
constant-fits : (factor constant : ℕ) → factor ≤ 255 → constant ≤ 2 ^ 71 → 2 * factor * constant ≤ 2 ^ 80
constant-fits factor constant few small =
    let all : 2 * factor * constant ≤ 510 * 2 ^ 71 = mul-le-mul (let top : 2 * factor ≤ 510 = omega (arith, few) in top) small in
    omega (arith, all)

worth-raise : (factor overlap : ℕ) → factor ≤ 255 → overlap ≤ 2 ^ 58 → 2 * factor * overlap ≤ 2 ^ 67
worth-raise factor overlap few small =
    let all : 2 * factor * overlap ≤ 510 * 2 ^ 58 = mul-le-mul (let top : 2 * factor ≤ 510 = omega (arith, few) in top) small in
    omega (arith, all)

raise-fits : (a b factor overlap : ℕ) → a ≤ 255 → b ≤ 255 → factor ≤ 255 → overlap ≤ 2 ^ 58 → a * b * (2 * factor * overlap) ≤ most_increments
raise-fits a b factor overlap few less low small =
    let raise : 2 * factor * overlap ≤ 510 * 2 ^ 58 = mul-le-mul (let top : 2 * factor ≤ 510 = omega (arith, low) in top) small in
    let square : a * b ≤ 255 * 255 = mul-le-mul few less in
    let all : a * b * (2 * factor * overlap) ≤ 255 * 255 * (510 * 2 ^ 58) = mul-le-mul square raise in
    omega (arith, all)

pub overflow_mul-from-2 : goal.overflow_mul-from-2
overflow_mul-from-2 g c =
    omega (
      arith,
      raise-fits c.from-2.result c.from-3.result c.from-factor.result c.from.result (omega (arith, c.from-2.ensures, left-fits g (goal.at.overflow_mul-from-2 g c).After-from-factor)) (omega (arith, c.from-3.ensures, left-fits g (goal.at.overflow_mul-from-2 g c).After-from-factor))
          (omega (arith, c.from-factor.ensures, left-fits g (goal.at.overflow_mul-from-2 g c).After-from-factor)) (omega (arith, c.from.ensures, c.greatest_overlap.ensures.small)),
    )

-- worths are raised enough
raise-enough : (g : _) (c : After-from g) (i j : ℕ) → i ≤ most_candidates → j ≤ most_candidates → 2 * (c.args.node.now.left - 1) * overlap_at c.add_ballots.new.totals.overlaps i j ≤ 2 * c.from-factor.result * c.from.result
raise-enough g c i j row column =
    let low : overlap_at c.add_ballots.new.totals.overlaps i j ≤ c.from.result = omega (arith, c.from.ensures, c.greatest_overlap.ensures.most i j row column) in
    let product : 2 * c.from-factor.result * overlap_at c.add_ballots.new.totals.overlaps i j ≤ 2 * c.from-factor.result * c.from.result = mul-le-mul_left (2 * c.from-factor.result) low in
    omega (arith, product, ap (λ n. 2 * n * overlap_at c.add_ballots.new.totals.overlaps i j) c.from-factor.ensures)

-- what is due
due-low : (g : _) (c : After-saturating_sub g)
    → c.saturating_sub.result
    ≤ 2 * (c.args.node.now.left - 1) * c.units.result + c.args.node.now.left * c.args.node.now.left * (2 * c.from-factor.result * c.from.result) - 2 * (c.args.node.now.left - 1) * c.add_ballots.new.totals.constant
due-low g c =
    let turned : c.units.result * (2 * c.from-factor.result) ≡ 2 * c.from-factor.result * c.units.result = omega arith in
    omega (
      arith,
      c.saturating_sub.ensures,
      c.saturating_add-due.ensures,
      c.saturating_mul.ensures,
      turned,
      ap (λ n. 2 * n * c.units.result) c.from-factor.ensures,
      ap (λ n. 2 * n * c.add_ballots.new.totals.constant) c.from-factor.ensures,
      ap (λ n. n * c.from-3.result * (2 * c.from-factor.result * c.from.result)) c.from-2.ensures,
      ap (λ n. c.args.node.now.left * n * (2 * c.from-factor.result * c.from.result)) c.from-3.ensures,
    )

pub returns : goal.returns
returns g c weights sums =
    let given = c.args.self.now.given.now in
    let e = c.args.self.now.profile.now in
    let node = c.args.node.now in
    let totals = c.add_ballots.new.totals in
    let raise = 2 * c.from-factor.result * c.from.result in
    narrowed-members (thiele_value weights e.rows) e.m node.set node.free node.left c.args.self.now.least (λ n. get_or c.sums.result n 0) c.saturating_sub.result c.args.self.now.size c.requires.is_node
    (λ committee whole reaches. pairs-pay weights given.scale given.unit e.m e.rows node.set node.free node.left totals.constant totals.worths totals.overlaps c.requires.is_node c.args.self.now.size
    c.requires.several given.some (c.add_ballots.ensures.totals weights sums) c.args.self.now.least c.units.result raise c.units.ensures (raise-enough g (goal.at.returns g c).After-from) c.sums.result c.sums.ensures c.saturating_sub.result
    (due-low g (goal.at.returns g c).After-saturating_sub) committee whole reaches)
    c.members_for.result c.members_for.ensures

pub sums-requires : goal.sums-requires
sums-requires g c =
    let few : c.args.node.now.left ≤ 255 = left-fits g (goal.at.sums-requires g c).After-from-factor in
    record {
      several = c.requires.several;
      few = omega (arith, few);
      small = c.add_ballots.ensures.small;
      raise_small = worth-raise c.from-factor.result c.from.result (omega (arith, c.from-factor.ensures, few)) (omega (arith, c.from.ensures, c.greatest_overlap.ensures.small));
      enough = raise-enough g (goal.at.sums-requires g c).After-from;
    }

pub overflow_mul-factor-2 : goal.overflow_mul-factor-2
overflow_mul-factor-2 g c =
    omega (
      arith,
      constant-fits c.from-factor.result c.add_ballots.new.totals.constant (omega (arith, c.from-factor.ensures, left-fits g (goal.at.overflow_mul-factor-2 g c).After-from-factor)) c.add_ballots.ensures.small.constant_small,
    )

pub returns-then-len-node : goal.returns-then-len-node
returns-then-len-node g c weights are committee whole =
    let node = c.args.node.now in
    absurd (omega (
      arith,
      completion-few c.args.self.now.profile.now.m node.set node.free node.left committee c.requires.is_node whole,
      c.len.ensures.count,
      c.if-len-node.true,
    ))

pub add_ballots-requires-clause-nothing : goal.add_ballots-requires-clause-nothing
add_ballots-requires-clause-nothing g c = record {
  constant_none = refl;
  worths_none = c.none.ensures;
  overlaps_none = λ i j. no_total 2145 (pair_place i j);
}
