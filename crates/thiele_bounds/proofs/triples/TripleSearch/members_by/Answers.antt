use Rattle.std.proofs.Common.{rules, refl, ◌≡◌, ℕ, ◌+◌, ◌-◌, ◌*◌, ◌/◌, ◌^◌, ◌≤◌, ◌∙◌, true, ap, arith, get_or}
use Rattle.std.proofs.Math.Nat.{mul-le-mul, mul-le-mul_left}
use Rattle.tie_walk.specs.Values.{thiele_value}
use Rattle.tie_walk.proofs.WorthLemmas.{no_total}
use Rattle.ballot_base.specs.CandSet.{has_member, without_member}
use Rattle.ballot_base.specs.Limits.{most_candidates}
use Rattle.ballot_base.specs.Lists.{IsIncreasing}
use Rattle.row_multipliers.proofs.CompletionLemmas.{without-is, without-not}
use Rattle.ballot_base.proofs.Increasing.{IsIncreasing-higher}
use Rattle.row_multipliers.proofs.NarrowedLemmas.{narrowed-members}
use Rattle.thiele_bounds.specs.Steps.Paired.{overlap_at, pair_place}
use Rattle.thiele_bounds.specs.Steps.Places.{word_of}
use Rattle.thiele_bounds.specs.Steps.Threes.{AreRaised, IsSumOfOne, roughly, three_at}
use Rattle.thiele_bounds.proofs.PairBounds.CubicLemmas.{one-less}
use Rattle.thiele_bounds.proofs.PairBounds.CubicNodes.{threes-pay}
use Rattle.thiele_bounds.proofs.PairBounds.PartLemmas.{three-less}
use Rattle.thiele_bounds.proofs.PairBounds.TurnLemmas.{one-is}
use Rattle.thiele_bounds.proofs.triples.TripleSearch.members_by.Goals as goal
use Rattle.thiele_bounds.proofs.triples.TripleSearch.members_by.Goals.{After-from-2, After-from-4, After-from-others, After-saturating_sub}

left-fits : (g : _) (c : After-from-others g) → c.args.node.now.left ≤ 255
left-fits g c = search rules

others-fit : (g : _) (c : After-from-2 g) → c.from-others.result ≤ 255
others-fit g c = search rules

-- a product that fits
raise-fits : (others overlap : ℕ) → others ≤ 255 → overlap ≤ 2 ^ 58 → 3 * others * overlap ≤ 765 * 2 ^ 58
raise-fits others overlap few small = mul-le-mul (let top : 3 * others ≤ 765 = omega (arith, few) in top) small

all-fit : (a b d others overlap : ℕ) → a ≤ 255 → b ≤ 255 → d ≤ 255 → others ≤ 255 → overlap ≤ 2 ^ 58 → a * b * d * (3 * others * overlap) ≤ 2 ^ 100
all-fit a b d others overlap few less least low small =
    let square : a * b ≤ 255 * 255 = mul-le-mul few less in
    let cube : a * b * d ≤ 255 * 255 * 255 = mul-le-mul square least in
    let all : a * b * d * (3 * others * overlap) ≤ 255 * 255 * 255 * (765 * 2 ^ 58) = mul-le-mul cube (raise-fits others overlap low small) in
    omega (arith, all)

pub overflow_mul-from-3 : goal.overflow_mul-from-3
overflow_mul-from-3 g c =
    let left = left-fits g (goal.at.overflow_mul-from-3 g c).After-from-others in
    let others = others-fit g (goal.at.overflow_mul-from-3 g c).After-from-2 in
    omega (
      arith,
      all-fit c.from-3.result c.from-others.result c.from-4.result c.from-others.result c.from-2.result (omega (arith, c.from-3.ensures, left)) (omega (arith, others)) (omega (arith, c.from-4.ensures, left)) (omega (arith, others))
          (omega (arith, c.from-2.ensures, c.greatest_overlap-most.ensures.small)),
    )

-- worths are raised enough
raised-enough : (g : _) (c : After-from-2 g) → AreRaised c.add_ballots.new.totals c.args.node.now.left (3 * c.from-others.result * c.from-2.result)
raised-enough g c =
    let left = c.args.node.now.left in
    let table = c.add_ballots.new.totals.overlaps in
    let small : c.from-2.result ≤ 2 ^ 58 = omega (arith, c.from-2.ensures, c.greatest_overlap-most.ensures.small) in
    record {
      several = c.requires.several;
      few = omega (arith, others-fit g c, c.from-others.ensures);
      small = c.add_ballots.ensures.small;
      raise_small = omega (arith, raise-fits c.from-others.result c.from-2.result (others-fit g c) small);
      enough = λ i j l one other last.
          let low : overlap_at table i j + overlap_at table i l + overlap_at table j l ≤ 3 * c.from-2.result =
          omega (arith, c.from-2.ensures, c.greatest_overlap-most.ensures.most i j one other, c.greatest_overlap-most.ensures.most i l one last, c.greatest_overlap-most.ensures.most j l other last) in
          let product : (left - 1) * (overlap_at table i j + overlap_at table i l + overlap_at table j l) ≤ (left - 1) * (3 * c.from-2.result) = mul-le-mul_left (left - 1) low in
          let turned : (a b : ℕ) → a * (3 * b) ≡ 3 * a * b = λ a b. omega arith in
          omega (arith, product, turned (left - 1) c.from-2.result, ap (λ n. 3 * n * c.from-2.result) c.from-others.ensures);
    }

free-within : (g : _) (c : After-from-2 g) → IsIncreasing 1 most_candidates c.args.node.now.free
free-within g c = IsIncreasing-higher 1 c.args.self.now.profile.now.m most_candidates c.args.node.now.free c.args.self.now.size c.requires.is_node.free_within

pub share_pairs-requires : goal.share_pairs-requires
share_pairs-requires g c =
    let at = (goal.at.share_pairs-requires g c).After-from-2 in
    record {
      some = omega (arith, c.requires.several);
      few = omega (arith, others-fit g at, c.from-others.ensures);
      candidates = free-within g at;
      worths_small = c.add_ballots.ensures.small.worths_small;
      most_small = c.greatest_overlap-most.ensures.small;
    }

pub sums-requires : goal.sums-requires
sums-requires g c =
    let at = (goal.at.sums-requires g c).After-from-2 in
    record {
      several = c.requires.several;
      few = omega (arith, others-fit g at, c.from-others.ensures);
      candidates = free-within g at;
      room = λ n is. omega (arith, c.requires.room n is, c.add_ballots.ensures.kept);
      small = λ i j one two less. (c.share_pairs.ensures i j one two less).small;
    }

-- what is due
due-low : (g : _) (c : After-saturating_sub g)
    → c.saturating_sub.result
    ≤ 3 * (c.args.node.now.left - 1) * (c.args.node.now.left - 2) * c.units.result
    + c.args.node.now.left * (c.args.node.now.left - 1) * (c.args.node.now.left - 2) * (3 * c.from-others.result * c.from-2.result)
    - 3 * (c.args.node.now.left - 1) * (c.args.node.now.left - 2) * c.add_ballots.new.totals.constant
due-low g c =
    let left = c.args.node.now.left in
    let factor : 3 * c.from-others.result * c.from.result ≡ 3 * (left - 1) * (left - 2) =
    ap (λ n. 3 * n * c.from.result) c.from-others.ensures ∙ ap (λ n. 3 * (left - 1) * n) c.from.ensures in
    let product : c.from-3.result * c.from-others.result * c.from-4.result ≡ left * (left - 1) * (left - 2) =
    ap (λ n. n * c.from-others.result * c.from-4.result) c.from-3.ensures ∙ ap (λ n. left * n * c.from-4.result) c.from-others.ensures ∙ ap (λ n. left * (left - 1) * n) c.from-4.ensures in
    let turned : c.units.result * (3 * c.from-others.result * c.from.result) ≡ 3 * c.from-others.result * c.from.result * c.units.result = omega arith in
    omega (
      arith,
      c.saturating_sub.ensures,
      c.saturating_add-due.ensures,
      c.saturating_mul.ensures,
      turned,
      ap (λ n. n * c.units.result) factor,
      ap (λ n. n * c.add_ballots.new.totals.constant) factor,
      ap (λ n. n * (3 * c.from-others.result * c.from-2.result)) product,
    )

pub returns : goal.returns
returns g c weights sums =
    let given = c.args.self.now.given.now in
    let e = c.args.self.now.profile.now in
    let node = c.args.node.now in
    let totals = c.add_ballots.new.totals in
    let raise = 3 * c.from-others.result * c.from-2.result in
    let most = c.greatest_overlap-most.result in
    let pairs = c.share_pairs.new.pairs in
    let triples = c.add_ballots.new.triples in
    let free = node.free in
    let all : raise ≡ 3 * (node.left - 1) * most = ap (λ n. 3 * n * c.from-2.result) c.from-others.ensures ∙ ap (λ n. 3 * (node.left - 1) * n) c.from-2.ensures in
    let three : ℕ → ℕ → ℕ → ℕ = three_at totals (word_of triples) node.left raise in
    let other : ℕ → ℕ → ℕ → ℕ = λ i j l. roughly
    * (overlap_at pairs i j + overlap_at pairs i l + overlap_at pairs j l + 3 * (node.left - 1) * (node.left - 2) * word_of triples i j l / roughly + 1) in
    let less : (i : ℕ) → has_member free i ≡ true → IsSumOfOne other free node.left i (get_or c.sums.result i 0) → IsSumOfOne three free node.left i (get_or c.sums.result i 0) =
    λ i here. one-less three other free node.left i (get_or c.sums.result i 0)
    (λ j l one two.
    let last = without-is (without_member free i) j l two in
    three-less totals pairs triples free node.left most raise c.share_pairs.ensures all c.greatest_overlap-most.ensures.most (free-within g (goal.at.returns g c).After-from-2) i j l here (without-is free i j one) (without-is free i l last)
    (without-not free i j one) (without-not free i l last) (without-not (without_member free i) j l two)) in
    narrowed-members (thiele_value weights e.rows) e.m node.set node.free node.left c.args.self.now.least (λ n. get_or c.sums.result n 0) c.saturating_sub.result c.args.self.now.size c.requires.is_node
    (λ committee whole reaches. threes-pay weights given.sums given.scale given.unit e.m c.args.self.now.shift e.rows node totals c.requires.is_node c.args.self.now.size sums c.add_ballots.ensures.valid.ballots c.add_ballots.ensures.cubics
    c.args.self.now.least c.units.result raise (raised-enough g (goal.at.returns g c).After-from-2) c.units.ensures c.sums.result (λ i here. one-is given.sums c.args.self.now.shift e.rows node totals c.add_ballots.new.triples raise c.add_ballots.ensures.triples i (get_or c.sums.result i 0) here (less i here (c.sums.ensures i here))) c.saturating_sub.result (due-low g (goal.at.returns g c).After-saturating_sub)
    committee whole reaches)
    c.members_for.result c.members_for.ensures

pub add_ballots-requires-clause-nothing : goal.add_ballots-requires-clause-nothing
add_ballots-requires-clause-nothing g c = record {
  constant_none = refl;
  worths_none = c.none.ensures;
  overlaps_none = λ i j. no_total 2145 (pair_place i j);
}
