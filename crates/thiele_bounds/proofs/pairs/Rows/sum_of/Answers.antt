use Rattle.std.proofs.Common.{◌≡◌, ℕ, ◌-◌, ◌*◌, ◌^◌, ◌≤◌, ◌==◌, not, List, ap, arith, length, get_or, sum_by}
use Rattle.std.specs.Prelude.{slice_index}
use Rattle.std.proofs.Math.Nat.{mul-le-mul}
use Rattle.ballot_base.specs.CandSet.{without_member}
use Rattle.ballot_base.specs.Limits.{most_candidates}
use Rattle.ballot_base.specs.Lists.{IsIncreasing}
use Rattle.ballot_base.proofs.Committees.{length-increasing}
use Rattle.thiele_bounds.specs.Pairs.{worth_beside}
use Rattle.thiele_bounds.specs.Steps.Paired.{overlap_at}
use Rattle.row_multipliers.proofs.CompletionLemmas.{filter-most, member-high, without-is}
use Rattle.thiele_bounds.proofs.PairBounds.PairLemmas.{sum-equal}
use Rattle.row_multipliers.proofs.SearchLemmas.{sum-most}
use Rattle.thiele_bounds.proofs.pairs.Rows.sum_of.Goals as goal
use Rattle.thiele_bounds.proofs.pairs.Rows.sum_of.Goals.{After-excess}

pub of-requires : goal.of-requires
of-requires c = member-high 1 most_candidates c.args.self.now.free c.args.i c.requires.candidates c.requires.member

pub of-requires-2 : goal.of-requires-2
of-requires-2 c = member-high 1 most_candidates c.args.self.now.free c.args.i c.requires.candidates c.requires.member

-- a product of few that are not large
few-small : (n x : ℕ) → n ≤ 255 → x ≤ 2 ^ 68 → n * x ≤ 2 ^ 76
few-small n x few small =
    let all : n * x ≤ 255 * 2 ^ 68 = mul-le-mul few small in
    omega (arith, all)

-- what the others exceed the threshold by
rest-small : (beside : List ℕ) (t i : ℕ) (free : List ℕ) → IsIncreasing 1 most_candidates free → ((n : ℕ) → get_or beside n 0 ≤ 2 ^ 68) → sum_by (λ n. get_or beside n 0 - t) (without_member free i) ≤ 2 ^ 74
rest-small beside t i free up small =
    let few : length free ≤ 64 = (let most = length-increasing 1 most_candidates free up in omega (arith, most)) in
    let others : length (without_member free i) ≤ 64 = omega (arith, few, filter-most (λ x. not (x == i)) free) in
    let all : length (without_member free i) * 2 ^ 68 ≤ 64 * 2 ^ 68 = mul-le-mul others (let same : 2 ^ 68 ≤ 2 ^ 68 = omega arith in same) in
    omega (arith, all, sum-most (λ n. get_or beside n 0 - t) (2 ^ 68) (without_member free i) (λ n. omega (arith, small n)))

-- each part of the sum
record AreParts (c : After-excess) : Type 0 where
  own : c.from.result * c.of.result ≤ 2 ^ 76
  alone : c.of-2.result ≤ 2 ^ 68
  thresholds : c.from-2.result * c.nth_greatest-threshold.result ≤ 2 ^ 76
  more : c.excess.result ≤ 2 ^ 74

parts : (c : After-excess) → AreParts c
parts c = record {
  own = few-small c.from.result c.of.result (omega (arith, c.from.ensures, c.requires.rows.few)) (omega (arith, c.of.ensures.value, c.requires.rows.small.worths_small c.args.i));
  alone = omega (arith, c.of-2.ensures.value, c.requires.beside.small c.args.i);
  thresholds = few-small c.from-2.result c.nth_greatest-threshold.result (omega (arith, c.from-2.ensures, c.requires.rows.few)) (c.nth_greatest-threshold.ensures.most (2 ^ 68) c.requires.beside.small);
  more = omega (
    arith,
    c.excess.ensures.sum,
    ap (λ l. sum_by (λ n. get_or c.args.beside.now n 0 - c.nth_greatest-threshold.result) l) c.without-others.ensures,
    rest-small c.args.beside.now c.nth_greatest-threshold.result c.args.i c.args.self.now.free c.requires.candidates c.requires.beside.small,
  );
}

pub overflow_add-result-2 : goal.overflow_add-result-2
overflow_add-result-2 c = omega (
  arith,
  few-small c.from.result c.of.result (omega (arith, c.from.ensures, c.requires.rows.few)) (omega (arith, c.of.ensures.value, c.requires.rows.small.worths_small c.args.i)),
  c.of-2.ensures.value,
  c.requires.beside.small c.args.i,
  few-small c.from-2.result c.nth_greatest-threshold.result (omega (arith, c.from-2.ensures, c.requires.rows.few)) (c.nth_greatest-threshold.ensures.most (2 ^ 68) c.requires.beside.small),
)

pub overflow_add-result-3 : goal.overflow_add-result-3
overflow_add-result-3 c = let part = parts (goal.at.overflow_add-result-3 c).After-excess in omega (arith, part.own, part.alone, part.thresholds, part.more)

pub returns-clause-small : goal.returns-clause-small
returns-clause-small c = let part = parts (goal.at.returns-clause-small c).After-excess in omega (arith, part.own, part.alone, part.thresholds, part.more)

pub returns-clause-sum : goal.returns-clause-sum
returns-clause-sum c =
    let self = c.args.self.now in
    let beside = c.args.beside.now in
    let t = c.nth_greatest-threshold.result in
    let others = without_member self.free c.args.i in
    let exact : ℕ → ℕ = worth_beside (slice_index self.totals.now.worths) (overlap_at self.totals.now.overlaps) self.left self.raise c.args.i in
    let more : sum_by (λ n. get_or beside n 0 - t) others ≡ sum_by (λ n. exact n - t) others =
    sum-equal (λ n. get_or beside n 0 - t) (λ n. exact n - t) others (λ n is. ap (λ x. x - t) (c.requires.beside.made n (without-is self.free c.args.i n is))) in (
      t,
      omega (
        arith,
        more,
        c.excess.ensures.sum,
        ap (λ l. sum_by (λ n. get_or beside n 0 - t) l) c.without-others.ensures,
        ap (λ n. n * c.of.result) c.from.ensures,
        ap (λ n. (self.left - 2) * n) c.of.ensures.value,
        c.of-2.ensures.value,
        c.requires.beside.made c.args.i c.requires.member,
        ap (λ n. n * t) c.from-2.ensures,
      ),
    )
