-- What the totals of triples say of a set.
use Rattle.std.proofs.Common.{◌≡◌, ℕ, ◌+◌, ◌-◌, ◌*◌, ◌≤◌, true, List, ap, arith, sum_by, get_or}
use Rattle.std.specs.Prelude.{slice_index}
use Rattle.std.specs.List.{AllByRecursion}
use Rattle.std.proofs.Math.Nat.{mul-le-mul_left}
use Rattle.ballot_base.specs.CandSet.{has_member, common_members, without_member}
use Rattle.ballot_base.specs.Limits.{most_candidates}
use Rattle.ballot_base.specs.Lists.{IsIncreasing}
use Rattle.ballot_base.specs.Ballots.{Row}
use Rattle.tie_walk.specs.Values.{thiele_value}
use Rattle.row_multipliers.specs.Completions.{IsNode, IsCompletion}
use Rattle.row_multipliers.specs.declared.node.Node.{Node}
use Rattle.thiele_bounds.specs.Pairs.{all_constants, all_overlap, all_worth}
use Rattle.thiele_bounds.specs.Triples.{all_triples, sum_of_one, sum_of_pairs, sum_of_triples, sum_of_two}
use Rattle.thiele_bounds.specs.Steps.Cubics.{row_constant, row_overlap, row_triple, row_worth}
use Rattle.thiele_bounds.specs.Steps.Paired.{AreSums, overlap_at}
use Rattle.thiele_bounds.specs.Steps.Threes.{AreCubics, AreRaised, IsSumOfOne, three_at}
use Rattle.thiele_bounds.specs.declared.pairs.Totals.{Totals}
use Rattle.row_multipliers.proofs.CompletionLemmas.{added-free, added-increasing, added-size, member-high, without-is}
use Rattle.thiele_bounds.proofs.PairBounds.CubicLemmas.{choose, chosen, cubics-are}
use Rattle.thiele_bounds.proofs.PairBounds.OverlapLemmas.{place-turned}
use Rattle.thiele_bounds.proofs.PairBounds.PairLemmas.{sum-equal, sum-less}
use Rattle.thiele_bounds.proofs.PairBounds.PairNodes.{units-low}
use Rattle.thiele_bounds.proofs.PairBounds.TripleLemmas.{triples-bound}
use Rattle.thiele_bounds.proofs.PairBounds.TripleSums.{threes-bound}

-- the thresholds of one candidate
record Thresholds : Type 0 where
  third : ℕ → ℕ
  second : ℕ

module _ (weights sums : List ℕ) (scale unit m shift : ℕ) (rows : List Row) (node : Node) (totals : Totals) (is_node : IsNode m node.set node.free) (size : m ≤ most_candidates) (are : AreSums weights scale unit sums)
    (ups : AllByRecursion (λ (row : Row). IsIncreasing 1 m row.0) rows) (cubics : AreCubics sums shift rows node totals.constant totals.worths totals.overlaps) (least needed raise : ℕ) (raised : AreRaised totals node.left raise)
    (units : (value : ℕ) → scale * least ≤ unit * value → needed ≤ value) (bounds : List ℕ)
    (bounds_are : (i : ℕ) → has_member node.free i ≡ true
    → IsSumOfOne (three_at totals (all_triples (row_triple sums shift node.set node.free node.left) rows) node.left raise) node.free node.left i (get_or bounds i 0)) (due : ℕ)
    (due_low : due ≤ 3 * (node.left - 1) * (node.left - 2) * needed + node.left * (node.left - 1) * (node.left - 2) * raise - 3 * (node.left - 1) * (node.left - 2) * totals.constant) where
  abbrev third_of : ℕ → ℕ → ℕ → ℕ
  third_of i j l = all_triples (row_triple sums shift node.set node.free node.left) rows i j l

  abbrev three : ℕ → ℕ → ℕ → ℕ
  three = three_at totals third_of node.left raise

  abbrev Fits : ℕ → Thresholds → Type 0
  Fits i t = sum_of_one (sum_of_two three node.free node.left (λ n. t.third)) node.free node.left (λ n. t.second) i ≤ get_or bounds i 0

  some : (i : ℕ) → has_member node.free i ≡ true → (t : Thresholds) × Fits i t
  some i here = let is = bounds_are i here in (record { third = is.0; second = is.1 }, is.2)

  thresholds : ℕ → Thresholds
  thresholds = choose Fits node.free (record { third = λ n. 0; second = 0 }) some

  module _ (committee : List ℕ) (whole : IsCompletion m node.set node.free node.left committee) (reaches : least ≤ thiele_value weights rows committee) where
    abbrev more : List ℕ
    more = common_members node.free committee

    free-is : (n : ℕ) → has_member more n ≡ true → has_member node.free n ≡ true
    free-is n here = added-free m node.set node.free node.left committee is_node whole n here

    -- what is needed
    reach-low : needed + sum_of_pairs (overlap_at totals.overlaps) more ≤ totals.constant + (sum_by (slice_index totals.worths) more + sum_of_triples third_of more)
    reach-low =
        let value : scale * least ≤ scale * thiele_value weights rows committee = mul-le-mul_left scale reaches in
        let bound = triples-bound weights scale unit m node.set node.free node.left committee is_node whole (row_constant sums shift node.set node.free node.left) (row_worth sums shift node.set node.free node.left)
        (row_overlap sums shift node.set node.free node.left) (row_triple sums shift node.set node.free node.left) rows ups (cubics-are weights sums scale unit m shift node.set node.free node.left size is_node are rows ups) in
        let worths : sum_by (slice_index totals.worths) more ≡ sum_by (all_worth (row_worth sums shift node.set node.free node.left) rows) more =
        sum-equal (slice_index totals.worths) (all_worth (row_worth sums shift node.set node.free node.left) rows) more (λ n here. cubics.worths_are n (free-is n here)) in
        let pairs : sum_of_pairs (overlap_at totals.overlaps) more ≡ sum_of_pairs (all_overlap (row_overlap sums shift node.set node.free node.left) rows) more =
        sum-equal (λ i. sum_by (overlap_at totals.overlaps i) (without_member more i)) (λ i. sum_by (all_overlap (row_overlap sums shift node.set node.free node.left) rows i) (without_member more i)) more
        (λ i here. sum-equal (overlap_at totals.overlaps i) (all_overlap (row_overlap sums shift node.set node.free node.left) rows i) (without_member more i)
        (λ j there. cubics.overlaps_are i j (free-is i here) (free-is j (without-is more i j there)))) in
        let all : ℕ = totals.constant + (sum_by (slice_index totals.worths) more + sum_of_triples third_of more) in
        let same : unit * all ≡ unit * (all_constants (row_constant sums shift node.set node.free node.left) rows + sum_by (all_worth (row_worth sums shift node.set node.free node.left) rows) more + sum_of_triples third_of more) =
        ap (λ n. unit * n) (let e : all ≡ all_constants (row_constant sums shift node.set node.free node.left) rows + sum_by (all_worth (row_worth sums shift node.set node.free node.left) rows) more + sum_of_triples third_of more =
        omega (arith, cubics.constant_is, worths) in e) in
        units-low scale unit least needed all (sum_of_pairs (overlap_at totals.overlaps) more) are.some units (omega (arith, value, bound, same, ap (λ n. unit * n) pairs))

    three-enough : (i j l : ℕ) → has_member node.free i ≡ true → has_member node.free j ≡ true → has_member node.free l ≡ true
        → (node.left - 1) * (overlap_at totals.overlaps i j + overlap_at totals.overlaps i l + overlap_at totals.overlaps j l)
        ≤ slice_index totals.worths i + slice_index totals.worths j + slice_index totals.worths l + 3 * (node.left - 1) * (node.left - 2) * third_of i j l + raise
    three-enough i j l here there beyond =
        let low : (n : ℕ) → has_member node.free n ≡ true → n ≤ most_candidates = λ n is. omega (arith, size, member-high 1 m node.free n is_node.free_within is) in
        omega (arith, raised.enough i j l (low i here) (low j there) (low l beyond))

    -- who joins has what is due
    pub threes-pay : due ≤ sum_by (λ n. get_or bounds n 0) more
    unfolding thresholds
    threes-pay =
        let factor : ℕ = 3 * (node.left - 1) * (node.left - 2) in
        let law = threes-bound (slice_index totals.worths) (overlap_at totals.overlaps) third_of m node.left raise (λ i. (thresholds i).third) (λ i. (thresholds i).second) node.free more (omega (arith, raised.several))
        is_node.free_within (added-increasing m node.set node.free node.left committee is_node whole) (added-size m node.set node.free node.left committee is_node whole) free-is
        (λ i j. ap (slice_index totals.overlaps) (place-turned i j)) three-enough in
        let bounded : sum_by (sum_of_one (sum_of_two three node.free node.left (λ i. (thresholds i).third)) node.free node.left (λ i. (thresholds i).second)) more
        ≤ sum_by (λ n. get_or bounds n 0) more =
        sum-less (sum_of_one (sum_of_two three node.free node.left (λ i. (thresholds i).third)) node.free node.left (λ i. (thresholds i).second)) (λ n. get_or bounds n 0) more
        (λ n here. chosen Fits node.free (record { third = λ n. 0; second = 0 }) some n (free-is n here)) in
        let product : factor * (needed + sum_of_pairs (overlap_at totals.overlaps) more) ≤ factor * (totals.constant + (sum_by (slice_index totals.worths) more + sum_of_triples third_of more)) =
        mul-le-mul_left factor reach-low in
        let spread : (a b c : ℕ) → a * (b + c) ≡ a * b + a * c = λ a b c. omega arith in
        omega (
          arith,
          law,
          bounded,
          product,
          spread factor needed (sum_of_pairs (overlap_at totals.overlaps) more),
          spread factor totals.constant (sum_by (slice_index totals.worths) more + sum_of_triples third_of more),
          due_low,
        )
