use Rattle.std.proofs.Common.{ℕ, ◌+◌, ◌-◌, ◌*◌, ◌^◌, ◌≤◌, arith, length, get_or}
use Rattle.std.specs.Prelude.{slice_index}
use Rattle.std.proofs.Math.Nat.{mul-le-mul}
use Rattle.ballot_base.proofs.Committees.{length-increasing}
use Rattle.row_multipliers.proofs.SearchLemmas.{sum-most}
use Rattle.ballot_base.specs.Limits.{most_candidates}
use Rattle.thiele_bounds.proofs.triples.bound_of.Goals as goal
use Rattle.thiele_bounds.proofs.triples.bound_of.Goals.{After-excess}

all-small : (c : After-excess) (most : ℕ) → ((n : ℕ) → slice_index c.args.worths.now n ≤ most) → c.from.result * c.nth_greatest-threshold.result + c.excess.result ≤ 2 ^ 9 * most
all-small c most small =
    let t = c.nth_greatest-threshold.result in
    let range : c.args.count ≤ 255 = omega (arith, c.ranges.count.fits) in
    let thresholds : c.from.result * t ≤ 255 * most = mul-le-mul (let few : c.from.result ≤ 255 = omega (arith, c.from.ensures, range) in few) (c.nth_greatest-threshold.ensures.most most small) in
    let few : length c.args.candidates ≤ 64 = (let low = length-increasing 1 most_candidates c.args.candidates c.requires.candidates in omega (arith, low)) in
    let all : length c.args.candidates * most ≤ 64 * most = mul-le-mul few (let same : most ≤ most = omega arith in same) in
    omega (arith, thresholds, all, c.excess.ensures.sum, sum-most (λ n. get_or c.args.worths.now n 0 - t) most c.args.candidates (λ n. omega (arith, small n)))

pub overflow_add-result : goal.overflow_add-result
overflow_add-result c = omega (arith, all-small (goal.at.overflow_add-result c).After-excess (2 ^ 100) c.requires.fits)

pub returns-clause-small : goal.returns-clause-small
returns-clause-small c most small = omega (arith, all-small (goal.at.returns-clause-small c).After-excess most small)
