use Rattle.std.proofs.Common.{◌≡◌, ℕ, ◌+◌, ◌*◌, ◌^◌, ◌≤◌, ◌∙◌, true, cond, [], refl, sym, ap, subst, arith, get_or, length, min, take}
use Rattle.std.proofs.Math.Nat.{mul-le-mul_left}
use Rattle.ballot_base.specs.CandSet.{has_member}
use Rattle.ballot_base.specs.Ballots.{Row, hits}
use Rattle.tie_walk.proofs.RowSums.{length-common}
use Rattle.thiele_bounds.specs.Steps.Paired.{AreTotals}
use Rattle.thiele_bounds.proofs.PairBounds.PairTotals.{hits-both, portion-most, row-up, totals-more, totals-none, voters-more}
use Rattle.row_multipliers.proofs.HitLemmas.{free-common}
use Rattle.row_multipliers.proofs.SearchLemmas.{part-most}
use Rattle.thiele_bounds.proofs.prices.PriceSearch.prices.Goals as goal
use Rattle.thiele_bounds.proofs.prices.PriceSearch.prices.Goals.{After-min-most}

-- hits and free candidates of a ballot
before-is : (g : _) (c : After-min-most g) → c.len-before.result ≡ hits c.row-ballot.result.0 c.args.node.now.set
before-is g c = c.len-before.ensures.count ∙ ap length c.common.ensures ∙ length-common c.row-ballot.result.0 c.args.node.now.set

open-is : (g : _) (c : After-min-most g) → c.len.result ≡ hits c.row-ballot.result.0 c.args.node.now.free
open-is g c = c.len.ensures.count ∙ ap length c.common-approved.ensures ∙ length-common c.row-ballot.result.0 c.args.node.now.free

both-fit : (g : _) (c : After-min-most g) → c.len-before.result + c.len.result ≤ 64
both-fit g c =
    let e = c.profile-profile.result.now in
    omega (
      arith,
      before-is g c,
      open-is g c,
      hits-both e.m c.row-ballot.result.0 c.args.node.now.set c.args.node.now.free (row-up e c.rows-i-end.ensures.valid c.loop-i.i c.row-ballot.result c.row-ballot.ensures) c.rows-i-end.ensures.valid.most (rw c.profile-profile.ensures c.requires.is_node),
    )

fits : (g : _) (c : After-min-most g) → c.len-before.result + c.min-most.result ≤ 64
fits g c = omega (arith, both-fit g c, c.min-most.ensures)

pub multiplier-multiplier-requires : goal.multiplier-multiplier-requires
multiplier-multiplier-requires g c = record {
  fits = omega (arith, both-fit g (goal.at.multiplier-multiplier-requires g c).After-min-most, c.len.ensures.count, c.len-in-loop-i.ensures.count);
}

pub constant-given-requires-clause-fits : goal.constant-given-requires-clause-fits
constant-given-requires-clause-fits g c = fits g (goal.at.constant-given-requires-clause-fits g c).After-min-most

pub loop-i-init : goal.loop-i-init
loop-i-init g c = record {
  totals = λ weights are. totals-none weights c.args.self.now.given.now.scale c.args.self.now.given.now.unit c.profile-profile.result.now.m c.profile-profile.result.now.rows c.args.node.now.set c.args.node.now.free
      c.args.node.now.left 0 c.none-worths.result [] record { constant_none = refl; worths_none = c.none-worths.ensures; overlaps_none = λ i j. refl };
  small_constant = omega arith;
  small_worths = λ n. omega (arith, c.none-worths.ensures n);
}

pub loop-i-preserved : goal.loop-i-preserved
loop-i-preserved g c =
    let self = c.args.self.now in
    let given = self.given.now in
    let e = c.profile-profile.result.now in
    let set = c.args.node.now.set in
    let free = c.args.node.now.free in
    let row : Row = c.row-ballot.result in
    let i = c.loop-i.i in
    let at = c.row-ballot.ensures in
    let inv = c.loop-i.invariant in
    let valid = c.rows-i-end.ensures.valid in
    let approved = c.common-approved.result in
    let multiplier = c.multiplier-multiplier.result in
    let constant = c.constant-given.result.0 in
    let after = (goal.at.loop-i-preserved g c).After-min-most in
    let most : c.min-most.result ≡ min c.args.node.now.left (hits row.0 free) = c.min-most.ensures ∙ ap (min c.args.node.now.left) (open-is g after) in
    let keeps : c.from-count.result * c.from.result ≡ row.1 * constant =
    ap (λ x. x * c.from.result) c.from-count.ensures ∙ ap (λ x. row.1 * x) c.from.ensures in
    let price : c.from-count.result * c.from-in-loop-i.result ≡ row.1 * multiplier =
    ap (λ x. x * c.from-in-loop-i.result) c.from-count.ensures ∙ ap (λ x. row.1 * x) c.from-in-loop-i.ensures in
    let worths : (n : ℕ) → has_member free n ≡ true → get_or c.add_price.new.worths n 0 ≡ get_or c.loop-i.worths n 0 + cond (has_member row.0 n) (row.1 * multiplier) 0 =
    λ n in_. c.add_price.ensures n
    ∙ ap (λ x. get_or c.loop-i.worths n 0 + cond (has_member approved n) x 0) price
    ∙ ap (λ b. get_or c.loop-i.worths n 0 + cond b (row.1 * multiplier) 0) (ap (λ l. has_member l n) c.common-approved.ensures ∙ free-common row.0 free n in_) in
    let small_constant : row.1 * constant ≤ row.1 * 2 ^ 46 = mul-le-mul_left row.1 c.constant-given.ensures.small in
    let small_worth : row.1 * multiplier ≤ row.1 * 2 ^ 46 = mul-le-mul_left row.1 c.multiplier-multiplier.ensures in
    let voters = voters-more e valid i row at in
    record {
      totals = λ weights are. subst (λ n. AreTotals weights given.scale given.unit e.m (take (i + 1) e.rows) set free c.args.node.now.left (c.loop-i.constant + n) c.add_price.new.worths []) (sym keeps)
          (totals-more e valid i row at weights given.sums given.scale given.unit set free c.args.node.now.left c.len-before.result c.min-most.result constant multiplier 0 c.loop-i.constant c.loop-i.worths c.add_price.new.worths [] [] (rw c.profile-profile.ensures c.requires.is_node) are
          (before-is g after) most (λ h few. omega (arith, c.constant-given.ensures.bounds h few)) (inv.totals weights are) worths
          (λ a b here there. omega (arith, portion-most (has_member row.0 a) (has_member row.0 b) (row.1 * 0))));
      small_constant = omega (arith, keeps, small_constant, voters, inv.small_constant);
      small_worths = λ n. omega (
        arith,
        price,
        small_worth,
        voters,
        inv.small_worths n,
        c.add_price.ensures n,
        part-most (has_member approved n) (c.from-count.result * c.from-in-loop-i.result),
      );
    }
