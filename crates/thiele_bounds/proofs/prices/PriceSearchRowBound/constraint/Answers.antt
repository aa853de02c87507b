use Rattle.std.proofs.Common.{◌+◌, ◌*◌, ◌≤◌, arith, slice_index, sum_by}
use Rattle.std.proofs.Math.Nat.{mul-le-mul_left}
use Rattle.ballot_base.specs.CandSet.{common_members}
use Rattle.ballot_base.specs.Increments.{increments}
use Rattle.tie_walk.specs.Values.{tally_value}
use Rattle.thiele_bounds.proofs.prices.PriceSearchRowBound.constraint.Goals as goal

pub returns-clause-constraint : goal.returns-clause-constraint
returns-clause-constraint g c committee whole reaches =
    let self = c.args.self.now in
    let tally = self.tally.now in
    let given = self.given.now in
    let prices = c.prices-constant.result in
    let value : given.scale * self.least ≤ given.scale * tally_value tally committee = mul-le-mul_left given.scale reaches in
    let bound = c.prices-constant.ensures.totals (increments tally.rule tally.k) self.sums committee whole in
    c.units.ensures (prices.constant + sum_by (slice_index prices.worths) (common_members c.args.node.now.free committee)) (omega (arith, value, bound))
