use Rattle.std.proofs.Common.{◌≡◌, ℕ, ◌+◌, ◌-◌, ◌*◌, ◌≤◌, ap, arith, get_or, length, sum_by}
use Rattle.std.proofs.Math.Nat.{mul-le-mul_left}
use Rattle.ballot_base.specs.CandSet.{common_members}
use Rattle.tie_walk.specs.Values.{tally_value}
use Rattle.row_multipliers.proofs.NarrowedLemmas.{narrowed-members}
use Rattle.thiele_bounds.proofs.PairBounds.PairLemmas.{sum-less}
use Rattle.thiele_bounds.proofs.PriceBounds.{all-completed, all-members}
use Rattle.thiele_bounds.proofs.prices.Priced.narrowed.Goals as goal

pub returns : goal.returns
returns g c tally are most is_node =
    let m = tally.election.m in
    let node = c.args.node.now in
    let priced = c.args.self.now in
    let worth : ℕ → ℕ = λ n. get_or priced.whole.worths n 0 in
    narrowed-members (tally_value tally) m node.set node.free node.left c.args.least worth c.saturating_sub-due.result most is_node
    (λ committee whole reaches.
    let size : length node.set + node.left ≡ tally.k = omega (arith, are.k_is, c.if-from.false, c.from.ensures, c.from-2.ensures, c.from-3.ensures, c.len.ensures.count) in
    let value : priced.given.scale * c.args.least ≤ priced.given.scale * tally_value tally committee = mul-le-mul_left priced.given.scale reaches in
    let bound = are.totals committee (all-completed m tally.k node.set node.free node.left committee is_node whole size) in
    let members = all-members m tally.k node.set node.free node.left committee is_node whole worth size in
    omega (
      arith,
      c.saturating_sub-due.ensures,
      c.saturating_add-paid.ensures,
      c.units.ensures (priced.whole.constant + sum_by worth node.set + sum_by worth (common_members node.free committee)) (omega (arith, value, bound, ap (λ n. priced.given.unit * (priced.whole.constant + n)) members)),
      sum-less worth (λ n. get_or priced.whole.worths n 0 - 0) node.set (λ n here. omega arith),
      c.excess.ensures.sum,
    ))
    c.members_for.result c.members_for.ensures
