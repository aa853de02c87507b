use Rattle.std.proofs.Common.{◌-◌, ◌≡◌, refl, arith, slice_index}
use Rattle.tie_walk.specs.Values.{closeness}
use Rattle.row_multipliers.specs.Steps.Constraints.{IsConstraint}
use Rattle.row_multipliers.specs.Steps.Narrowed.{IsNarrowed, Narrows}
use Rattle.row_multipliers.proofs.NarrowedLemmas.{narrowed-more, narrowed-out}
use Rattle.minimax_search.proofs.WeightedNeeds.{paid-fewer}
use Rattle.minimax_search.proofs.search.MinimaxSearchNarrowing.plan.Goals as goal
use Rattle.minimax_search.proofs.search.MinimaxSearchNarrowing.plan.Goals.{After-eligible}

-- the distance is for the value that is looked for
least-is : (g : _) (c : After-eligible g) → c.args.self.now.m - (c.m-m.result - c.args.least) ≡ c.args.least
least-is g c = omega (arith, c.m-m.ensures.value, c.from.ensures, c.if-least-from.false)

-- the free candidates that can still join by the needs of each ballot, and by weights that are moved
first : (g : _) (c : After-eligible g)
    → IsNarrowed (closeness c.args.self.now.m c.args.self.now.rows) c.args.self.now.m c.args.node.now.set c.args.node.now.free c.args.node.now.left c.args.least c.in_ok-free.free
first g c =
    let e = c.args.self.now in
    let node = c.args.node.now in
    let most = c.m-m.result - c.args.least in
    rw (least-is g c) at (narrowed-more (closeness e.m e.rows) e.m node.set node.free c.in_ok-choices.free node.left (e.m - most) c.in_ok-choices.ensures.1 c.in_ok-free.free
    (rw c.self.view_is at c.in_ok-free.ensures))

-- what the weighted needs say of these
pays : (g : _) (c : After-eligible g) → IsConstraint (closeness c.args.self.now.m c.args.self.now.rows) c.args.self.now.m record { set = c.args.node.now.set; free = c.in_ok-free.free; left = c.args.node.now.left } c.args.least c.constraint-needs.result
pays g c = rw (least-is g c) at (rw c.self.view_is at c.constraint-needs.ensures.constraint)

second : (g : _) (c : After-eligible g) → Narrows (closeness c.args.self.now.m c.args.self.now.rows) c.args.self.now.m record { set = c.args.node.now.set; free = c.in_ok-free.free; left = c.args.node.now.left } c.args.least c.eligible.result
second g c =
    let e = c.args.self.now in
    c.eligible.ensures (closeness e.m e.rows) e.m c.args.least (rw c.self.view_is at c.self.invariant.0).most (first g c).is_node (pays g c)

pub returns-in_err-eligible : goal.returns-in_err-eligible
returns-in_err-eligible g c =
    let e = c.args.self.now in
    let node = c.args.node.now in
    let at = (goal.at.returns-in_err-eligible g c).After-eligible in
    rw c.from_residual-in_err-eligible.ensures (narrowed-out (closeness e.m e.rows) e.m node.set node.free c.in_ok-free.free node.left c.args.least (first g at) (rw c.in_err-eligible.was at (second g at)))

pub returns : goal.returns
returns g c =
    let e = c.args.self.now in
    let V = closeness e.m e.rows in
    let node = c.args.node.now in
    let at = (goal.at.returns g c).After-eligible in
    let free = c.in_ok-free.free in
    let needs = c.constraint-needs.result in
    let kept = c.in_ok-eligible.field-0 in
    let fewer : IsNarrowed V e.m node.set free node.left c.args.least kept = rw c.in_ok-eligible.was at (second g at) in (
      narrowed-more V e.m node.set node.free free node.left c.args.least (first g at) kept fewer,
      rw (least-is g at) at c.in_ok-choices.ensures.0,
      record {
        valid = rw c.self.view_is at c.self.invariant.0;
        is_node = fewer.is_node;
        pays = paid-fewer V e.m node.set free kept node.left c.args.least c.saturating_sub.result (slice_index needs.worths) (first g at).is_node fewer.is_node fewer.among
            (λ committee whole reaches. omega (arith, c.saturating_sub.ensures, pays g at committee whole reaches));
      },
      refl,
    )
