use Rattle.std.proofs.Common.{ℕ, ◌+◌, ◌*◌, ◌^◌, ◌<◌, ◌≤◌, ◌∙◌, cond, ap, sym, subst, arith, length, slice_index}
use Rattle.std.proofs.Math.Nat.{mul-le-mul}
use Rattle.ballot_base.specs.CandSet.{has_member}
use Rattle.ballot_base.specs.Ballots.{Row}
use Rattle.ballot_base.specs.Limits.{most_candidates}
use Rattle.ballot_base.proofs.Increasing.{IsIncreasing-higher}
use Rattle.tie_walk.proofs.Distances.{ballot-found}
use Rattle.row_multipliers.proofs.HitLemmas.{free-common}
use Rattle.row_multipliers.proofs.SearchLemmas.{part-most}
use Rattle.minimax_search.proofs.WeightedNeeds.{AreNeeds, rows-few-enough, weighted-more, weighted-paid}
use Rattle.minimax_search.proofs.weights.NeedSearch.constraint.Goals as goal
use Rattle.minimax_search.proofs.weights.NeedSearch.constraint.Goals.{then-needed-gt0+then-weight-gt0, then-needed-gt0+else-weight-gt0, else-needed-gt0}

pub still_needed-needed-requires : goal.still_needed-needed-requires
still_needed-needed-requires g c =
    let e = c.args.self.now.profile.now in
    let valid = c.rows-rows.ensures.valid in
    record {
      ballot = IsIncreasing-higher 1 e.m most_candidates c.row-ballot.result.0 valid.most (ballot-found e.m e.rows c.row.result c.row-ballot.result valid.ballots c.row-ballot.ensures);
      set = IsIncreasing-higher 1 e.m most_candidates c.args.node.now.set valid.most c.requires.is_node.set_within;
    }

-- what a ballot adds to the whole
product-most : (weight needed : ℕ) → weight ≤ 2 ^ 62 → needed ≤ 255 → weight * needed ≤ 2 ^ 70
product-most weight needed small few =
    let most : weight * needed ≤ 2 ^ 62 * 255 = mul-le-mul small few in
    omega (arith, most)

pub overflow_add-needs : goal.overflow_add-needs
overflow_add-needs g c =
    let inv = c.loop-place.invariant in
    let turn : c.loop-place.place < 2 ^ 32 = omega (arith, c.loop-place-test.true, c.min-place-end.ensures, c.rows-rows.ensures.value, rows-few-enough c.args.self.now.profile.now c.rows-rows.ensures.valid) in
    let needed : c.from.result ≤ 255 = omega (arith, c.from.ensures) in
    let most = product-most c.from-weight.result c.from.result (omega (arith, c.from-weight.ensures, c.weight-then-needed-gt0.ensures)) needed in
    omega (arith, most, inv.small_total, turn)

pub add-requires : goal.add-requires
add-requires g c =
    let inv = c.loop-place.invariant in
    let turn : c.loop-place.place < 2 ^ 32 = omega (arith, c.loop-place-test.true, c.min-place-end.ensures, c.rows-rows.ensures.value, rows-few-enough c.args.self.now.profile.now c.rows-rows.ensures.valid) in
    record { fits = λ n. omega (arith, inv.small n, turn, c.from-weight.ensures, c.weight-then-needed-gt0.ensures) }

pub loop-place-preserved : goal.loop-place-preserved
loop-place-preserved g c =
    let search = c.args.self.now in
    let e = search.profile.now in
    let node = c.args.node.now in
    let k = length node.set + node.left in
    let before = c.loop-place.needs in
    let row : Row = c.row-ballot.result in
    let inv = c.loop-place.invariant in
    let AreSoFar = AreNeeds e search.most node (c.loop-place.place + 1) in
    elim c.if-needed-gt0.branch [
      | then-needed-gt0+then-weight-gt0 w ↦
          let few : w.from.result ≤ 255 = omega (arith, w.from.ensures) in
          let slight : w.from-weight.result ≤ 2 ^ 62 = omega (arith, w.from-weight.ensures, w.weight-then-needed-gt0.ensures) in
          let added = product-most w.from-weight.result w.from.result slight few in
          subst AreSoFar (sym w.needs-is) record {
            unpaid = inv.unpaid;
            weighted =
                weighted-more e k search.most node.set node.free before.due (before.due + w.from-weight.result * w.from.result) w.from-weight.result w.from.result before.worths w.add.new.self c.row.result row
                c.rows-rows.ensures.valid.ballots c.row-ballot.ensures (omega (arith, w.from.ensures, c.still_needed-needed.ensures)) inv.weighted (omega arith)
                (λ n is. w.add.ensures n
                ∙ ap (λ l. slice_index before.worths n + cond (has_member l n) w.from-weight.result 0) w.common-approved.ensures
                ∙ ap (λ b. slice_index before.worths n + cond b w.from-weight.result 0) (free-common row.0 node.free n is));
            small_total = omega (arith, added, inv.small_total);
            small = λ n. omega (arith, slight, inv.small n, w.add.ensures n, part-most (has_member w.common-approved.result n) w.from-weight.result);
          }
      | then-needed-gt0+else-weight-gt0 w ↦ subst AreSoFar (sym w.needs-is) record {
        unpaid = inv.unpaid;
        weighted = inv.weighted;
        small_total = omega (arith, inv.small_total);
        small = λ n. omega (arith, inv.small n);
      }
      | else-needed-gt0 w ↦ subst AreSoFar (sym w.needs-is) record {
        unpaid = inv.unpaid;
        weighted = inv.weighted;
        small_total = omega (arith, inv.small_total);
        small = λ n. omega (arith, inv.small n);
      }
    ]

pub returns-clause-constraint : goal.returns-clause-constraint
returns-clause-constraint g c committee whole reaches =
    let search = c.args.self.now in
    let node = c.args.node.now in
    let needs = c.loop-place.needs in
    let paid = weighted-paid search.profile.now search.most node.set node.free node.left needs.due needs.worths c.rows-rows.ensures.valid.ballots c.requires.is_node c.loop-place.invariant.weighted committee whole reaches in
    omega (arith, paid)
