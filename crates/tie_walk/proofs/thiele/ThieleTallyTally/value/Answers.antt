use Rattle.std.proofs.lemmas.Grind.{common_steps}
use Rattle.std.proofs.Common.{◌≡◌, ℕ, ◌+◌, ◌*◌, ◌^◌, ◌≤◌, ◌∙◌, List, Some, subst, ap, arith, length, slice_get, take, get_or, sum, sum_by}
use Rattle.std.proofs.lemmas.List.{length_push}
use Rattle.ballot_base.specs.Limits.{most_members, most_increments}
use Rattle.ballot_base.specs.Ballots.{Row, IsElection, hits}
use Rattle.ballot_base.specs.Increments.{increments}
use Rattle.ballot_base.proofs.Turns.{row_of_turn, all_passed}
use Rattle.tie_walk.specs.Values.{Thiele}
use Rattle.tie_walk.proofs.RowSums.{length-common, rows-bound, rows-more}
use Rattle.tie_walk.proofs.TableLemmas.{prefix_sums-at, sum-take-le, increments_sum-most}
use Rattle.tie_walk.proofs.thiele.ThieleTallyTally.value.Goals as goal
use Rattle.tie_walk.proofs.thiele.ThieleTallyTally.value.Goals.{In-Some, After-from-in-loop-ballot}

-- what one of these voters gives
abbrev worth : Thiele → List ℕ → Row → ℕ
worth t set row = sum (take (hits row.0 set) (increments t.rule t.k))

-- the row of this turn
found : (g : _) (c : In-Some g) → slice_get c.args.self.now.election.rows (length c.loop-ballot.yielded) ≡ Some (c.in-Some.ballot, c.in-Some.voters)
found g c =
    row_of_turn c.args.self.now.election.rows (c.into_iter-ballot-iterator.ensures.into_iter_gives ∙ c.ballots-ballot-items.ensures.rows ∙ ap (λ (x : Thiele). x.election.rows) c.self.view_is)
    c.loop-ballot.yielded c.loop-ballot.yielded_by (c.in-Some.ballot, c.in-Some.voters) c.in-Some.ensures.steps

-- the sum so far and what the voters of the row give
fits : (g : _) (c : In-Some g) → sum_by (λ (r : Row). r.1 * worth c.args.self.now c.args.set r) (take (length c.loop-ballot.yielded) c.args.self.now.election.rows)
    + c.in-Some.voters * worth c.args.self.now c.args.set (c.in-Some.ballot, c.in-Some.voters) ≤ 2 ^ 32 * most_increments
fits g c =
    let t : Thiele = c.args.self.now in
    let valid : IsElection t.election = subst (λ (x : Thiele). IsElection x.election) c.self.view_is c.self.invariant.election in
    let few : t.k ≤ most_members = subst (λ (x : Thiele). x.k ≤ most_members) c.self.view_is c.self.invariant.size in
    rows-bound (worth t c.args.set) (worth t c.args.set) (λ r. omega arith) t.election most_increments (length c.loop-ballot.yielded) (c.in-Some.ballot, c.in-Some.voters) valid
    (λ r up. omega (arith, sum-take-le (increments t.rule t.k) (hits r.0 c.args.set), increments_sum-most t.rule t.k few)) (found g c)

given : (g : _) (c : After-from-in-loop-ballot g) → c.from.result * get_or c.self.inside.sums c.from-in-loop-ballot.result 0
    ≡ c.in-Some.voters * worth c.args.self.now c.args.set (c.in-Some.ballot, c.in-Some.voters)
given g c = grind (arith, common_steps, length-common, prefix_sums-at)

pub overflow_mul-value : goal.overflow_mul-value
overflow_mul-value g c =
    let at = goal.at.overflow_mul-value g c in
    omega (arith, given g at.After-from-in-loop-ballot, fits g at.In-Some)

pub overflow_add-value : goal.overflow_add-value
overflow_add-value g c =
    let at = goal.at.overflow_add-value g c in
    omega (arith, given g at.After-from-in-loop-ballot, fits g at.In-Some, c.loop-ballot.invariant)

pub loop-ballot-preserved : goal.loop-ballot-preserved
loop-ballot-preserved g c =
    let at = goal.at.loop-ballot-preserved g c in
    let row : Row = (c.in-Some.ballot, c.in-Some.voters) in
    rw (length_push c.loop-ballot.yielded row, rows-more (worth c.args.self.now c.args.set) c.args.self.now.election.rows (length c.loop-ballot.yielded) row (found g at.In-Some))
    (omega (arith, given g at.After-from-in-loop-ballot, c.loop-ballot.invariant))

pub returns : goal.returns
returns g c =
    c.loop-ballot.invariant
    ∙ ap (sum_by (λ (r : Row). r.1 * worth c.args.self.now c.args.set r)) (all_passed c.args.self.now.election.rows (c.into_iter-ballot-iterator.ensures.into_iter_gives ∙ c.ballots-ballot-items.ensures.rows ∙ ap (λ (x : Thiele). x.election.rows) c.self.view_is) c.loop-ballot.yielded c.loop-ballot.yielded_by c.in-None.ensures.steps.0)
