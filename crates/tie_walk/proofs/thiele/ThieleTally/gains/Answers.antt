use Rattle.std.proofs.lemmas.Grind.{common_steps}
use Rattle.std.proofs.Common.{◌≡◌, ℕ, ◌+◌, ◌*◌, ◌^◌, ◌≤◌, ◌∙◌, List, Some, cond, refl, sym, subst, ap, arith, length, slice_get, take, get_or}
use Rattle.std.proofs.lemmas.List.{length_push}
use Rattle.ballot_base.specs.Limits.{most_members, most_increments}
use Rattle.ballot_base.specs.CandSet.{has_member}
use Rattle.ballot_base.specs.Ballots.{Row, IsElection, hits}
use Rattle.ballot_base.specs.Increments.{increments}
use Rattle.ballot_base.proofs.Increasing.{has_member-filter}
use Rattle.ballot_base.proofs.Turns.{row_of_turn, all_passed}
use Rattle.tie_walk.specs.Sequences.{gain, weight}
use Rattle.tie_walk.specs.Values.{Thiele}
use Rattle.tie_walk.specs.declared.sequential.Step.TheVariants.{Grow}
use Rattle.tie_walk.proofs.Gains.{gain-most, weights-small}
use Rattle.tie_walk.proofs.RowSums.{length-common}
use Rattle.tie_walk.proofs.WorthLemmas.{partial, partial-more, partial-fits, part-most, worth-whole, not_wanted, wanted-step}
use Rattle.tie_walk.proofs.thiele.ThieleTally.gains.Goals as goal
use Rattle.tie_walk.proofs.thiele.ThieleTally.gains.Goals.{In-Some, In-None, After-weight}

-- the increments of a tally
abbrev weights_of : Thiele → List ℕ
weights_of t = increments t.rule t.k

-- the row of this turn
found : (g : _) (c : In-Some g) → slice_get c.args.self.now.election.rows (length c.loop-ballot.yielded) ≡ Some (c.in-Some.ballot, c.in-Some.voters)
found g c =
    row_of_turn c.args.self.now.election.rows (c.into_iter-ballot-iterator.ensures.into_iter_gives ∙ c.ballots-ballot-items.ensures.rows ∙ ap (λ (x : Thiele). x.election.rows) c.self.view_is)
    c.loop-ballot.yielded c.loop-ballot.yielded_by (c.in-Some.ballot, c.in-Some.voters) c.in-Some.ensures.steps

-- the gains so far and what the voters of the row give
fits : (g : _) (c : In-Some g) (n : ℕ) → partial Grow (weights_of c.args.self.now) c.args.set n (take (length c.loop-ballot.yielded) c.args.self.now.election.rows)
    + c.in-Some.voters * weight (weights_of c.args.self.now) (hits c.in-Some.ballot c.args.set + 1) ≤ 2 ^ 32 * most_increments
fits g c n =
    let t : Thiele = c.args.self.now in
    let valid : IsElection t.election = subst (λ (x : Thiele). IsElection x.election) c.self.view_is c.self.invariant.election in
    let few : t.k ≤ most_members = subst (λ (x : Thiele). x.k ≤ most_members) c.self.view_is c.self.invariant.size in
    partial-fits Grow (weights_of t) c.args.set t.election most_increments (length c.loop-ballot.yielded) n (c.in-Some.ballot, c.in-Some.voters) valid
    (λ j. weights-small t.rule t.k (weights_of t) j few refl) (found g c)

given : (g : _) (c : After-weight g) → c.from.result * c.weight.result ≡ c.in-Some.voters * weight (weights_of c.args.self.now) (hits c.in-Some.ballot c.args.set + 1)
given g c =
    let same : c.len-hits.result ≡ hits c.in-Some.ballot c.args.set = c.len-hits.ensures.count ∙ ap length c.common.ensures ∙ length-common c.in-Some.ballot c.args.set in
    let weights : c.self.inside.weights ≡ weights_of c.args.self.now = c.self.invariant.weights_are ∙ ap weights_of c.self.view_is in
    rw (c.from.ensures, c.weight.ensures, weights, same)

pub loop-ballot-init : goal.loop-ballot-init
loop-ballot-init g c n = c.none-gains.ensures n ∙ sym (not_wanted (has_member c.args.others n) 0 refl)

pub overflow_mul-given : goal.overflow_mul-given
overflow_mul-given g c =
    let at = goal.at.overflow_mul-given g c in
    omega (arith, given g at.After-weight, fits g at.In-Some 0)

pub add-requires : goal.add-requires
add-requires g c =
    let at = goal.at.add-requires g c in
    record { fits = λ n. grind (arith, common_steps, given g at.After-weight, fits g at.In-Some n, c.loop-ballot.invariant n, part-most) }

pub loop-ballot-preserved-then-given-gt0 : goal.loop-ballot-preserved-then-given-gt0
loop-ballot-preserved-then-given-gt0 g c n =
    let at = goal.at.loop-ballot-preserved-then-given-gt0 g c in
    let t : Thiele = c.args.self.now in
    let row : Row = (c.in-Some.ballot, c.in-Some.voters) in
    let passed = length c.loop-ballot.yielded in
    c.add.ensures n
    ∙ rw (given g at.After-weight, c.loop-ballot.invariant n, c.common-then-given-gt0.ensures, has_member-filter (has_member c.args.others) row.0 n, length_push c.loop-ballot.yielded row, partial-more Grow (weights_of t) c.args.set t.election.rows passed n row (found g at.In-Some))
    (wanted-step (has_member c.args.others n) (has_member row.0 n) (partial Grow (weights_of t) c.args.set n (take passed t.election.rows)) (row.1 * weight (weights_of t) (hits row.0 c.args.set + 1)))

pub loop-ballot-preserved : goal.loop-ballot-preserved
loop-ballot-preserved g c n =
    let at = goal.at.loop-ballot-preserved g c in
    let t : Thiele = c.args.self.now in
    let row : Row = (c.in-Some.ballot, c.in-Some.voters) in
    let passed = length c.loop-ballot.yielded in
    let more : ℕ = row.1 * weight (weights_of t) (hits row.0 c.args.set + 1) in
    let none : more ≡ 0 = omega (arith, given g at.After-weight, c.if-given-gt0.false) in
    rw (length_push c.loop-ballot.yielded row, partial-more Grow (weights_of t) c.args.set t.election.rows passed n row (found g at.In-Some), not_wanted (has_member row.0 n) more none)
    (c.loop-ballot.invariant n ∙ ap (λ k. cond (has_member c.args.others n) k 0) (omega arith))

-- at the end the whole gains stand
whole : (g : _) (c : In-None g) (n : ℕ) → get_or c.loop-ballot.gains n 0 ≡ cond (has_member c.args.others n) (gain (weights_of c.args.self.now) c.args.self.now.election.rows c.args.set n) 0
whole g c n =
    let t : Thiele = c.args.self.now in
    let all = all_passed t.election.rows (c.into_iter-ballot-iterator.ensures.into_iter_gives ∙ c.ballots-ballot-items.ensures.rows ∙ ap (λ (x : Thiele). x.election.rows) c.self.view_is) c.loop-ballot.yielded c.loop-ballot.yielded_by c.in-None.ensures.steps.0 in
    c.loop-ballot.invariant n ∙ ap (λ k. cond (has_member c.args.others n) k 0) (ap (partial Grow (weights_of t) c.args.set n) all ∙ worth-whole Grow (weights_of t) t.election.rows c.args.set n)

pub returns-clause-gains : goal.returns-clause-gains
returns-clause-gains g c n other =
    whole g (goal.at.returns-clause-gains g c).In-None n
    ∙ ap (λ b. cond b (gain (weights_of c.args.self.now) c.args.self.now.election.rows c.args.set n) 0) other

pub returns-clause-small : goal.returns-clause-small
returns-clause-small g c n =
    let t : Thiele = c.args.self.now in
    let valid : IsElection t.election = subst (λ (x : Thiele). IsElection x.election) c.self.view_is c.self.invariant.election in
    let few : t.k ≤ most_members = subst (λ (x : Thiele). x.k ≤ most_members) c.self.view_is c.self.invariant.size in
    omega (
      arith,
      whole g (goal.at.returns-clause-small g c).In-None n,
      part-most (has_member c.args.others n) (gain (weights_of t) t.election.rows c.args.set n),
      gain-most t.election (weights_of t) c.args.set n most_increments valid (λ j. weights-small t.rule t.k (weights_of t) j few refl),
    )
