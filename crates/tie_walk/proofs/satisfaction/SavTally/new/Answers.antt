use Rattle.std.proofs.Common.{◌≡◌, ℕ, ◌+◌, ◌-◌, ◌*◌, ◌^◌, ◌≤◌, ◌∙◌, Some, ap, arith, length, slice_get, take, get_or, sum_by}
use Rattle.std.proofs.lemmas.List.{length_push}
use Rattle.ballot_base.specs.Limits.{most_score}
use Rattle.ballot_base.specs.Ballots.{Row}
use Rattle.ballot_base.specs.CommonMultiple.{common_multiple}
use Rattle.ballot_base.proofs.Turns.{row_of_turn, all_passed}
use Rattle.tie_walk.specs.Steps.Tables.{parts, score}
use Rattle.tie_walk.proofs.Gains.{given, score-whole, score-more, score-fits}
use Rattle.tie_walk.proofs.RowSums.{parts-bound}
use Rattle.tie_walk.proofs.TightLemmas.{satisfaction-tight}
use Rattle.tie_walk.proofs.satisfaction.SavTally.new.Goals as goal
use Rattle.tie_walk.proofs.satisfaction.SavTally.new.Goals.{In-Some, After-from-in-loop-ballot}

-- no share is large
small : (g : _) (c : In-Some g) (n : ℕ) → get_or c.parts-shares.result n 0 ≤ 2 ^ 90 - 1
small g c n =
    let is = c.parts-shares.ensures ∙ ap parts (c.common_multiple.ensures ∙ ap common_multiple c.m.ensures.value) in
    omega (arith, parts-bound c.args.profile.now.m c.parts-shares.result n c.m.ensures.valid.most is)

-- the row of this turn
found : (g : _) (c : In-Some g) → slice_get c.args.profile.now.rows (length c.loop-ballot.yielded) ≡ Some (c.in-Some.ballot, c.in-Some.voters)
found g c =
    row_of_turn c.args.profile.now.rows (c.into_iter-ballot-iterator.ensures.into_iter_gives ∙ c.ballots-ballot-items.ensures.rows) c.loop-ballot.yielded c.loop-ballot.yielded_by
    (c.in-Some.ballot, c.in-Some.voters) c.in-Some.ensures.steps

-- the scores so far and what the voters of the row give
fits : (g : _) (c : In-Some g) (n : ℕ) → sum_by (λ (r : Row). r.1 * given c.parts-shares.result n r) (take (length c.loop-ballot.yielded) c.args.profile.now.rows)
    + c.in-Some.voters * get_or c.parts-shares.result (length c.in-Some.ballot) 0 ≤ most_score
fits g c n =
    score-fits c.parts-shares.result n (small g c) c.args.profile.now (length c.loop-ballot.yielded) (c.in-Some.ballot, c.in-Some.voters) c.ballots-ballot-items.ensures.valid (found g c)

product : (g : _) (c : After-from-in-loop-ballot g) → c.from-in-loop-ballot.result * get_or c.parts-shares.result c.from.result 0 ≡ c.in-Some.voters * get_or c.parts-shares.result (length c.in-Some.ballot) 0
product g c = rw (c.from-in-loop-ballot.ensures, c.from.ensures, c.len.ensures.count)

pub overflow_mul-from : goal.overflow_mul-from
overflow_mul-from g c =
    let at = goal.at.overflow_mul-from g c in
    omega (arith, product g at.After-from-in-loop-ballot, fits g at.In-Some 0)

pub add-requires : goal.add-requires
add-requires g c =
    let at = goal.at.add-requires g c in
    record { fits = λ n. omega (arith, c.loop-ballot.invariant n, product g at.After-from-in-loop-ballot, fits g at.In-Some n) }

pub loop-ballot-preserved : goal.loop-ballot-preserved
loop-ballot-preserved g c n =
    let at = goal.at.loop-ballot-preserved g c in
    let row : Row = (c.in-Some.ballot, c.in-Some.voters) in
    c.add.ensures n
    ∙ rw (product g at.After-from-in-loop-ballot, c.loop-ballot.invariant n, length_push c.loop-ballot.yielded row, score-more c.parts-shares.result n (small g at.In-Some) c.args.profile.now.rows (length c.loop-ballot.yielded) row (found g at.In-Some))

pub invariant_of-result : goal.invariant_of-result
invariant_of-result g c =
    let rows = c.args.profile.now.rows in
    let is = c.parts-shares.ensures ∙ ap parts (c.common_multiple.ensures ∙ ap common_multiple c.m.ensures.value) in
    record {
      election = c.m.ensures.valid;
      scores_are = λ n.
          c.loop-ballot.invariant n
          ∙ ap (sum_by (λ (r : Row). r.1 * given c.parts-shares.result n r)) (all_passed rows (c.into_iter-ballot-iterator.ensures.into_iter_gives ∙ c.ballots-ballot-items.ensures.rows) c.loop-ballot.yielded c.loop-ballot.yielded_by c.in-None.ensures.steps.0)
          ∙ score-whole c.parts-shares.result rows n ∙ ap (λ shares. score shares rows n) is;
    }

pub returns-clause-tight : goal.returns-clause-tight
returns-clause-tight g c k = satisfaction-tight c.args.profile.now k c.m.ensures.valid
