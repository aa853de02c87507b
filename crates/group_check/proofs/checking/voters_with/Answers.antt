use Rattle.std.proofs.Common.{length, refl, sym, ap, ◌∙◌, arith}
use Rattle.std.specs.Prelude.{sum_by}
use Rattle.std.proofs.lemmas.List.{length_push}
use Rattle.std.proofs.lemmas.List.Sums.{sum_by-take-le}
use Rattle.ballot_base.specs.Ballots.{Row}
use Rattle.ballot_base.proofs.Turns.{row_of_turn, all_passed}
use Rattle.group_check.proofs.VoterLemmas.{votes_passing, everyone, votes-more, votes-bound, votes-yes, votes-none, sum-votes-le, sum-group_of}
use Rattle.group_check.proofs.checking.voters_with.Goals as goal

pub loop-ballot-init : goal.loop-ballot-init
loop-ballot-init g c = record { counted = λ test is. refl; few = omega arith }

pub overflow_add-voters : goal.overflow_add-voters
overflow_add-voters g c =
    let row : Row = (c.in-Some.ballot, c.in-Some.count) in
    let at = row_of_turn c.args.profile.now.rows (c.into_iter-ballot-iterator.ensures.into_iter_gives ∙ c.ballots-ballot-items.ensures.rows) c.loop-ballot.yielded c.loop-ballot.yielded_by row c.in-Some.ensures.steps in
    let bound = votes-bound everyone c.args.profile.now (length c.loop-ballot.yielded) row c.ballots-ballot-items.ensures.valid at in
    omega (arith, bound, votes-yes everyone row refl, c.loop-ballot.invariant.few)

pub loop-ballot-preserved-then-passes : goal.loop-ballot-preserved-then-passes
loop-ballot-preserved-then-passes g c =
    let rows = c.args.profile.now.rows in
    let n = length c.loop-ballot.yielded in
    let row : Row = (c.in-Some.ballot, c.in-Some.count) in
    let at = row_of_turn rows (c.into_iter-ballot-iterator.ensures.into_iter_gives ∙ c.ballots-ballot-items.ensures.rows) c.loop-ballot.yielded c.loop-ballot.yielded_by row c.in-Some.ensures.steps in
    record {
      counted = λ test is.
          let passed = votes-yes test row (sym (is row.0 c.passes.result c.passes.ensures) ∙ c.if-passes.true) in
          rw length_push (omega (arith, votes-more test rows n row at, c.loop-ballot.invariant.counted test is, passed));
      few = rw length_push (omega (arith, votes-more everyone rows n row at, votes-yes everyone row refl, c.loop-ballot.invariant.few));
    }

pub loop-ballot-preserved : goal.loop-ballot-preserved
loop-ballot-preserved g c =
    let rows = c.args.profile.now.rows in
    let n = length c.loop-ballot.yielded in
    let row : Row = (c.in-Some.ballot, c.in-Some.count) in
    let at = row_of_turn rows (c.into_iter-ballot-iterator.ensures.into_iter_gives ∙ c.ballots-ballot-items.ensures.rows) c.loop-ballot.yielded c.loop-ballot.yielded_by row c.in-Some.ensures.steps in
    record {
      counted = λ test is.
          let failed = votes-none test row (sym (is row.0 c.passes.result c.passes.ensures) ∙ c.if-passes.false) in
          rw length_push (omega (arith, votes-more test rows n row at, c.loop-ballot.invariant.counted test is, failed));
      few = rw length_push (omega (arith, votes-more everyone rows n row at, votes-yes everyone row refl, c.loop-ballot.invariant.few));
    }

pub returns-clause-group : goal.returns-clause-group
returns-clause-group g c = λ test is.
    let rows = c.args.profile.now.rows in
    c.loop-ballot.invariant.counted test is ∙ ap (sum_by (votes_passing test)) (all_passed rows (c.into_iter-ballot-iterator.ensures.into_iter_gives ∙ c.ballots-ballot-items.ensures.rows) c.loop-ballot.yielded c.loop-ballot.yielded_by c.in-None.ensures.steps.0) ∙ sym (sum-group_of test rows)

pub returns-clause-most : goal.returns-clause-most
returns-clause-most g c =
    omega (arith, c.loop-ballot.invariant.few, sum_by-take-le (votes_passing everyone) c.args.profile.now.rows (length c.loop-ballot.yielded), sum-votes-le everyone c.args.profile.now.rows, c.ballots-ballot-items.ensures.valid.voters)
