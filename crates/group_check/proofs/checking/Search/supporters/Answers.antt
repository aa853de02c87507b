use Rattle.std.proofs.Common.{◌≡◌, ℕ, List, ◌+◌, ◌&&◌, ◌∙◌, cond, get_or, length, refl, sym, ap, arith}
use Rattle.std.specs.Prelude.{sum_by}
use Rattle.std.proofs.lemmas.List.{length_push}
use Rattle.ballot_base.specs.Ballots.{Row}
use Rattle.ballot_base.specs.CandSet.{has_member}
use Rattle.ballot_base.proofs.Turns.{row_of_turn, all_passed}
use Rattle.group_check.specs.Steps.Refuting.{may_belong}
use Rattle.group_check.proofs.VoterLemmas.{votes_passing, everyone, votes-more, votes-yes, sum-group_of, at-most-all}
use Rattle.group_check.proofs.checking.Search.supporters.Goals as goal

pub loop-ballot-preserved-then-may_belong : goal.loop-ballot-preserved-then-may_belong
loop-ballot-preserved-then-may_belong g c =
    let s = c.args.self.now in
    let rows = s.profile.now.rows in
    let row : Row = (c.in-Some.ballot, c.in-Some.count) in
    let may = may_belong s.property s.committee s.level c.args.choices.now in
    let at = row_of_turn rows (c.into_iter-ballot-iterator.ensures.into_iter_gives ∙ c.ballots-ballot-items.ensures.rows) c.loop-ballot.yielded c.loop-ballot.yielded_by row c.in-Some.ensures.steps in
    record {
      counted = λ n.
          let test = λ (ballot : List ℕ). may ballot && has_member ballot n in
          let votes : votes_passing test row ≡ cond (has_member row.0 n) row.1 0 = ap (λ b. cond (b && has_member row.0 n) row.1 0) (sym c.may_belong.ensures ∙ c.if-may_belong.true) in
          let added = c.add.ensures n ∙ ap (λ x. get_or c.loop-ballot.supporters n 0 + cond (has_member row.0 n) x 0) c.from.ensures in
          rw length_push (omega (arith, votes-more test rows (length c.loop-ballot.yielded) row at, c.loop-ballot.invariant.counted n, votes, added));
      few = λ n.
          let added = c.add.ensures n ∙ ap (λ x. get_or c.loop-ballot.supporters n 0 + cond (has_member row.0 n) x 0) c.from.ensures in
          rw length_push
          (omega (
            arith,
            votes-more everyone rows (length c.loop-ballot.yielded) row at,
            votes-yes everyone row refl,
            c.loop-ballot.invariant.few n,
            added,
            at-most-all (has_member row.0 n) row.1,
          ));
    }

pub loop-ballot-preserved : goal.loop-ballot-preserved
loop-ballot-preserved g c =
    let s = c.args.self.now in
    let rows = s.profile.now.rows in
    let row : Row = (c.in-Some.ballot, c.in-Some.count) in
    let may = may_belong s.property s.committee s.level c.args.choices.now in
    let at = row_of_turn rows (c.into_iter-ballot-iterator.ensures.into_iter_gives ∙ c.ballots-ballot-items.ensures.rows) c.loop-ballot.yielded c.loop-ballot.yielded_by row c.in-Some.ensures.steps in
    record {
      counted = λ n.
          let test = λ (ballot : List ℕ). may ballot && has_member ballot n in
          let votes : votes_passing test row ≡ 0 = ap (λ b. cond (b && has_member row.0 n) row.1 0) (sym c.may_belong.ensures ∙ c.if-may_belong.false) in
          rw length_push (omega (arith, votes-more test rows (length c.loop-ballot.yielded) row at, c.loop-ballot.invariant.counted n, votes));
      few = λ n.
          rw length_push (omega (arith, votes-more everyone rows (length c.loop-ballot.yielded) row at, votes-yes everyone row refl, c.loop-ballot.invariant.few n));
    }

pub returns : goal.returns
returns g c n =
    let s = c.args.self.now in
    let rows = s.profile.now.rows in
    let test = λ (ballot : List ℕ). may_belong s.property s.committee s.level c.args.choices.now ballot && has_member ballot n in
    c.loop-ballot.invariant.counted n
    ∙ ap (sum_by (votes_passing test)) (all_passed rows (c.into_iter-ballot-iterator.ensures.into_iter_gives ∙ c.ballots-ballot-items.ensures.rows) c.loop-ballot.yielded c.loop-ballot.yielded_by c.in-None.ensures.steps.0)
    ∙ sym (sum-group_of test rows)
