use Rattle.std.proofs.Common.{◌≡◌, ℕ, ◌*◌, ◌/◌, ◌^◌, ◌&&◌, ◌∙◌, cond, length, refl, sym, ap, arith}
use Rattle.std.specs.Prelude.{sum_by}
use Rattle.std.proofs.lemmas.List.{length_push}
use Rattle.ballot_base.specs.Ballots.{Row}
use Rattle.ballot_base.specs.CandSet.{has_member}
use Rattle.ballot_base.proofs.Turns.{row_of_turn, all_passed}
use Rattle.group_check.specs.Steps.Refuting.{may_belong, obstacles, charge}
use Rattle.group_check.proofs.ChargeLemmas.{part-of-all, no-member}
use Rattle.group_check.proofs.VoterLemmas.{everyone, votes-more, votes-yes, sum-more, at-most-all}
use Rattle.group_check.proofs.checking.Search.charges.Goals as goal
use Rattle.group_check.proofs.checking.Search.charges.Goals.{else-size-gt0-via-then-size-gt0+else-may_belong, else-size-gt0-via-else-size-gt0}

pub loop-ballot-preserved-then-may_belong : goal.loop-ballot-preserved-then-may_belong
loop-ballot-preserved-then-may_belong g c =
    let s = c.args.self.now in
    let rows = s.profile.now.rows in
    let row : Row = (c.in-Some.ballot, c.in-Some.count) in
    let against = obstacles c.args.agreement.now row.0 in
    let share = row.1 * 2 ^ 20 / length against in
    let at = row_of_turn rows (c.into_iter-ballot-iterator.ensures.into_iter_gives ∙ c.ballots-ballot-items.ensures.rows) c.loop-ballot.yielded c.loop-ballot.yielded_by row c.in-Some.ensures.steps in
    let added = λ (n : ℕ).
    rw (c.from-then-may_belong.ensures, c.from.ensures, c.len-size.ensures.count, c.obstacles-obstacles.ensures) at (c.add.ensures n) in
    record {
      charged = λ n.
          let part = charge s.property s.committee s.level c.args.choices.now c.args.agreement.now n in
          let is : part row ≡ cond (has_member against n) share 0 = ap (λ b. cond (b && has_member against n) share 0) (sym c.may_belong.ensures ∙ c.if-may_belong.true) in
          rw length_push (omega (arith, sum-more part rows (length c.loop-ballot.yielded) row at, c.loop-ballot.invariant.charged n, is, added n));
      few = λ n.
          rw length_push
          (omega (
            arith,
            votes-more everyone rows (length c.loop-ballot.yielded) row at,
            votes-yes everyone row refl,
            c.loop-ballot.invariant.few n,
            added n,
            at-most-all (has_member against n) share,
            part-of-all (row.1 * 2 ^ 20) (length against),
          ));
    }

pub loop-ballot-preserved : goal.loop-ballot-preserved
loop-ballot-preserved g c =
    let s = c.args.self.now in
    let rows = s.profile.now.rows in
    let row : Row = (c.in-Some.ballot, c.in-Some.count) in
    let against = obstacles c.args.agreement.now row.0 in
    let share = row.1 * 2 ^ 20 / length against in
    let may = may_belong s.property s.committee s.level c.args.choices.now row.0 in
    let at = row_of_turn rows (c.into_iter-ballot-iterator.ensures.into_iter_gives ∙ c.ballots-ballot-items.ensures.rows) c.loop-ballot.yielded c.loop-ballot.yielded_by row c.in-Some.ensures.steps in
    record {
      charged = λ n.
          let part = charge s.property s.committee s.level c.args.choices.now c.args.agreement.now n in
          let is : part row ≡ 0 = elim c.else-size-gt0.branch [
            | else-size-gt0-via-then-size-gt0+else-may_belong w ↦ ap (λ b. cond (b && has_member against n) share 0) (sym w.may_belong.ensures ∙ w.if-may_belong.false)
            | else-size-gt0-via-else-size-gt0 w ↦ no-member may against n share (omega (arith, w.if-size-gt0.false, c.len-size.ensures.count, ap length c.obstacles-obstacles.ensures))
          ] in
          rw length_push (omega (arith, sum-more part rows (length c.loop-ballot.yielded) row at, c.loop-ballot.invariant.charged n, is));
      few = λ n.
          rw length_push (omega (arith, votes-more everyone rows (length c.loop-ballot.yielded) row at, votes-yes everyone row refl, c.loop-ballot.invariant.few n));
    }

pub returns-clause-charges : goal.returns-clause-charges
returns-clause-charges g c n =
    let s = c.args.self.now in
    let rows = s.profile.now.rows in
    let part = charge s.property s.committee s.level c.args.choices.now c.args.agreement.now n in
    c.loop-ballot.invariant.charged n
    ∙ ap (sum_by part) (all_passed rows (c.into_iter-ballot-iterator.ensures.into_iter_gives ∙ c.ballots-ballot-items.ensures.rows) c.loop-ballot.yielded c.loop-ballot.yielded_by c.in-None.ensures.steps.0)
