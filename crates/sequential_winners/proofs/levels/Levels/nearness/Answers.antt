use Rattle.std.proofs.Common.{◌≡◌, ◌++◌, ◌∷◌, [], ◌∙◌, Some, slice_get, take, length, get_or, sym, ap, subst, arith}
use Rattle.std.proofs.lemmas.List.{length_push}
use Rattle.ballot_base.specs.Limits.{most_candidates}
use Rattle.ballot_base.specs.Lists.{IsIncreasing}
use Rattle.ballot_base.specs.Ballots.{Row}
use Rattle.ballot_base.specs.CandSet.{has_member, with_member}
use Rattle.ballot_base.proofs.Increasing.{IsIncreasing-higher}
use Rattle.ballot_base.proofs.Turns.{row_of_turn, all_passed}
use Rattle.tie_walk.specs.Sequences.{hit_weights}
use Rattle.tie_walk.specs.Steps.Choices.{step_of}
use Rattle.tie_walk.proofs.Distances.{ballot-found}
use Rattle.tie_walk.proofs.LevelLemmas.{in_bounds}
use Rattle.sequential_winners.specs.Steps.Near.{near_of}
use Rattle.sequential_winners.proofs.NearLemmas.{IsNear, take-row, near-first, near-alone, near-is, joined-near, quiet-near, joined-rises}
use Rattle.sequential_winners.proofs.levels.Levels.nearness.Goals as goal
use Rattle.sequential_winners.proofs.levels.Levels.nearness.Goals.{In-Some, else-len-gt1-via-then-len-gt1+else-next_hit-gt0, else-len-gt1-via-else-len-gt1}

pub loop-ballot-init : goal.loop-ballot-init
loop-ballot-init g c =
    let s = c.args.self.now.choices in record {
      rises = λ x. subst (IsIncreasing 1 most_candidates) (sym (c.none-near.ensures x)) tt;
      near = λ x tie.
          let bounds = in_bounds most_candidates c.args.ties x c.requires tie in
          subst (λ l. IsNear (step_of s.rule) (hit_weights s.rule s.profile.now.m) c.args.set x c.args.ties [] (with_member l x)) (sym (c.none-near.ensures x))
          (near-first (step_of s.rule) (hit_weights s.rule s.profile.now.m) c.args.set x c.args.ties tie bounds.0 bounds.1);
    }

-- the row of this turn
found : (g : _) (c : In-Some g) → slice_get c.args.self.now.choices.profile.now.rows (length c.loop-ballot.yielded) ≡ Some (c.in-Some.ballot, c.in-Some._voters)
found g c =
    row_of_turn c.args.self.now.choices.profile.now.rows (c.into_iter-ballot-iterator.ensures.into_iter_gives ∙ c.ballots-ballot-items.ensures.rows) c.loop-ballot.yielded c.loop-ballot.yielded_by
    (c.in-Some.ballot, c.in-Some._voters) c.in-Some.ensures.steps

rows-are : (g : _) (c : In-Some g) → take (length c.loop-ballot.yielded) c.args.self.now.choices.profile.now.rows ++ (c.in-Some.ballot, c.in-Some._voters) ∷ []
    ≡ take (length (c.loop-ballot.yielded ++ (c.in-Some.ballot, c.in-Some._voters) ∷ [])) c.args.self.now.choices.profile.now.rows
rows-are g c =
    let rows = c.args.self.now.choices.profile.now.rows in
    let row : Row = (c.in-Some.ballot, c.in-Some._voters) in
    sym (ap (λ n. take n rows) (length_push c.loop-ballot.yielded row) ∙ take-row rows (length c.loop-ballot.yielded) row (found g c))

pub loop-ballot-preserved-then-next_hit-gt0 : goal.loop-ballot-preserved-then-next_hit-gt0
loop-ballot-preserved-then-next_hit-gt0 g c =
    let s = c.args.self.now.choices in
    let e = s.profile.now in
    let i = length c.loop-ballot.yielded in
    let row : Row = (c.in-Some.ballot, c.in-Some._voters) in
    let at = (goal.at.loop-ballot-preserved-then-next_hit-gt0 g c).In-Some in
    let inv = c.loop-ballot.invariant in
    let ballot = IsIncreasing-higher 1 e.m most_candidates row.0 c.ballots-ballot-items.ensures.valid.most (ballot-found e.m e.rows i row c.ballots-ballot-items.ensures.valid.ballots (found g at)) in record {
      rises = λ x. subst (IsIncreasing 1 most_candidates) (sym (c.join.ensures x)) (joined-rises (has_member c.common-group.result x) (get_or c.loop-ballot.near x []) c.common-group.result (inv.rises x) c.len.ensures.valid);
      near = λ x tie.
          let bounds = in_bounds most_candidates c.args.ties x c.requires tie in
          subst (λ l. IsNear (step_of s.rule) (hit_weights s.rule e.m) c.args.set x c.args.ties l (near_of c.join.new.self x)) (rows-are g at)
          (joined-near (step_of s.rule) (hit_weights s.rule e.m) c.args.set x c.args.ties (take i e.rows) (get_or c.loop-ballot.near x []) (get_or c.join.new.self x []) row c.common-group.result c.common-group.ensures (c.join.ensures x)
          (omega (arith, c.if-next_hit-gt0.true, c.next_hit.ensures)) ballot tie bounds.0 bounds.1 (inv.rises x) (inv.near x tie));
    }

pub loop-ballot-preserved : goal.loop-ballot-preserved
loop-ballot-preserved g c =
    let s = c.args.self.now.choices in
    let e = s.profile.now in
    let i = length c.loop-ballot.yielded in
    let row : Row = (c.in-Some.ballot, c.in-Some._voters) in
    let at = (goal.at.loop-ballot-preserved g c).In-Some in
    let inv = c.loop-ballot.invariant in record {
      rises = inv.rises;
      near = λ x tie.
          subst (λ l. IsNear (step_of s.rule) (hit_weights s.rule e.m) c.args.set x c.args.ties l (near_of c.loop-ballot.near x)) (rows-are g at)
          (elim c.else-len-gt1.branch [
            | else-len-gt1-via-then-len-gt1+else-next_hit-gt0 w ↦
                quiet-near (step_of s.rule) (hit_weights s.rule e.m) c.args.set x c.args.ties (take i e.rows) (near_of c.loop-ballot.near x) row (omega (arith, w.if-next_hit-gt0.false, w.next_hit.ensures)) (inv.near x tie)
            | else-len-gt1-via-else-len-gt1 w ↦
                near-alone (step_of s.rule) (hit_weights s.rule e.m) c.args.set x c.args.ties (take i e.rows) (near_of c.loop-ballot.near x) row (omega (arith, w.if-len-gt1.false, c.len.ensures.count, ap length c.common-group.ensures)) tie (inv.near x tie)
          ]);
    }

pub returns : goal.returns
returns g c =
    let s = c.args.self.now.choices in
    let e = s.profile.now in
    let whole = all_passed e.rows (c.into_iter-ballot-iterator.ensures.into_iter_gives ∙ c.ballots-ballot-items.ensures.rows) c.loop-ballot.yielded c.loop-ballot.yielded_by c.in-None.ensures.steps.0 in
    λ x tie. near-is (step_of s.rule) (hit_weights s.rule e.m) c.args.set x c.args.ties e.rows (near_of c.loop-ballot.near x) c.requires
    (subst (λ l. IsNear (step_of s.rule) (hit_weights s.rule e.m) c.args.set x c.args.ties l (near_of c.loop-ballot.near x)) whole (c.loop-ballot.invariant.near x tie))
