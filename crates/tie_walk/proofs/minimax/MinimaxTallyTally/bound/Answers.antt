use Rattle.std.proofs.lemmas.Grind.{common_steps}
use Rattle.std.proofs.Common.{◌≡◌, ap, sym, subst, ◌∙◌, arith, length, take}
use Rattle.std.proofs.lemmas.List.{length_push}
use Rattle.ballot_base.specs.CandSet.{members_upto}
use Rattle.ballot_base.specs.Ballots.{Row, Election, IsElection}
use Rattle.ballot_base.proofs.Turns.{row_of_turn, all_passed}
use Rattle.tie_walk.specs.Ceilings.{greatest_distance_upto, IsBound}
use Rattle.tie_walk.specs.Values.{closeness, distance}
use Rattle.tie_walk.proofs.Closeness.{closeness-bounds, greatest_upto-step, distance_upto-most}
use Rattle.tie_walk.proofs.Distances.{ballot-found, ord_max-max}
use Rattle.tie_walk.proofs.minimax.MinimaxTallyTally.bound.Goals as goal

pub loop-ballot-preserved : goal.loop-ballot-preserved
loop-ballot-preserved g c =
    let e : Election = c.args.self.now in
    let valid : IsElection e = subst IsElection c.self.view_is c.ballots-ballot-items.ensures.valid in
    let row : Row = (c.in-Some.ballot, c.in-Some._voters) in
    let rows = c.into_iter-ballot-iterator.ensures.into_iter_gives ∙ c.ballots-ballot-items.ensures.rows ∙ ap (λ (x : Election). x.rows) c.self.view_is in
    let at = row_of_turn e.rows rows c.loop-ballot.yielded c.loop-ballot.yielded_by row c.in-Some.ensures.steps in
    let next = sym (length_push c.loop-ballot.yielded row) in
    let ballot = ballot-found e.m e.rows (length c.loop-ballot.yielded) row valid.ballots at in
    let far : c.distance.result ≡ distance (members_upto row.0 c.args.c) c.args.set = c.distance.ensures ∙ ap (λ b. distance b c.args.set) c.upto.ensures in
    record {
      value = greatest_upto-step c.args.c e.m c.requires.within e.rows c.args.set (length c.loop-ballot.yielded) row c.loop-ballot.greatest c.distance.result c.max-greatest.result at c.max-greatest.ensures far c.loop-ballot.invariant.value ∙ ap (λ k. greatest_distance_upto c.args.c (take k e.rows) c.args.set) next;
      most = omega (
        arith,
        ord_max-max c.loop-ballot.greatest c.distance.result,
        distance_upto-most c.args.c e.m c.requires.within row.0 c.args.set ballot c.requires.candidates,
      );
    }

pub returns-clause-value : goal.returns-clause-value
returns-clause-value g c =
    let e : Election = c.args.self.now in
    let rows = c.into_iter-ballot-iterator.ensures.into_iter_gives ∙ c.ballots-ballot-items.ensures.rows ∙ ap (λ (x : Election). x.rows) c.self.view_is in
    let all = c.loop-ballot.invariant.value
    ∙ ap (λ rows. greatest_distance_upto c.args.c rows c.args.set) (all_passed e.rows rows c.loop-ballot.yielded c.loop-ballot.yielded_by c.in-None.ensures.steps.0) in
    grind (arith, common_steps, all)

pub returns-clause-law : goal.returns-clause-law
returns-clause-law g c =
    let e : Election = c.args.self.now in
    subst (λ n. IsBound (closeness e.m e.rows) e.m c.args.c c.args.set c.args._left n) (sym (returns-clause-value g c))
    (closeness-bounds e.m e.rows c.args.c c.args.set c.args._left c.requires.candidates)
