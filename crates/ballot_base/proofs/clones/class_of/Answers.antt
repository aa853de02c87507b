use Rattle.std.proofs.lemmas.Grind.{common_steps}
use Rattle.std.proofs.Common.{◌∙◌, sym, ap, filter, length, take, arith}
use Rattle.std.specs.List.{range_with_len}
use Rattle.std.proofs.lemmas.List.{length_push}
use Rattle.ballot_base.specs.Ballots.{Row}
use Rattle.ballot_base.specs.CandSet.{common_members, other_members}
use Rattle.ballot_base.proofs.Turns.{row_of_turn, all_passed}
use Rattle.ballot_base.specs.Clones.{are_clones, clones_among}
use Rattle.ballot_base.proofs.CloneLemmas.{clones-none, clones-approved, clones-other}
use Rattle.ballot_base.proofs.clones.class_of.Goals as goal

pub loop-ballot-init : goal.loop-ballot-init
loop-ballot-init g c = grind (arith, common_steps, clones-none)

pub loop-ballot-preserved-then-has : goal.loop-ballot-preserved-then-has
loop-ballot-preserved-then-has g c =
    let e = c.args.profile.now in
    let row : Row = (c.in-Some.ballot, c.in-Some._voters) in
    let at = row_of_turn c.args.profile.now.rows (c.into_iter-ballot-iterator.ensures.into_iter_gives ∙ c.ballots-ballot-items.ensures.rows) c.loop-ballot.yielded c.loop-ballot.yielded_by row c.in-Some.ensures.steps in
    let i = length c.loop-ballot.yielded in
    let next = sym (length_push c.loop-ballot.yielded row) in
    let later = ap (λ n. filter (are_clones (take n e.rows) c.args.c) (range_with_len 1 e.m)) next in
    c.common-clones.ensures ∙ ap (λ s. common_members s row.0) c.loop-ballot.invariant
    ∙ sym (clones-approved e.m e.rows i row c.args.c at (sym c.has.ensures ∙ c.if-has.true)) ∙ later

pub loop-ballot-preserved : goal.loop-ballot-preserved
loop-ballot-preserved g c =
    let e = c.args.profile.now in
    let row : Row = (c.in-Some.ballot, c.in-Some._voters) in
    let at = row_of_turn c.args.profile.now.rows (c.into_iter-ballot-iterator.ensures.into_iter_gives ∙ c.ballots-ballot-items.ensures.rows) c.loop-ballot.yielded c.loop-ballot.yielded_by row c.in-Some.ensures.steps in
    let i = length c.loop-ballot.yielded in
    let next = sym (length_push c.loop-ballot.yielded row) in
    let later = ap (λ n. filter (are_clones (take n e.rows) c.args.c) (range_with_len 1 e.m)) next in
    c.minus-clones.ensures ∙ ap (λ s. other_members s row.0) c.loop-ballot.invariant
    ∙ sym (clones-other e.m e.rows i row c.args.c at (sym c.has.ensures ∙ c.if-has.false)) ∙ later

pub returns : goal.returns
returns g c =
    let e = c.args.profile.now in
    c.loop-ballot.invariant ∙ ap (λ rows. clones_among e.m rows c.args.c) (all_passed e.rows (c.into_iter-ballot-iterator.ensures.into_iter_gives ∙ c.ballots-ballot-items.ensures.rows) c.loop-ballot.yielded c.loop-ballot.yielded_by c.in-None.ensures.steps.0)
