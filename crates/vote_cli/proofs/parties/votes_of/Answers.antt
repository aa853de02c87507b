use Rattle.std.proofs.Common.{refl, sym, ap, ap₂, ◌∙◌, ◌+◌, ◌-◌, ◌≤◌, ◌≡◌, arith, length, get_or, set, take}
use Rattle.std.specs.Prelude.{nat_lt}
use Rattle.std.proofs.lemmas.List.{length_push}
use Rattle.std.specs.List.{list_any}
use Rattle.ballot_base.specs.Ballots.{Row}
use Rattle.ballot_base.proofs.Turns.{row_of_turn, all_passed}
use Rattle.vote_cli.proofs.PartyLemmas.{first_within, single-more, many-found, tallies, tallies-none, tallies-first, tallies-bound, tallies-empty, tallies-one, alone}
use Rattle.vote_cli.proofs.parties.votes_of.Goals as goal

pub returns-then-len-gt1-clause-none : goal.returns-then-len-gt1-clause-none
returns-then-len-gt1-clause-none g c none =
    let row : Row = (c.in-Some.ballot, c.in-Some.voters) in
    let at = row_of_turn c.args.profile.now.rows (c.into_iter-ballot-iterator.ensures.into_iter_gives ∙ c.ballots-ballot-items.ensures.rows) c.loop-ballot.yielded c.loop-ballot.yielded_by row c.in-Some.ensures.steps in
    many-found c.args.profile.now.rows (length c.loop-ballot.yielded) row at (omega (arith, c.if-len-gt1.true, c.len.ensures.count))

pub loop-ballot-init : goal.loop-ballot-init
loop-ballot-init g c = record { single = refl; votes = sym (tallies-none c.args.profile.now.rows) }

pub bounds-votes-from : goal.bounds-votes-from
bounds-votes-from g c =
    let row : Row = (c.in-Some.ballot, c.in-Some.voters) in
    let at = row_of_turn c.args.profile.now.rows (c.into_iter-ballot-iterator.ensures.into_iter_gives ∙ c.ballots-ballot-items.ensures.rows) c.loop-ballot.yielded c.loop-ballot.yielded_by row c.in-Some.ensures.steps in
    let found = first_within c.args.profile.now (length c.loop-ballot.yielded) row c.in-Some-split_first.parts.1 c.in-Some-split_first.parts.0 c.ballots-ballot-items.ensures.valid at
    c.in-Some-split_first.ensures in
    omega (arith, c.from.ensures, found.0, found.1)

pub overflow_sub-votes : goal.overflow_sub-votes
overflow_sub-votes g c =
    let row : Row = (c.in-Some.ballot, c.in-Some.voters) in
    let at = row_of_turn c.args.profile.now.rows (c.into_iter-ballot-iterator.ensures.into_iter_gives ∙ c.ballots-ballot-items.ensures.rows) c.loop-ballot.yielded c.loop-ballot.yielded_by row c.in-Some.ensures.steps in
    let found = first_within c.args.profile.now (length c.loop-ballot.yielded) row c.in-Some-split_first.parts.1 c.in-Some-split_first.parts.0 c.ballots-ballot-items.ensures.valid at
    c.in-Some-split_first.ensures in
    omega (arith, c.from.ensures, found.0, found.1)

pub bounds-votes-from-in-Some-split_first : goal.bounds-votes-from-in-Some-split_first
bounds-votes-from-in-Some-split_first g c =
    let row : Row = (c.in-Some.ballot, c.in-Some.voters) in
    let at = row_of_turn c.args.profile.now.rows (c.into_iter-ballot-iterator.ensures.into_iter_gives ∙ c.ballots-ballot-items.ensures.rows) c.loop-ballot.yielded c.loop-ballot.yielded_by row c.in-Some.ensures.steps in
    let found = first_within c.args.profile.now (length c.loop-ballot.yielded) row c.in-Some-split_first.parts.1 c.in-Some-split_first.parts.0 c.ballots-ballot-items.ensures.valid at
    c.in-Some-split_first.ensures in
    omega (arith, c.from.ensures, found.0, found.1)

pub overflow_add-votes : goal.overflow_add-votes
overflow_add-votes g c =
    let row : Row = (c.in-Some.ballot, c.in-Some.voters) in
    let at = row_of_turn c.args.profile.now.rows (c.into_iter-ballot-iterator.ensures.into_iter_gives ∙ c.ballots-ballot-items.ensures.rows) c.loop-ballot.yielded c.loop-ballot.yielded_by row c.in-Some.ensures.steps in
    let rows = c.args.profile.now.rows in
    let place = c.from.result - 1 in
    let found = first_within c.args.profile.now (length c.loop-ballot.yielded) row c.in-Some-split_first.parts.1 c.in-Some-split_first.parts.0 c.ballots-ballot-items.ensures.valid at
    c.in-Some-split_first.ensures in
    let so_far : get_or c.loop-ballot.votes place 0 ≡ get_or (tallies (take (length c.loop-ballot.yielded) rows)) place 0 = ap (λ l. get_or l place 0) c.loop-ballot.invariant.votes in
    omega (arith, so_far, tallies-bound rows (length c.loop-ballot.yielded) row place at (omega (arith, c.from.ensures, found.0, found.1)), c.ballots-ballot-items.ensures.valid.voters)

pub loop-ballot-preserved-in-Some-split_first : goal.loop-ballot-preserved-in-Some-split_first
loop-ballot-preserved-in-Some-split_first g c =
    let rows = c.args.profile.now.rows in
    let n = length c.loop-ballot.yielded in
    let row : Row = (c.in-Some.ballot, c.in-Some.voters) in
    let at = row_of_turn rows (c.into_iter-ballot-iterator.ensures.into_iter_gives ∙ c.ballots-ballot-items.ensures.rows) c.loop-ballot.yielded c.loop-ballot.yielded_by row c.in-Some.ensures.steps in
    let next = sym (length_push c.loop-ballot.yielded row) in
    let few : length row.0 ≤ 1 = omega (arith, c.if-len-gt1.false, c.len.ensures.count) in
    let first = c.in-Some-split_first in
    let found = first_within c.args.profile.now n row first.parts.1 first.parts.0 c.ballots-ballot-items.ensures.valid at first.ensures in
    record {
      single = ap (λ k. list_any (λ (r : Row). nat_lt 1 (length r.0)) (take k rows)) (sym next) ∙ single-more rows n row at few c.loop-ballot.invariant.single;
      votes =
          ap₂ (λ l n. set l (n - 1) (get_or l (n - 1) 0 + row.1)) c.loop-ballot.invariant.votes c.from.ensures
          ∙ tallies-one rows n row first.parts.0 at (alone row.0 first.parts.1 first.parts.0 first.ensures few) found.0 found.1
          ∙ ap (λ k. tallies (take k rows)) next;
    }

pub loop-ballot-preserved : goal.loop-ballot-preserved
loop-ballot-preserved g c =
    let rows = c.args.profile.now.rows in
    let n = length c.loop-ballot.yielded in
    let row : Row = (c.in-Some.ballot, c.in-Some.voters) in
    let at = row_of_turn rows (c.into_iter-ballot-iterator.ensures.into_iter_gives ∙ c.ballots-ballot-items.ensures.rows) c.loop-ballot.yielded c.loop-ballot.yielded_by row c.in-Some.ensures.steps in
    let next = sym (length_push c.loop-ballot.yielded row) in
    let few : length row.0 ≤ 1 = omega (arith, c.if-len-gt1.false, c.len.ensures.count) in
    record {
      single = ap (λ k. list_any (λ (r : Row). nat_lt 1 (length r.0)) (take k rows)) (sym next) ∙ single-more rows n row at few c.loop-ballot.invariant.single;
      votes = c.loop-ballot.invariant.votes ∙ tallies-empty rows n row at c.in_default.ensures ∙ ap (λ k. tallies (take k rows)) next;
    }

pub returns-clause-some : goal.returns-clause-some
returns-clause-some g c =
    let rows = c.args.profile.now.rows in
    let all : take (length c.loop-ballot.yielded) rows ≡ rows = all_passed rows (c.into_iter-ballot-iterator.ensures.into_iter_gives ∙ c.ballots-ballot-items.ensures.rows) c.loop-ballot.yielded c.loop-ballot.yielded_by c.in-None.ensures.steps.0 in (
      ap (list_any (λ (row : Row). nat_lt 1 (length row.0))) (sym all) ∙ c.loop-ballot.invariant.single,
      c.truncate.ensures.items
          ∙ ap₂ take (c.from-2.ensures ∙ c.m.ensures.value) (c.from-votes.ensures.0 ∙ c.loop-ballot.invariant.votes ∙ ap tallies all)
          ∙ tallies-first rows c.args.profile.now.m c.m.ensures.valid.most,
    )
