use Rattle.std.proofs.Common.{◌≡◌, ℕ, ◌+◌, ◌<◌, ◌∙◌, Bool, true, false, cond, not, List, Some, refl, sym, ap, subst, length, take, get_or, slice_get}
use Rattle.std.proofs.lemmas.Bool.{and_from, and_parts}
use Rattle.std.proofs.lemmas.List.{length_push}
use Rattle.std.proofs.lemmas.List.Folds.{list_all_more}
use Rattle.std.proofs.lemmas.Option.{get_or_from_slice_get, slice_get_within}
use Rattle.ballot_base.specs.Ballots.{Row}
use Rattle.ballot_base.specs.CandSet.{has_member}
use Rattle.ballot_base.proofs.Increasing.{has_member-filter}
use Rattle.ballot_base.proofs.Turns.{row_of_turn, all_passed}
use Rattle.thiele_search.specs.Steps.Dominance.{is_follower}
use Rattle.thiele_search.proofs.dominance.followers_of.Goals as goal
use Rattle.thiele_search.proofs.dominance.followers_of.Goals.{In-Some}

-- one more row in which the supporters of d approve c
more : (rows : List Row) (i : ℕ) (row : Row) (c d : ℕ) → slice_get rows i ≡ Some row → is_follower (take i rows) c d ≡ true → cond (has_member row.0 c) true (not (has_member row.0 d)) ≡ true
    → is_follower (take (i + 1) rows) c d ≡ true
more rows i row c d found before here =
    let is : get_or rows i row ≡ row = get_or_from_slice_get rows i row row found in
    let within : i < length rows = slice_get_within rows i row found in
    list_all_more (λ (r : Row). cond (has_member r.0 c) true (not (has_member r.0 d))) rows i row within
    ∙ and_from (is_follower (take i rows) c d) (cond (has_member (get_or rows i row).0 c) true (not (has_member (get_or rows i row).0 d))) before
    (subst (λ (r : Row). cond (has_member r.0 c) true (not (has_member r.0 d)) ≡ true) (sym is) here)

-- the row of this turn, and all before it
turn : (g : _) (c : In-Some g) (d : ℕ) → has_member c.loop-ballot.followers d ≡ true → cond (has_member c.in-Some.ballot c.args.c) true (not (has_member c.in-Some.ballot d)) ≡ true
    → is_follower (take (length c.loop-ballot.yielded + 1) c.args.profile.now.rows) c.args.c d ≡ true
turn g c d before here =
    let row : Row = (c.in-Some.ballot, c.in-Some._voters) in
    let at = row_of_turn c.args.profile.now.rows (c.into_iter-ballot-iterator.ensures.into_iter_gives ∙ c.ballots-ballot-items.ensures.rows) c.loop-ballot.yielded c.loop-ballot.yielded_by row c.in-Some.ensures.steps in
    more c.args.profile.now.rows (length c.loop-ballot.yielded) row c.args.c d at (c.loop-ballot.invariant d before) here

by-ballot : (p q : Bool) → not q ≡ true → cond p true (not q) ≡ true
by-ballot true q h = refl
by-ballot false q h = h

by-follower : (p q : Bool) → p ≡ true → cond p true (not q) ≡ true
by-follower true q h = refl
by-follower false q h = absurd cc

pub loop-ballot-preserved-then-not-has : goal.loop-ballot-preserved-then-not-has
loop-ballot-preserved-then-not-has g c d is =
    let ballot = c.in-Some.ballot in
    let still = and_parts (not (has_member ballot d)) (has_member c.loop-ballot.followers d)
    (sym (has_member-filter (λ n. not (has_member ballot n)) c.loop-ballot.followers d) ∙ ap (λ l. has_member l d) (sym c.minus-followers.ensures) ∙ is) in
    subst (λ n. is_follower (take n c.args.profile.now.rows) c.args.c d ≡ true) (sym (length_push c.loop-ballot.yielded (ballot, c.in-Some._voters)))
    (turn g (goal.at.loop-ballot-preserved-then-not-has g c).In-Some d still.1 (by-ballot (has_member ballot c.args.c) (has_member ballot d) still.0))

pub loop-ballot-preserved : goal.loop-ballot-preserved
loop-ballot-preserved g c d is =
    let ballot = c.in-Some.ballot in
    subst (λ n. is_follower (take n c.args.profile.now.rows) c.args.c d ≡ true) (sym (length_push c.loop-ballot.yielded (ballot, c.in-Some._voters)))
    (turn g (goal.at.loop-ballot-preserved g c).In-Some d is (by-follower (has_member ballot c.args.c) (has_member ballot d) (sym c.has.ensures ∙ c.if-not-has.false)))

pub returns : goal.returns
returns g c d is =
    subst (λ rows. is_follower rows c.args.c d ≡ true) (all_passed c.args.profile.now.rows (c.into_iter-ballot-iterator.ensures.into_iter_gives ∙ c.ballots-ballot-items.ensures.rows) c.loop-ballot.yielded c.loop-ballot.yielded_by c.in-None.ensures.steps.0)
    (c.loop-ballot.invariant d is)
