use Rattle.std.proofs.Common.{◌≡◌, ℕ, ◌*◌, ◌+◌, ◌<◌, ◌≤◌, ◌^◌, ◌-◌, ◌++◌, ◌∷◌, [], ◌∙◌, refl, cond, List, Some, slice_get, take, length, sym, ap, arith, inl, inr}
use Rattle.std.proofs.lemmas.Bool.{cases_lt, both_ways, lt-ltb, le-ltb}
use Rattle.std.proofs.lemmas.List.{length_push}
use Rattle.ballot_base.specs.Ballots.{Row, hits}
use Rattle.ballot_base.proofs.Turns.{row_of_turn, all_passed}
use Rattle.tie_walk.specs.Sequences.{hit_weights}
use Rattle.tie_walk.specs.Steps.Choices.{step_of}
use Rattle.tie_walk.proofs.RowSums.{length-common, rows-more}
use Rattle.tie_walk.proofs.HitWeights.{hit_weights-small}
use Rattle.sequential_winners.specs.Steps.Levels.{given_share, given, next_hit_by}
use Rattle.sequential_winners.proofs.GivenLemmas.{given-fits}
use Rattle.sequential_winners.proofs.levels.Levels.given.Goals as goal
use Rattle.sequential_winners.proofs.levels.Levels.given.Goals.{In-Some, After-next_hit}

-- the row of this turn
found : (g : _) (c : In-Some g) → slice_get c.args.self.now.choices.profile.now.rows (length c.loop-ballot.yielded) ≡ Some (c.in-Some.ballot, c.in-Some.voters)
found g c =
    row_of_turn c.args.self.now.choices.profile.now.rows (c.into_iter-ballot-iterator.ensures.into_iter_gives ∙ c.ballots-ballot-items.ensures.rows) c.loop-ballot.yielded c.loop-ballot.yielded_by
    (c.in-Some.ballot, c.in-Some.voters) c.in-Some.ensures.steps

-- the sum so far and what the voters of the row give
fits : (g : _) (c : In-Some g) → c.loop-ballot.given + c.in-Some.voters * next_hit_by c.args.self.now.choices.rule c.args.self.now.choices.profile.now c.args.set c.in-Some.ballot ≤ 2 ^ 32 * (2 ^ 90 - 1)
fits g c =
    let s = c.args.self.now.choices in
    let e = s.profile.now in
    omega (
      arith,
      c.loop-ballot.invariant,
      given-fits (step_of s.rule) (hit_weights s.rule e.m) c.args.set c.args.candidates e (2 ^ 90 - 1) (length c.loop-ballot.yielded) (c.in-Some.ballot, c.in-Some.voters) c.ballots-ballot-items.ensures.valid
          (λ j. omega (arith, hit_weights-small s.rule e.m j c.ballots-ballot-items.ensures.valid.most)) (found g c),
    )

product : (g : _) (c : After-next_hit g) → c.from.result * c.next_hit.result ≡ c.in-Some.voters * next_hit_by c.args.self.now.choices.rule c.args.self.now.choices.profile.now c.args.set c.in-Some.ballot
product g c = rw (c.from.ensures, c.next_hit.ensures) refl

no-members : (xs : List ℕ) → length xs ≤ 0 → xs ≡ []
no-members [] none = refl
no-members (x ∷ xs) none = absurd (omega arith)

pub overflow_mul-given : goal.overflow_mul-given
overflow_mul-given g c =
    let at = goal.at.overflow_mul-given g c in
    omega (arith, product g at.After-next_hit, fits g at.In-Some)

pub overflow_add-given : goal.overflow_add-given
overflow_add-given g c =
    let at = goal.at.overflow_add-given g c in
    omega (arith, product g at.After-next_hit, fits g at.In-Some)

-- the sum with the row of this turn
more : (g : _) (c : In-Some g) → given (step_of c.args.self.now.choices.rule) (hit_weights c.args.self.now.choices.rule c.args.self.now.choices.profile.now.m) (take (length (c.loop-ballot.yielded ++ (c.in-Some.ballot, c.in-Some.voters) ∷ [])) c.args.self.now.choices.profile.now.rows) c.args.set c.args.candidates
    ≡ c.loop-ballot.given + c.in-Some.voters * given_share (step_of c.args.self.now.choices.rule) (hit_weights c.args.self.now.choices.rule c.args.self.now.choices.profile.now.m) c.args.set c.args.candidates (c.in-Some.ballot, c.in-Some.voters)
more g c =
    let s = c.args.self.now.choices in
    let e = s.profile.now in
    let row : Row = (c.in-Some.ballot, c.in-Some.voters) in
    let i = length c.loop-ballot.yielded in
    let share = given_share (step_of s.rule) (hit_weights s.rule e.m) c.args.set c.args.candidates in
    ap (λ n. given (step_of s.rule) (hit_weights s.rule e.m) (take n e.rows) c.args.set c.args.candidates) (length_push c.loop-ballot.yielded row)
    ∙ rows-more share e.rows i row (found g c)
    ∙ ap (λ n. n + row.1 * share row) (sym c.loop-ballot.invariant)

pub loop-ballot-preserved-then-not-is_empty : goal.loop-ballot-preserved-then-not-is_empty
loop-ballot-preserved-then-not-is_empty g c =
    let at = goal.at.loop-ballot-preserved-then-not-is_empty g c in
    let ballot = c.in-Some.ballot in
    let next = next_hit_by c.args.self.now.choices.rule c.args.self.now.choices.profile.now c.args.set ballot in
    let some : 0 < hits ballot c.args.candidates = elim (cases_lt 0 (hits ballot c.args.candidates)) [
      | inl more ↦ more
      | inr none ↦
          absurd (both_ways c.is_empty.result c.if-not-is_empty.true
          (c.is_empty.ensures.1 (no-members c.common.result (omega (arith, none, ap length c.common.ensures, length-common ballot c.args.candidates)))))
    ] in
    ap (λ n. c.loop-ballot.given + n) (product g at.After-next_hit) ∙ sym (more g at.In-Some ∙ ap (λ b. c.loop-ballot.given + c.in-Some.voters * cond b next 0) (lt-ltb 0 (hits ballot c.args.candidates) some))

pub loop-ballot-preserved : goal.loop-ballot-preserved
loop-ballot-preserved g c =
    let at = goal.at.loop-ballot-preserved g c in
    let ballot = c.in-Some.ballot in
    let next = next_hit_by c.args.self.now.choices.rule c.args.self.now.choices.profile.now c.args.set ballot in
    let none : hits ballot c.args.candidates ≤ 0 = omega (arith, ap length (c.is_empty.ensures.0 c.if-not-is_empty.false), ap length c.common.ensures, length-common ballot c.args.candidates) in
    let e : c.in-Some.voters * given_share (step_of c.args.self.now.choices.rule) (hit_weights c.args.self.now.choices.rule c.args.self.now.choices.profile.now.m) c.args.set c.args.candidates (ballot, c.in-Some.voters) ≡ c.in-Some.voters * 0 =
    ap (λ b. c.in-Some.voters * cond b next 0) (le-ltb 0 (hits ballot c.args.candidates) none) in
    omega (arith, more g at.In-Some, e)

pub returns : goal.returns
returns g c =
    let s = c.args.self.now.choices in
    let e = s.profile.now in
    c.loop-ballot.invariant
    ∙ ap (λ rows. given (step_of s.rule) (hit_weights s.rule e.m) rows c.args.set c.args.candidates)
    (all_passed e.rows (c.into_iter-ballot-iterator.ensures.into_iter_gives ∙ c.ballots-ballot-items.ensures.rows) c.loop-ballot.yielded c.loop-ballot.yielded_by c.in-None.ensures.steps.0)
