use Rattle.std.proofs.lemmas.Grind.{common_steps}
use Rattle.std.proofs.Common.{◌≡◌, ℕ, ◌+◌, ◌-◌, ◌^◌, ◌≤◌, ◌<◌, ◌∙◌, List, refl, ap, sym, subst, arith, get_or}
use Rattle.ballot_base.specs.Limits.{most_score}
use Rattle.ballot_base.specs.Ballots.{Election}
use Rattle.ballot_base.specs.CommonMultiple.{common_multiple}
use Rattle.ballot_base.proofs.Increasing.{IsIncreasing-higher}
use Rattle.tie_walk.specs.Ceilings.{IsBound}
use Rattle.tie_walk.specs.Steps.Tables.{parts}
use Rattle.tie_walk.specs.Values.{satisfaction_value}
use Rattle.tie_walk.proofs.Gains.{score-most, satisfaction-ceiling, satisfaction-fits}
use Rattle.tie_walk.proofs.RowSums.{parts-bound}
use Rattle.tie_walk.proofs.Submodular.{ceiling-bounds, satisfaction-submodular}
use Rattle.tie_walk.proofs.satisfaction.SavTallyTally.bound.Goals as goal

pub value-requires : goal.value-requires
value-requires g c = IsIncreasing-higher 1 c.args.c c.args.self.now.m c.args.set c.requires.within c.requires.candidates

pub greatest_sum-requires-clause-small : goal.greatest_sum-requires-clause-small
greatest_sum-requires-clause-small g c n = grind (arith, common_steps, parts-bound, score-most)

pub overflow_add-result : goal.overflow_add-result
overflow_add-result g c =
    let e : Election = c.self.inside.profile.now in
    let t = c.self.inside in
    let same : e ≡ c.args.self.now = c.self.view_is in
    let shares : List ℕ = parts (common_multiple e.m) in
    let small : (i : ℕ) → get_or shares i 0 ≤ 2 ^ 90 - 1 = λ i. omega (arith, parts-bound e.m shares i c.self.invariant.election.most refl) in
    let each : (n : ℕ) → get_or t.scores n 0 ≤ most_score = λ n. omega (arith, c.self.invariant.scores_are n, score-most shares n small e c.self.invariant.election) in
    let size : e.m ≡ c.args.self.now.m = ap (λ (x : Election). x.m) same in
    let fits : c.value.result + c.greatest_sum.result < 2 ^ 128 =
    satisfaction-fits e shares c.args.set c.args.c c.args.left c.value.result c.greatest_sum.result c.self.invariant.election refl c.requires.candidates
    (omega (arith, size, c.requires.within)) (omega (arith, size, c.requires.fits)) (c.value.ensures ∙ ap (λ (x : Election). satisfaction_value x.m x.rows c.args.set) (sym same))
    (c.greatest_sum.ensures.most most_score each) in
    omega arith

pub returns-clause-value : goal.returns-clause-value
returns-clause-value g c = grind (arith, common_steps, satisfaction-ceiling)

pub returns-clause-law : goal.returns-clause-law
returns-clause-law g c =
    let e : Election = c.args.self.now in
    subst (λ n. IsBound (satisfaction_value e.m e.rows) e.m c.args.c c.args.set c.args.left n) (sym (returns-clause-value g c))
    (ceiling-bounds (satisfaction_value e.m e.rows) (satisfaction-submodular e.m e.rows) e.m c.args.c c.args.set c.args.left c.requires.candidates)
