use Rattle.std.proofs.lemmas.Grind.{common_steps}
use Rattle.std.proofs.Common.{◌≤◌, sym, subst, arith}
use Rattle.ballot_base.specs.Limits.{most_members}
use Rattle.ballot_base.specs.Increments.{increments}
use Rattle.ballot_base.proofs.Increasing.{IsIncreasing-higher}
use Rattle.tie_walk.specs.Ceilings.{IsBound}
use Rattle.tie_walk.specs.Values.{thiele_value, Thiele}
use Rattle.tie_walk.proofs.GreatestSums.{ceiling-whole, whole-bounds}
use Rattle.tie_walk.proofs.Gains.{thiele-ceiling, thiele-fits}
use Rattle.tie_walk.proofs.StepLemmas.{has_member-range}
use Rattle.tie_walk.proofs.Submodular.{ceiling-bounds, thiele_rule-submodular}
use Rattle.tie_walk.proofs.thiele.ThieleTallyTally.bound.Goals as goal

pub value-requires : goal.value-requires
value-requires g c = IsIncreasing-higher 1 c.args.c c.args.self.now.election.m c.args.set c.requires.within c.requires.candidates

pub value-requires-2 : goal.value-requires-2
value-requires-2 g c = IsIncreasing-higher 1 c.args.c c.args.self.now.election.m c.args.set c.requires.within c.requires.candidates

-- no candidate is left to add
pub returns-then-left-eq0-clause-value : goal.returns-then-left-eq0-clause-value
returns-then-left-eq0-clause-value g c = grind (arith, common_steps, ceiling-whole)

pub returns-then-left-eq0-clause-law : goal.returns-then-left-eq0-clause-law
returns-then-left-eq0-clause-law g c =
    let t : Thiele = c.args.self.now in
    whole-bounds (thiele_value (increments t.rule t.k) t.election.rows) t.election.m c.args.c c.args.set c.args.left c.value.result
    (omega (arith, c.if-left-eq0.true)) c.value.ensures

pub overflow_add-result : goal.overflow_add-result
overflow_add-result g c = grind (arith, common_steps, thiele-fits)

pub returns-clause-value : goal.returns-clause-value
returns-clause-value g c = grind (arith, common_steps, has_member-range, thiele-ceiling)

pub returns-clause-law : goal.returns-clause-law
returns-clause-law g c =
    let t : Thiele = c.args.self.now in
    let few = subst (λ (x : Thiele). x.k ≤ most_members) c.self.view_is c.self.invariant.size in
    subst (λ n. IsBound (thiele_value (increments t.rule t.k) t.election.rows) t.election.m c.args.c c.args.set c.args.left n) (sym (returns-clause-value g c))
    (ceiling-bounds (thiele_value (increments t.rule t.k) t.election.rows) (thiele_rule-submodular t.rule t.k t.election.rows few) t.election.m c.args.c c.args.set c.args.left c.requires.candidates)
