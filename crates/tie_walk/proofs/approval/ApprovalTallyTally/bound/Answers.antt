use Rattle.std.proofs.lemmas.Grind.{common_steps}
use Rattle.std.proofs.Common.{◌≡◌, ◌+◌, ◌≤◌, ◌∙◌, sym, subst, ap, arith, get_or}
use Rattle.ballot_base.specs.Limits.{most_members}
use Rattle.ballot_base.specs.Increments.{increments}
use Rattle.ballot_base.specs.declared.increments.ThieleRule.TheVariants.{Av}
use Rattle.ballot_base.proofs.Committees.{length-increasing}
use Rattle.ballot_base.proofs.Increasing.{IsIncreasing-higher}
use Rattle.tie_walk.specs.Ceilings.{IsBound, ceiling, greatest_sum}
use Rattle.tie_walk.specs.Values.{Thiele, thiele_of, thiele_value, tally_value}
use Rattle.tie_walk.proofs.Gains.{thiele-fits}
use Rattle.tie_walk.proofs.Submodular.{ceiling-bounds, thiele_rule-submodular}
use Rattle.tie_walk.proofs.TightLemmas.{approval-ceiling}
use Rattle.tie_walk.proofs.approval.ApprovalTallyTally.bound.Goals as goal

pub overflow_add-len : goal.overflow_add-len
overflow_add-len g c = omega (arith, length-increasing 1 c.args.c c.args.set c.requires.candidates, c.self.invariant.election.most, ap (λ (t : Thiele). t.election.m) c.self.view_is)

pub returns-then-self-len-clause-value : goal.returns-then-self-len-clause-value
returns-then-self-len-clause-value g c =
    c.bound.ensures.value ∙ ap (λ (t : Thiele). ceiling (tally_value t) t.election.m c.args.c c.args.set c.args.left) c.by_rows.ensures

pub value-requires : goal.value-requires
value-requires g c = IsIncreasing-higher 1 c.args.c c.args.self.now.election.m c.args.set c.requires.within c.requires.candidates

pub overflow_add-result : goal.overflow_add-result
overflow_add-result g c = grind (arith, common_steps, thiele-fits)

pub returns-clause-value : goal.returns-clause-value
returns-clause-value g c =
    let t = c.self.inside in
    let value : c.value.result ≡ tally_value (thiele_of t.profile.now Av t.k) c.args.set = c.value.ensures ∙ ap (λ (x : Thiele). tally_value x c.args.set) (sym c.self.view_is) in
    let sum : c.greatest_sum.result ≡ greatest_sum (λ n. get_or t.approvals n 0) (c.args.c + 1) t.profile.now.m c.args.left =
    c.greatest_sum.ensures.value ∙ ap (λ m. greatest_sum (λ n. get_or t.approvals n 0) (c.args.c + 1) m c.args.left) c.m.ensures.value in
    subst (λ (x : Thiele). c.value.result + c.greatest_sum.result ≡ ceiling (tally_value x) x.election.m c.args.c c.args.set c.args.left) c.self.view_is
    (omega (arith, value, sum, approval-ceiling t.profile.now t.k c.args.c c.args.left t.approvals c.args.set c.self.invariant c.requires.candidates (omega arith)))

pub returns-clause-law : goal.returns-clause-law
returns-clause-law g c =
    let t : Thiele = c.args.self.now in
    let few = subst (λ (x : Thiele). x.k ≤ most_members) c.self.view_is c.self.invariant.size in
    subst (λ n. IsBound (thiele_value (increments t.rule t.k) t.election.rows) t.election.m c.args.c c.args.set c.args.left n) (sym (returns-clause-value g c))
    (ceiling-bounds (thiele_value (increments t.rule t.k) t.election.rows) (thiele_rule-submodular t.rule t.k t.election.rows few) t.election.m c.args.c c.args.set c.args.left c.requires.candidates)
