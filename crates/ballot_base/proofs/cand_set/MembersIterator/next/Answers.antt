use Rattle.std.proofs.lemmas.Grind.{common_steps}
use Rattle.std.proofs.Common.{◌∙◌, sym, rules, arith}
use Rattle.ballot_base.proofs.Members.{bound_of_and}
use Rattle.ballot_base.proofs.FirstMember.{none_from_zero, next_members}
use Rattle.ballot_base.proofs.cand_set.MembersIterator.next.Goals as goal

pub invariant_of-self : goal.invariant_of-self
invariant_of-self c = bound_of_and c.self.inside.bits _ c.self.invariant

pub returns-then-self-eq0-clause-steps : goal.returns-then-self-eq0-clause-steps
returns-then-self-eq0-clause-steps c = grind (arith, common_steps, none_from_zero)

pub returns-clause-steps : goal.returns-clause-steps
returns-clause-steps c = sym c.self.view_is ∙ next_members c.self.inside.bits c.self.invariant c.if-self-eq0.false

pub returns-clause-goes : goal.returns-clause-goes
returns-clause-goes c = rw (returns-clause-steps c) (search rules)
