use Rattle.std.proofs.lemmas.Grind.{common_steps}
use Rattle.std.proofs.Common.{arith}
use Rattle.std.proofs.lemmas.Bool.{eq-eqb, ne_eqb, cond-true, cond-false}
use Rattle.ballot_base.proofs.FirstMember.{cmp_same, same_from_xor, lowest_difference, cmp_self_first, cmp_other_first}
use Rattle.ballot_base.proofs.cand_set.CandSet.cmp_lex.Goals as goal

pub returns-then-differ-eq0 : goal.returns-then-differ-eq0
returns-then-differ-eq0 c = grind (arith, common_steps, same_from_xor, cmp_same)

pub overflow_shr-self-inside : goal.overflow_shr-self-inside
overflow_shr-self-inside c = grind (arith, common_steps, lowest_difference)

pub overflow_shr-self-inside-else-self-first-eq1 : goal.overflow_shr-self-inside-else-self-first-eq1
overflow_shr-self-inside-else-self-first-eq1 c = grind (arith, common_steps, lowest_difference)

pub returns-then-other-first-eq0 : goal.returns-then-other-first-eq0
returns-then-other-first-eq0 c = grind (arith, common_steps, cmp_self_first, cond-true, eq-eqb)

pub returns-else-other-first-eq0 : goal.returns-else-other-first-eq0
returns-else-other-first-eq0 c = grind (arith, common_steps, cmp_self_first, cond-false, ne_eqb)

pub returns-then-self-first-eq0 : goal.returns-then-self-first-eq0
returns-then-self-first-eq0 c = grind (arith, common_steps, cmp_other_first, cond-true, eq-eqb)

pub returns-else-self-first-eq0 : goal.returns-else-self-first-eq0
returns-else-self-first-eq0 c = grind (arith, common_steps, cmp_other_first, cond-false, ne_eqb)
