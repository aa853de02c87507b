use Rattle.std.proofs.lemmas.Grind.{common_steps}
use Rattle.std.proofs.Common.{arith}
use Rattle.ballot_base.proofs.RowLemmas.{has_ballot-absent, with_votes-put, with_votes-put_new, count-le-put}
use Rattle.ballot_base.proofs.rows.Rows.add.Goals as goal

pub overflow_add-before : goal.overflow_add-before
overflow_add-before g c = grind (arith, common_steps, count-le-put)

pub returns-in-Ok-default-Some-clause-ok : goal.returns-in-Ok-default-Some-clause-ok
returns-in-Ok-default-Some-clause-ok g c = grind (arith, common_steps, with_votes-put)

pub returns-in-Ok-default-None-clause-ok : goal.returns-in-Ok-default-None-clause-ok
returns-in-Ok-default-None-clause-ok g c = grind (arith, common_steps, with_votes-put_new)

pub returns-in-Err-clause-new : goal.returns-in-Err-clause-new
returns-in-Err-clause-new g c = grind (arith, common_steps, has_ballot-absent)
