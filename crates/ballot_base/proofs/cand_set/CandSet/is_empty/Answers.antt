use Rattle.std.proofs.lemmas.Grind.{common_steps}
use Rattle.std.proofs.Common.{arith}
use Rattle.std.proofs.lemmas.Bool.{eqb-true, eq-eqb}
use Rattle.ballot_base.proofs.FirstMember.{zero_from_none, none_from_zero}
use Rattle.ballot_base.proofs.cand_set.CandSet.is_empty.Goals as goal

pub returns : goal.returns
returns c = grind (arith, common_steps, none_from_zero, eqb-true, eq-eqb, zero_from_none)
