use Rattle.std.proofs.Common.{arith}
use Rattle.std.proofs.lemmas.Grind.{common_steps}
use Rattle.seat_share.proofs.award.+settle.Goals as goal

-- without an answer these close late
pub returns-in_default-clause-stand : goal.returns-in_default-clause-stand
returns-in_default-clause-stand t c = grind (arith, common_steps)

pub overflow_add-result : goal.overflow_add-result
overflow_add-result t c = grind (arith, common_steps)

pub returns-clause-seats : goal.returns-clause-seats
returns-clause-seats t c = grind (arith, common_steps)

pub returns-clause-ties : goal.returns-clause-ties
returns-clause-ties t c = grind (arith, common_steps)
