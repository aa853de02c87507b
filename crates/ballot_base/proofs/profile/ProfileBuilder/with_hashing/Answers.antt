use Rattle.std.proofs.Common.{arith}
use Rattle.std.proofs.lemmas.Grind.{common_steps}
use Rattle.ballot_base.proofs.profile.ProfileBuilder.with_hashing.Goals as goal

-- without an answer this closes late
pub invariant_of-result : goal.invariant_of-result
invariant_of-result g c = grind (arith, common_steps)
