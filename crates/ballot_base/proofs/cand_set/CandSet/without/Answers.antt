use Rattle.std.proofs.lemmas.Grind.{common_steps}
use Rattle.std.proofs.Common.{arith}
use Rattle.ballot_base.proofs.Members.{members_without, members_without_outside}
use Rattle.ballot_base.proofs.cand_set.CandSet.without.Goals as goal

pub returns-then-n-eq0 : goal.returns-then-n-eq0
returns-then-n-eq0 c = grind (arith, common_steps, members_without_outside)

pub returns : goal.returns
returns c = rw (← c.self.view_is) (members_without c.self.inside.bits c.args.n (omega arith) (omega arith))
