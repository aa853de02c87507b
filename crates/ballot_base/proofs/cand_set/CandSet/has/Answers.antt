use Rattle.std.proofs.lemmas.Grind.{common_steps}
use Rattle.std.proofs.Common.{arith}
use Rattle.std.proofs.lemmas.Bool.{lt-leb, eq-eqb, not_from_true}
use Rattle.ballot_base.proofs.Members.{has_member_by_shift, has_member_outside}
use Rattle.ballot_base.proofs.cand_set.CandSet.has.Goals as goal
use Rattle.ballot_base.proofs.cand_set.CandSet.has.Goals.{then-n-ne0, else-n-ne0}

pub returns-then-n-le-MOST_CANDIDATES : goal.returns-then-n-le-MOST_CANDIDATES
returns-then-n-le-MOST_CANDIDATES c = rw (← c.self.view_is) (has_member_by_shift c.self.inside.bits c.args.n (omega arith) (omega arith))

pub returns-else-n-le-MOST_CANDIDATES : goal.returns-else-n-le-MOST_CANDIDATES
returns-else-n-le-MOST_CANDIDATES c =
    grind (arith, common_steps, has_member_outside, lt-leb, not_from_true, eq-eqb)
