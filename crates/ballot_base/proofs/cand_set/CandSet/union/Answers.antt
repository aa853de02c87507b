use Rattle.std.proofs.lemmas.Nat.{or_lt}
use Rattle.ballot_base.specs.Limits.{most_candidates}
use Rattle.ballot_base.proofs.Members.{members_either}
use Rattle.ballot_base.proofs.cand_set.CandSet.union.Goals as goal

pub invariant_of-result : goal.invariant_of-result
invariant_of-result c = or_lt most_candidates c.self.inside.bits c.other.inside.bits c.self.invariant c.other.invariant

pub returns : goal.returns
returns c = rw (← c.self.view_is, ← c.other.view_is) (members_either c.self.inside.bits c.other.inside.bits)
