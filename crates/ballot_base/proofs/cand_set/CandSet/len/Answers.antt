use Rattle.std.proofs.Common.{arith}
use Rattle.ballot_base.specs.Limits.{most_candidates}
use Rattle.ballot_base.proofs.Members.{IsIncreasing-members}
use Rattle.ballot_base.proofs.FirstMember.{length-members}
use Rattle.ballot_base.proofs.Committees.{length-increasing}
use Rattle.ballot_base.proofs.cand_set.CandSet.len.Goals as goal

pub returns-clause-count : goal.returns-clause-count
returns-clause-count c = rw (← c.self.view_is) (length-members c.self.inside.bits c.self.invariant)

pub returns-clause-most : goal.returns-clause-most
returns-clause-most c =
    omega (arith, length-members c.self.inside.bits c.self.invariant, length-increasing 1 most_candidates _ (IsIncreasing-members c.self.inside.bits))

pub returns-clause-valid : goal.returns-clause-valid
returns-clause-valid c = rw (← c.self.view_is) (IsIncreasing-members c.self.inside.bits)
