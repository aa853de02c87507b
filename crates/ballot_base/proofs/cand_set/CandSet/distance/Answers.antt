use Rattle.std.proofs.Common.{◌∙◌, ℕ, ap, arith, bit_xor, length}
use Rattle.std.proofs.lemmas.Nat.{xor_lt}
use Rattle.ballot_base.specs.Limits.{most_candidates}
use Rattle.ballot_base.specs.Steps.Bits.{members}
use Rattle.ballot_base.proofs.Committees.{length-increasing}
use Rattle.ballot_base.proofs.FirstMember.{length-members}
use Rattle.ballot_base.proofs.Increasing.{differing-count}
use Rattle.ballot_base.proofs.Members.{IsIncreasing-members, members_differing}
use Rattle.ballot_base.proofs.cand_set.CandSet.distance.Goals as goal

pub overflow_cast-result : goal.overflow_cast-result
overflow_cast-result c =
    let word : ℕ = bit_xor c.self.inside.bits c.other.inside.bits in
    omega (
      arith,
      length-members word (xor_lt most_candidates c.self.inside.bits c.other.inside.bits c.self.invariant c.other.invariant),
      length-increasing 1 most_candidates (members word) (IsIncreasing-members word),
    )

pub returns : goal.returns
returns c =
    let bits : ℕ = c.self.inside.bits in
    let other : ℕ = c.other.inside.bits in
    rw (← c.self.view_is, ← c.other.view_is)
    (length-members (bit_xor bits other) (xor_lt most_candidates bits other c.self.invariant c.other.invariant)
    ∙ ap length (members_differing bits other) ∙ differing-count 1 most_candidates _ _ (IsIncreasing-members bits) (IsIncreasing-members other))
