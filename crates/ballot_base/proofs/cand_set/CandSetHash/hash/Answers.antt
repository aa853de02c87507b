use Rattle.ballot_base.specs.Steps.Bits.{bits_of_members}
use Rattle.ballot_base.proofs.cand_set.CandSetHash.hash.Goals as goal

pub returns : goal.returns
returns g c = rw (← c.self.view_is, bits_of_members c.self.inside.bits c.self.invariant) c.hash.ensures
