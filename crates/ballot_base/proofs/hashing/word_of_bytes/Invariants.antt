use Rattle.std.proofs.Common.{◌≡◌, length}
use Rattle.ballot_base.specs.Hashing.{word_of_bytes}
use Rattle.ballot_base.proofs.hashing.word_of_bytes.Given as goal

abbrev pub invariant-loop-rest : goal.invariant-loop-rest
invariant-loop-rest l = word_of_bytes l.word l.rest ≡ word_of_bytes 0 l.bytes

abbrev pub decreases-loop-rest : goal.decreases-loop-rest
decreases-loop-rest l = length l.rest
