-- How ballots are hashed. No contract of a profile depends on it.
use Rattle.std.specs.Prelude.{ℕ, ◌+◌, ◌*◌, ◌/◌, ◌%◌, ◌^◌, List, [], ◌∷◌}
use Rattle.std.specs.List.{fold}
use Rattle.std.specs.Hash.{u64}
use Rattle.std.specs.RandomState.{initial_hasher}
use Rattle.std.specs.Hash.DefaultHasher as sip
use Rattle.std.specs.declared.random_state.RandomState.{RandomState}
use Rattle.ballot_base.specs.declared.hashing.BallotHashing.{BallotHashing}
use Rattle.ballot_base.specs.declared.hashing.BallotHasher.{BallotHasher}

-- the first 128 bits after the point: of the golden ratio with the last bit set, which makes the factor odd, and of pi
abbrev pub fixed_hashing : BallotHashing
fixed_hashing = record {
  factor = 0x9e37_79b9_7f4a_7c15_f39c_c060_5ced_c835;
  term = 0x243f_6a88_85a3_08d3_1319_8a2e_0370_7344;
}

-- the n-th word that keys give, by SipHash
abbrev pub keyed_word : RandomState → ℕ → ℕ
keyed_word keys n = sip.finish (fold sip.write (initial_hasher keys) (u64 n))

abbrev pub hashing_of : RandomState → BallotHashing
hashing_of keys = record {
  factor = keyed_word keys 0 + keyed_word keys 1 * 2 ^ 64;
  term = keyed_word keys 2 + keyed_word keys 3 * 2 ^ 64;
}

-- the bytes appended to a big-endian word, modulo 2^64
unfoldable pub word_of_bytes : ℕ → List ℕ → ℕ
word_of_bytes word [] = word
word_of_bytes word (byte ∷ bytes) = word_of_bytes ((word * 256 % 2 ^ 64 + byte) % 2 ^ 64) bytes

-- a hash before the first byte
abbrev pub begun : BallotHashing → BallotHasher
begun hashing = record { factor = hashing.factor; sum = hashing.term }

-- the sum with the factor times the word of these bytes, modulo 2^128
abbrev pub with_word : BallotHasher → List ℕ → BallotHasher
with_word hasher bytes =
    record hasher { sum = (hasher.factor * word_of_bytes 0 bytes % 2 ^ 128 + hasher.sum) % 2 ^ 128 }

abbrev pub upper_half : BallotHasher → ℕ
upper_half hasher = hasher.sum / 2 ^ 64
