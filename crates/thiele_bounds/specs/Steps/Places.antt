-- The places of three candidates in a table of triples.
use Rattle.std.specs.Prelude.{ℕ, ◌≡◌, ◌+◌, ◌*◌, ◌/◌, ◌≤◌, true, List, length, max, min, slice_index}
use Rattle.ballot_base.specs.CandSet.{has_member}
use Rattle.thiele_bounds.specs.Steps.Paired.{pair_place, triangle}

-- how many triples there are of the numbers below n, also with a number twice or three times
abbrev pub tetrahedron : ℕ → ℕ
tetrahedron n = n * (n + 1) * (n + 2) / 6

-- the place of three candidates in a table of unordered triples, where the plane of a candidate comes after the planes
-- of all those before it, and has the pairs of those up to it
abbrev pub triple_place : ℕ → ℕ → ℕ → ℕ
triple_place i j l = tetrahedron (max (max i j) l) + pair_place (min (max i j) l) (min i j)

-- the word of three candidates, in any order
abbrev pub word_of : List ℕ → ℕ → ℕ → ℕ → ℕ
word_of table i j l = slice_index table (triple_place i j l)

-- the word of three candidates, the greatest of them first
abbrev pub word_at : List ℕ → ℕ → ℕ → ℕ → ℕ
word_at table high middle low = slice_index table (tetrahedron high + triangle middle + low)

-- the table has the planes of all members
abbrev pub HasRoom : List ℕ → List ℕ → Type 0
HasRoom members table = (n : ℕ) → has_member members n ≡ true → tetrahedron (n + 1) ≤ length table
