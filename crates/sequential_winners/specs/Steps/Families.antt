-- What the families of winners keep.
use Rattle.std.specs.Prelude.{◌≡◌, ℕ, true, false, ◌+◌, ◌-◌, ◌*◌, ◌<◌, ◌≤◌, ◌&&◌, ◌==◌, Bool, List, [], Option, None, Some, length, nat_le, slice_index_or}
use Rattle.std.specs.List.{list_all, list_any, range_with_len, zip}
use Rattle.ballot_base.specs.CandSet.{has_member}
use Rattle.ballot_base.specs.Limits.{most_candidates}
use Rattle.ballot_base.specs.Ballots.{Row, Election}
use Rattle.tie_walk.specs.Winners.{Winning}
use Rattle.sequential_winners.specs.Clones.{is_between}
use Rattle.sequential_winners.specs.Families.{Sequential}
use Rattle.sequential_winners.specs.Steps.Tables.{completed}
use Rattle.sequential_winners.specs.declared.families.Block.{Block}

-- Whether the family has a committee of the set and of `left` of the candidates after c. At most `left` of them are
-- needed for as many of each class as its least set has, and at least `left` are there for as many as its most set has.
abbrev pub may_be_in : ℕ → List Row → ℕ → List ℕ → ℕ → List ℕ × List ℕ → Bool
may_be_in m rows c set left family =
    let all = completed c m rows set family.0 in
    let full = completed c m rows set family.1 in
    nat_le (length all) (length set + left) && is_between m rows family.0 family.1 all
    && nat_le (length set + left) (length full)

-- what the winners of k keep of an election, whether or not their families are stored
pub record KeepsElection (e : Election) (k : ℕ) : Type 0 where
  pub some : 1 ≤ k
  pub most : e.m ≤ most_candidates
  pub fits : k ≤ e.m

-- the number of families that a block is of
abbrev pub block_size : ℕ
block_size = 64

-- Of the families of a block, those from a place on, each least set has what the block has in all, and it has in some
-- what each most set has.
abbrev pub IsBlock : List (List ℕ) → List (List ℕ) → ℕ → Block → Type 0
IsBlock leasts mosts start block =
    (i : ℕ) → start ≤ i → i < start + block_size → i < length leasts → (n : ℕ)
    → (has_member block.in_all n ≡ true → has_member (slice_index_or leasts i []) n ≡ true)
    × (has_member (slice_index_or mosts i []) n ≡ true → has_member block.in_some n ≡ true)

abbrev pub no_block : Block
no_block = record { in_all = []; in_some = [] }

-- each `block_size` families in a row have a block
pub record AreBlocks (leasts mosts : List (List ℕ)) (blocks : List Block) : Type 0 where
  pub enough : length leasts ≤ block_size * length blocks
  pub each : (b : ℕ) → b < length blocks
      → IsBlock leasts mosts (b * block_size) (slice_index_or blocks b no_block)

-- true only if some family has a committee that is asked for, and false only if none of the block has one
abbrev pub IsBlockAnswer : Sequential → ℕ → List ℕ → List (List ℕ) → List (List ℕ) → ℕ → Bool → Type 0
IsBlockAnswer s c set leasts mosts block result =
    let p = may_be_in s.election.m s.election.rows c set (s.k - length set) in
    (result ≡ true → list_any p (zip leasts mosts) ≡ true)
    × (result ≡ false → (i : ℕ) → block * block_size ≤ i → i < block * block_size + block_size
    → i < length leasts
    → p (slice_index_or leasts i [], slice_index_or mosts i []) ≡ false)

-- whether each candidate is its only clone
abbrev pub are_apart : ℕ → List (List ℕ) → Bool
are_apart m table = list_all (λ c. length (slice_index_or table c []) == 1) (range_with_len 1 m)

-- the winners still to come: those that are stored in order, or those of the walk
abbrev pub still_to_come : {T : Type 0} → List (List ℕ) → Option (Winning T) → List (List ℕ)
still_to_come sorted None = sorted
still_to_come sorted (Some walk) = walk.left
