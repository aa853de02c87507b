-- What is still to come of the sets of one size, in lexicographic order.
use Rattle.std.specs.Prelude.{◌≡◌, ℕ, zero, suc, ◌+◌, ◌-◌, ◌<◌, ◌≤◌, ◌==◌, List, [], ◌∷◌, ◌++◌, Option, None, Some, length, map, if◌then◌else◌}
use Rattle.std.specs.List.{range_with_len}
use Rattle.ballot_base.specs.Limits.{most_candidates}
use Rattle.ballot_base.specs.Lists.{IsIncreasing, lists_of}

-- `set` and the lists after it, among the lists of its length over the `count` numbers from `first` on
unfoldable pub lists_from : ℕ → ℕ → List ℕ → List (List ℕ)
lists_from count first [] = [] ∷ []
lists_from zero first (x ∷ rest) = []
lists_from (suc count) first (x ∷ rest) =
    if x == first
    then map (λ list. first ∷ list) (lists_from count (first + 1) rest)
    ++ lists_of count (first + 1) (suc (length rest))
    else lists_from count (first + 1) (x ∷ rest)

-- the sets from this place on, of the candidates 1 to m
abbrev pub sets_from : ℕ → Option (List ℕ) → List (List ℕ)
sets_from m None = []
sets_from m (Some set) = lists_from m 1 set

-- a place is a set of the candidates 1 to m, or the end
abbrev pub MayComeNext : ℕ → Option (List ℕ) → Type 0
MayComeNext m None = m ≤ most_candidates
MayComeNext m (Some set) = (m ≤ most_candidates) × IsIncreasing 1 m set

-- the set is the last of its size: it has the highest of the numbers 1 to m
abbrev pub IsLastSet : ℕ → List ℕ → Type 0
IsLastSet m set = set ≡ range_with_len (m + 1 - length set) (length set)

-- `next` comes right after `set`: the last number that can grow grows by 1, and those after it follow it at once
abbrev pub IsNextSet : ℕ → List ℕ → List ℕ → Type 0
IsNextSet m set next =
    (front : List ℕ) × (last : ℕ) × (tail : ℕ) × (last + tail < m)
    × (set ≡ front ++ last ∷ range_with_len (m + 1 - tail) tail)
    × (next ≡ front ++ range_with_len (last + 1) (suc tail))
