-- Increasing lists of whole numbers, and their order. Candidates are numbered from 1, and a set of them is
-- written as its members in increasing order.
use Rattle.std.specs.Prelude.{ℕ, zero, suc, ◌+◌, ◌-◌, ◌≤◌, ◌==◌, ◌&&◌, Bool, List, [], ◌∷◌, ◌++◌, length, map, filter, AllPairs, Option, None, Some, ⊤, IsTrue}
use Rattle.std.specs.List.{list_any}
use Rattle.std.specs.Str.{bytes_eq}
use Rattle.std.specs.Cmp.Lexicographic.{slice_cmp}
use Rattle.std.specs.Ordering.{nat_cmp, is_gt}

-- an increasing list of whole numbers from first to last
abbrev pub IsIncreasing : ℕ → ℕ → List ℕ → Type 0
IsIncreasing first last [] = ⊤
IsIncreasing first last (n ∷ rest) = (first ≤ n) × (n ≤ last) × IsIncreasing (n + 1) last rest

-- all increasing lists of `size` of the `count` numbers from `first` on, in lexicographic order: those that
-- begin with `first`, and then those of the numbers above it
unfoldable pub lists_of : ℕ → ℕ → ℕ → List (List ℕ)
lists_of count first zero = [] ∷ []
lists_of zero first (suc size) = []
lists_of (suc count) first (suc size) =
    map (λ rest. first ∷ rest) (lists_of count (first + 1) size) ++ lists_of count (first + 1) (suc size)

-- all increasing lists of `size` whole numbers from first to last, in lexicographic order
abbrev pub increasing_lists : ℕ → ℕ → ℕ → List (List ℕ)
increasing_lists first last size = lists_of (last + 1 - first) first size

-- whether the list is a committee of k of the candidates 1 to m
abbrev pub is_committee : ℕ → ℕ → List ℕ → Bool
is_committee m k list = list_any (bytes_eq list) (increasing_lists 1 m k)

-- whether x is later than y: of the same length, and greater at the first place where they differ
abbrev pub is_later : List ℕ → List ℕ → Bool
is_later x y = (length x == length y) && is_gt (slice_cmp nat_cmp x y)

abbrev pub IsLater : List ℕ → List ℕ → Type 0
IsLater x y = IsTrue (is_later x y)

-- each of the lists is later than all before it
abbrev pub AreInOrder : List (List ℕ) → Type 0
AreInOrder lists = AllPairs (λ x y. IsLater y x) lists

-- the lists that are later than the start; all of them if there is no start
abbrev pub later_than : Option (List ℕ) → List (List ℕ) → List (List ℕ)
later_than None lists = lists
later_than (Some start) lists = filter (λ list. is_later list start) lists
