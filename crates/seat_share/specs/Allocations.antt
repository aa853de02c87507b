-- All fair allocations, and those later than a start.
use Rattle.std.specs.Prelude.{ℕ, zero, suc, ◌-◌, ◌==◌, ◌&&◌, Bool, IsTrue, Option, Some, None}
use Rattle.std.specs.Prelude.{List, [], ◌∷◌, map, flat_map, filter, length}
use Rattle.std.specs.Cmp.Lexicographic.{slice_cmp}
use Rattle.std.specs.List.{range_with_len}
use Rattle.std.specs.Ordering.{nat_cmp, is_gt}
use Rattle.seat_share.specs.declared.method.Method.{Method}
use Rattle.seat_share.specs.Fair.{is_fair}

-- all lists of `count` whole numbers with this sum, in ascending order: by the first number, then by the others
unfoldable pub lists_with_sum : ℕ → ℕ → List (List ℕ)
lists_with_sum zero zero = [] ∷ []
lists_with_sum zero (suc sum) = []
lists_with_sum (suc count) sum =
    flat_map (λ first. map (λ rest. first ∷ rest) (lists_with_sum count (sum - first))) (range_with_len 0 (suc sum))

-- the fair allocations, in ascending order
abbrev pub allocations : Method → List ℕ → ℕ → List (List ℕ)
allocations method votes seats = filter (is_fair method votes seats) (lists_with_sum (length votes) seats)

-- whether x is later than y: of the same length, and greater at the first place where they differ
abbrev pub is_later : List ℕ → List ℕ → Bool
is_later x y = (length x == length y) && is_gt (slice_cmp nat_cmp x y)

abbrev pub IsLater : List ℕ → List ℕ → Type 0
IsLater x y = IsTrue (is_later x y)

-- the allocations that are later than the start, in the same order; all of them if there is no start
abbrev pub later_than : Option (List ℕ) → List (List ℕ) → List (List ℕ)
later_than None allocations = allocations
later_than (Some start) allocations = filter (λ allocation. is_later allocation start) allocations
