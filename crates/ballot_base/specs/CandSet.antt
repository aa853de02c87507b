-- A set of candidates, as the increasing list of its members.
use Rattle.std.specs.Prelude.{ℕ, ◌==◌, Bool, not, List, [], ◌∷◌, filter, fold, nat_le, nat_lt, if◌then◌else◌}
use Rattle.std.specs.List.{list_any, list_all}

-- whether n is a member
abbrev pub has_member : List ℕ → ℕ → Bool
has_member set n = list_any (λ x. x == n) set

-- the set with n
abbrev pub with_member : List ℕ → ℕ → List ℕ
with_member [] n = n ∷ []
with_member (x ∷ rest) n = if nat_lt n x then n ∷ x ∷ rest else (if n == x then x ∷ rest else x ∷ with_member rest n)

-- the set without n
abbrev pub without_member : List ℕ → ℕ → List ℕ
without_member set n = filter (λ x. not (x == n)) set

-- the members of both sets
abbrev pub common_members : List ℕ → List ℕ → List ℕ
common_members set other = filter (has_member other) set

-- the members of either set, or of both: the other set's members join, one by one
abbrev pub either_members : List ℕ → List ℕ → List ℕ
either_members set other = fold with_member set other

-- the members that are not in the other set
abbrev pub other_members : List ℕ → List ℕ → List ℕ
other_members set other = filter (λ n. not (has_member other n)) set

-- the members that are at most c
abbrev pub members_upto : List ℕ → ℕ → List ℕ
members_upto set c = filter (λ n. nat_le n c) set

-- whether the set has all members of the other
abbrev pub includes : List ℕ → List ℕ → Bool
includes set other = list_all (has_member set) other
