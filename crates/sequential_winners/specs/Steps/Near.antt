-- Tables that hold, for each candidate, others who are near it.
use Rattle.std.specs.Prelude.{◌≡◌, ℕ, ◌⊎◌, ◌<◌, ◌*◌, nat_lt, fold, true, false, List, [], length, slice_index_or, if◌then◌else◌}
use Rattle.ballot_base.specs.CandSet.{has_member, with_member}

-- the candidate, and those that the table holds for it
abbrev pub near_of : List (List ℕ) → ℕ → List ℕ
near_of table c = with_member (slice_index_or table c []) c

-- the first of the candidates for whom the number is least
abbrev pub first_least : (ℕ → ℕ) → List ℕ → ℕ
first_least number candidates =
    fold (λ best c. if nat_lt (number c) (number best) then c else best) (slice_index_or candidates 0 0) candidates

-- of any two members, one does not have the other near it
abbrev pub AreFar : List (List ℕ) → List ℕ → Type 0
AreFar table set = (c d : ℕ) → has_member set c ≡ true → has_member set d ≡ true → (c ≡ d → ⊥)
    → (has_member (near_of table c) d ≡ false) ⊎ (has_member (near_of table d) c ≡ false)

-- each of the candidates has so few near it that some are left if all near `others` of them are gone
abbrev pub AreMany : List (List ℕ) → List ℕ → ℕ → Type 0
AreMany table candidates others =
    (c : ℕ) → has_member candidates c ≡ true → others * length (near_of table c) < length candidates
