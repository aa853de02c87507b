-- The names that stand beside the numbers of candidates and parties.
use Rattle.std.specs.Prelude.{ℕ, zero, suc, ◌-◌, Bool, List, [], ◌∷◌, ◌++◌, filter, length, map, Option, Some, None}
use Rattle.std.specs.Prelude.{codes, decimal, nat_lt, slice_get, slice_index, unwrap_or, if◌then◌else◌}
use Rattle.std.specs.List.{range_with_len}
use Rattle.text_output.specs.Text.{numbers_text}

-- the names that stand beside numbers: none if they are not wanted, and otherwise the name of each candidate from the
-- first on, [] for one without a name
abbrev pub Names : Type 0
Names = Option (List (List ℕ))

-- the names of candidates, if they are wanted
abbrev pub naming : Bool → List (List ℕ) → Names
naming wanted names = if wanted then Some names else None

-- a name as it is, or the number of a candidate without one
abbrev pub name_or_number : List ℕ → ℕ → List ℕ
name_or_number [] n = decimal n
name_or_number (b ∷ bytes) n = b ∷ bytes

-- what a candidate is called; one who is not in the list has no name
abbrev pub called : List (List ℕ) → ℕ → List ℕ
called names zero = decimal 0
called names (suc i) = name_or_number (unwrap_or (slice_get names i) []) (suc i)

-- the pieces in a row, with the separator between each two
abbrev pub joined : List ℕ → List (List ℕ) → List ℕ
joined separator [] = []
joined separator (piece ∷ []) = piece
joined separator (piece ∷ next ∷ pieces) = piece ++ separator ++ joined separator (next ∷ pieces)

-- the names of candidates, with `; ` between them
abbrev pub names_text : List (List ℕ) → List ℕ → List ℕ
names_text names numbers = joined (codes "; ") (map (called names) numbers)

-- what stands beside numbers if names are wanted: a tab and the names of these candidates
abbrev pub beside : Names → List ℕ → List ℕ
beside None candidates = []
beside (Some names) candidates = 9 ∷ names_text names candidates

-- the numbers of candidates, and their names beside them
abbrev pub candidates_text : Names → List ℕ → List ℕ
candidates_text names candidates = numbers_text candidates ++ beside names candidates

-- the parties, numbered from 1, that have at least one of these seats
abbrev pub seated_parties : List ℕ → List ℕ
seated_parties seats = filter (λ party. nat_lt 0 (slice_index seats (party - 1))) (range_with_len 1 (length seats))
