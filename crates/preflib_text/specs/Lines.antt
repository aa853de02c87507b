-- The lines of a ballot file (PrefLib data format).
use Rattle.std.specs.Prelude.{ℕ, ◌==◌, ◌||◌, Bool, not, List, [], ◌∷◌, drop, map, nat_eq, if◌then◌else◌, ◌&&◌}
use Rattle.std.specs.List.{list_all, starts_with}

-- a byte onto the front of the first piece
abbrev pub onto_first : ℕ → List (List ℕ) → List (List ℕ)
onto_first b [] = (b ∷ []) ∷ []
onto_first b (piece ∷ pieces) = (b ∷ piece) ∷ pieces

-- the pieces between LF bytes; nothing follows a last LF
unfoldable pub pieces_of : List ℕ → List (List ℕ)
pieces_of [] = []
pieces_of (b ∷ bytes) = if b == 10 then [] ∷ pieces_of bytes else onto_first b (pieces_of bytes)

-- the line without a CR at its end
unfoldable pub without_return : List ℕ → List ℕ
without_return [] = []
without_return (b ∷ []) = if b == 13 then [] else b ∷ []
without_return (b ∷ c ∷ bytes) = b ∷ without_return (c ∷ bytes)

-- the input without a byte order mark at its start
abbrev pub without_mark : List ℕ → List ℕ
without_mark bytes = if starts_with nat_eq bytes (239 ∷ 187 ∷ 191 ∷ []) then drop 3 bytes else bytes

-- the lines of an input, without their ends: LF, CR LF, or the end of the input with a CR before it
abbrev pub lines_of : List ℕ → List (List ℕ)
lines_of bytes = map without_return (pieces_of (without_mark bytes))

-- a blank is a space or a tab
abbrev pub is_blank : ℕ → Bool
is_blank b = (b == 32) || (b == 9)

-- the bytes from the first that is not a blank
unfoldable pub trim_start : List ℕ → List ℕ
trim_start [] = []
trim_start (b ∷ bytes) = if is_blank b then trim_start bytes else b ∷ bytes

-- whether the first byte that is not a blank is `#`
abbrev pub is_metadata_line : List ℕ → Bool
is_metadata_line line = starts_with nat_eq (trim_start line) (35 ∷ [])

-- every other line that does not consist only of blanks is a ballot line
abbrev pub is_ballot_line : List ℕ → Bool
is_ballot_line line = not (list_all is_blank line) && not (is_metadata_line line)
