-- The kind of a line.
use Rattle.std.specs.Prelude.{◌≡◌, ℕ, true, false, List}
use Rattle.preflib_text.specs.declared.lines.Sort.{Sort}
use Rattle.preflib_text.specs.declared.lines.Sort.TheVariants.{Blank, Metadata, Ballot}
use Rattle.preflib_text.specs.Lines.{is_ballot_line, is_metadata_line}

-- the line is of this kind
abbrev pub IsSort : List ℕ → Sort → Type 0
IsSort line Blank = (is_ballot_line line ≡ false) × (is_metadata_line line ≡ false)
IsSort line Metadata = (is_ballot_line line ≡ false) × (is_metadata_line line ≡ true)
IsSort line Ballot = (is_ballot_line line ≡ true) × (is_metadata_line line ≡ false)
