-- What is kept of the bytes that were fed.
use Rattle.std.specs.Prelude.{◌≡◌, ℕ, ◌+◌, ◌==◌, true, false, List, [], Option, Some, None, length}
use Rattle.std.specs.Prelude.{if◌then◌else◌}
use Rattle.ballot_base.specs.Limits.{most_candidates}
use Rattle.ballot_base.specs.Ballots.{Election}
use Rattle.preflib_text.specs.declared.pick.Pick.{Pick}
use Rattle.preflib_text.specs.declared.fault.FaultName.{FaultName}
use Rattle.preflib_text.specs.declared.fault.ReadFault.{ReadFault}
use Rattle.preflib_text.specs.declared.notes.Notes.{Notes}
use Rattle.preflib_text.specs.Limits.{most_line_bytes}
use Rattle.preflib_text.specs.Lines.{without_mark, without_return}
use Rattle.preflib_text.specs.Reading.{or_else, at_line}
use Rattle.preflib_text.specs.Pieces.{ended_lines, unfinished, unfinished_line, is_too_long, feeding, IsTrue}
use Rattle.preflib_text.specs.Steps.Notes.{line_error, line_notes, line_effect, effect_error, effect_takes, with_effect}
use Rattle.preflib_text.specs.Steps.Notes.{Refuses, IsSound}
use Rattle.preflib_text.specs.Steps.After.{IsAfter, IsFine}

-- the room for a line: the longest, with a CR at its end and a byte order mark before it
abbrev pub line_room : ℕ
line_room = most_line_bytes + 4

-- the bytes of a line after `number` others, without the byte order mark if it is the first line
abbrev pub unmarked : ℕ → List ℕ → List ℕ
unmarked number bytes = if number == 0 then without_mark bytes else bytes

abbrev pub line_with : ℕ → List ℕ → List ℕ
line_with number bytes = without_return (unmarked number bytes)

-- notes and a profile to which a line may come
pub record IsReady (notes : Notes) (e : Election) : Type 0 where
  pub sound : IsSound notes
  pub opened : notes.has_ballot ≡ false → (e.m ≡ most_candidates) × (e.rows ≡ [])
  pub begun : notes.has_ballot ≡ true → notes.alternatives ≡ Some e.m

-- a line was read
pub record IsRead (pick : Pick) (notes : Notes) (e : Election) (line : List ℕ) (next_notes : Notes) (next : Election)
    : Type 0 where
  pub no_error : line_error pick notes line ≡ None
  pub no_effect : effect_error e (line_effect pick notes line) ≡ None
  pub notes_are : next_notes ≡ line_notes pick notes line
  pub next_is : next ≡ with_effect e (line_effect pick notes line)

-- a line was refused, and a line with this number was
abbrev pub IsLineRefused : Pick → Notes → Election → List ℕ → FaultName → Type 0
IsLineRefused pick notes e line name =
    Refuses (or_else (line_error pick notes line) (effect_error e (line_effect pick notes line)))
    (effect_takes e (line_effect pick notes line)) name

abbrev pub IsRefused : Pick → Notes → Election → List ℕ → ℕ → ReadFault → Type 0
IsRefused pick notes e line number fault =
    (name : FaultName) × (fault ≡ at_line number name) × IsLineRefused pick notes e line name

-- these bytes were fed, without a fault so far
pub record IsFed (pick : Pick) (bytes : List ℕ) (notes : Notes) (e : Election) (number : ℕ) (held : List ℕ)
    : Type 0 where
  pub fine : IsFine pick (ended_lines bytes)
  pub after : IsAfter pick (ended_lines bytes) notes e
  pub count : number ≡ length (ended_lines bytes)
  pub kept : held ≡ unfinished bytes
  pub short : is_too_long (unfinished_line bytes) ≡ false

-- what is kept agrees with what was fed
unfoldable pub Agrees : Pick → List ℕ → Option ReadFault → Notes → Election → ℕ → List ℕ → Type 0
Agrees pick bytes None notes e number held = IsFed pick bytes notes e number held
Agrees pick bytes (Some fault) notes e number held = IsTrue (feeding pick bytes (Some fault))
