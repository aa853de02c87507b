-- What the bytes that were fed show, whatever follows them (PrefLib data format; the faults are this project's).
use Rattle.std.specs.Prelude.{◌≡◌, ◌⊎◌, ℕ, ◌+◌, ◌-◌, ◌<◌, ◌==◌, Bool, true, not, List, [], ◌∷◌, ◌++◌, length, take, reverse}
use Rattle.std.specs.Prelude.{take_while, nat_lt, Option, Some, None, IfSome, option_map}
use Rattle.preflib_text.specs.declared.pick.Pick.{Pick}
use Rattle.preflib_text.specs.declared.fault.FaultName.TheVariants.{LongLine, Memory}
use Rattle.preflib_text.specs.declared.fault.ReadFault.{ReadFault}
use Rattle.preflib_text.specs.Limits.{most_line_bytes}
use Rattle.preflib_text.specs.Lines.{lines_of, without_mark, without_return}
use Rattle.preflib_text.specs.Reading.{Cast, IsReading, or_else, fault_if, at_line, fault_of_line, first_faulty_line}
use Rattle.preflib_text.specs.Reading.{is_growth}

-- the bytes since the last LF: the beginning of a line that has not ended
abbrev pub unfinished : List ℕ → List ℕ
unfinished bytes = reverse (take_while (λ b. not (b == 10)) (reverse bytes))

-- the bytes up to the last LF
abbrev pub ended : List ℕ → List ℕ
ended bytes = take (length bytes - length (unfinished bytes)) bytes

-- the lines that have ended, and the beginning of the next one
abbrev pub ended_lines : List ℕ → List (List ℕ)
ended_lines bytes = lines_of (ended bytes)

abbrev pub unfinished_line : List ℕ → List ℕ
unfinished_line bytes = unfinished (without_mark bytes)

-- the line is too long, whatever follows; a CR at its end may belong to the end of the line
abbrev pub is_too_long : List ℕ → Bool
is_too_long line = nat_lt most_line_bytes (length (without_return line))

module _ (pick : Pick) (read : List ℕ → Option Cast) where
  -- the first fault of a line that has ended; failing that, that the next line is too long
  abbrev pub known_fault : List ℕ → Option ReadFault
  known_fault bytes = or_else (option_map fault_of_line (first_faulty_line pick read [] (ended_lines bytes)))
      (option_map (at_line (length (ended_lines bytes) + 1)) (fault_if (is_too_long (unfinished_line bytes)) LongLine))

-- what the bytes show: their first fault, or that they have none so far
abbrev pub Tells : List ℕ → Pick → Option ReadFault → Type 0
Tells bytes pick fault =
    (read : List ℕ → Option Cast) × IsReading read × (fault ≡ known_fault pick read bytes)

-- memory ran out at a line that makes the profile grow, and no line up to it has a fault
abbrev pub LacksMemory : List (List ℕ) → Pick → ReadFault → Type 0
LacksMemory lines pick fault = (before : List (List ℕ)) × (line : List ℕ) × (after : List (List ℕ))
    × (lines ≡ before ++ line ∷ after) × (fault ≡ at_line (length before + 1) Memory)
    × (read : List ℕ → Option Cast) × IsReading read
    × (first_faulty_line pick read [] (before ++ line ∷ []) ≡ None) × (is_growth pick read before line ≡ true)

-- the fault has no line, or a line after these
abbrev pub IsLate : List (List ℕ) → ReadFault → Type 0
IsLate lines fault = IfSome fault.line (λ n. length lines < n)

-- what contracts see of a reader in pieces: the pick, all bytes that were fed, and the fault that was returned
pub record Feeding : Type 0 where
  pub pick : Pick
  pub fed : List ℕ
  pub fault : Option ReadFault

abbrev pub feeding : Pick → List ℕ → Option ReadFault → Feeding
feeding pick fed fault = record { pick = pick; fed = fed; fault = fault }

-- the fault is the one that the bytes show, or memory ran out at a line that has ended
abbrev pub IsTrue : Feeding → Type 0
IsTrue reader = Tells reader.fed reader.pick reader.fault
    ⊎ ((fault : ReadFault) × (reader.fault ≡ Some fault) × LacksMemory (ended_lines reader.fed) reader.pick fault)
