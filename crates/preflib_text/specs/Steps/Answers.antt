-- The result of reading one ballot line.
use Rattle.std.specs.Prelude.{◌≡◌, ◌⊎◌, ℕ, List, Option, Some, None}
use Rattle.preflib_text.specs.declared.pick.Kind.{Kind}
use Rattle.preflib_text.specs.declared.pick.Way.{Way}
use Rattle.preflib_text.specs.declared.fault.FaultName.{FaultName}
use Rattle.preflib_text.specs.declared.fault.FaultName.TheVariants.{BadBallot}
use Rattle.preflib_text.specs.declared.approvals.Marks.{Marks}
use Rattle.preflib_text.specs.declared.approvals.Taking.{Taking}
use Rattle.preflib_text.specs.Ballot.{IsBallotLine}
use Rattle.preflib_text.specs.Approvals.{approved}
use Rattle.preflib_text.specs.Reading.{ballot_fault}
use Rattle.preflib_text.specs.Steps.Tokens.{capped, ballot_of}
use Rattle.preflib_text.specs.Steps.Marks.{no_marks, with_classes}

-- the line has a count, capped here, and classes with these marks
abbrev pub HasMarks : ℕ → Taking → List ℕ → ℕ → Marks → Type 0
HasMarks m taking line read marks = (count : ℕ) × (classes : List (List ℕ))
    × (ballot_of line ≡ Some (record { count = count; classes = classes })) × (read ≡ capped count)
    × (marks ≡ with_classes m taking no_marks classes)

-- the line is a ballot of this count without a fault, and its voters approve this set
abbrev pub IsGoodBallot : List ℕ → Kind → ℕ → Option ℕ → Way → ℕ → List ℕ → Type 0
IsGoodBallot line kind m categories way count set = (classes : List (List ℕ)) × IsBallotLine line count classes
    × (ballot_fault kind m categories count classes ≡ None) × (set ≡ approved kind way classes)

-- the line has no count and classes, or they have this fault
abbrev pub IsBallotFault : List ℕ → Kind → ℕ → Option ℕ → FaultName → Type 0
IsBallotFault line kind m categories fault =
    ((fault ≡ BadBallot) × ((count : ℕ) (classes : List (List ℕ)) → IsBallotLine line count classes → ⊥))
    ⊎ ((count : ℕ) × (classes : List (List ℕ)) × IsBallotLine line count classes
    × (ballot_fault kind m categories count classes ≡ Some fault))
