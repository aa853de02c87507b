-- The names of types of files and of faults, as bytes.
use Rattle.std.specs.Prelude.{ℕ, List, [], ◌∷◌, ◌++◌, Option, Some, None, find, codes, decimal}
use Rattle.std.specs.Str.{bytes_eq, str_eq_ignore_ascii_case}
use Rattle.preflib_text.specs.declared.pick.Kind.{Kind}
use Rattle.preflib_text.specs.declared.pick.Kind.TheVariants.{Cat, Soc, Soi, Toc, Toi}
use Rattle.ballot_base.specs.declared.profile.AddFault.{AddFault}
use Rattle.ballot_base.specs.declared.profile.AddFault.TheVariants as add
use Rattle.preflib_text.specs.declared.fault.FaultName.{FaultName}
use Rattle.preflib_text.specs.declared.fault.ReadFault.{ReadFault}
use Rattle.preflib_text.specs.declared.fault.FaultName.TheVariants.{LongLine, BadNumber, TooManyCandidates, ConflictingKey, NoAlternatives}
use Rattle.preflib_text.specs.declared.fault.FaultName.TheVariants.{NoKind, BadKind, BadBallot, BadCount, NoSuchCandidate}
use Rattle.preflib_text.specs.declared.fault.FaultName.TheVariants.{RepeatedCandidate, NotStrict, Incomplete, TooManyClasses, NoVoters}
use Rattle.preflib_text.specs.declared.fault.FaultName.TheVariants.{TooManyVoters, PickMisfit, Memory}

-- the name of a type of files (PrefLib data format)
abbrev pub kind_name : Kind → List ℕ
kind_name Cat = codes "cat"
kind_name Soc = codes "soc"
kind_name Soi = codes "soi"
kind_name Toc = codes "toc"
kind_name Toi = codes "toi"

-- all types
abbrev pub kinds : List Kind
kinds = Cat ∷ Soc ∷ Soi ∷ Toc ∷ Toi ∷ []

-- the type with a name, in letters of any case
abbrev pub kind_named : List ℕ → Option Kind
kind_named text = find (λ kind. str_eq_ignore_ascii_case text (kind_name kind)) kinds

-- the name of a fault
abbrev pub fault_name : FaultName → List ℕ
fault_name LongLine = codes "LongLine"
fault_name BadNumber = codes "BadNumber"
fault_name TooManyCandidates = codes "TooManyCandidates"
fault_name ConflictingKey = codes "ConflictingKey"
fault_name NoAlternatives = codes "NoAlternatives"
fault_name NoKind = codes "NoKind"
fault_name BadKind = codes "BadKind"
fault_name BadBallot = codes "BadBallot"
fault_name BadCount = codes "BadCount"
fault_name NoSuchCandidate = codes "NoSuchCandidate"
fault_name RepeatedCandidate = codes "RepeatedCandidate"
fault_name NotStrict = codes "NotStrict"
fault_name Incomplete = codes "Incomplete"
fault_name TooManyClasses = codes "TooManyClasses"
fault_name NoVoters = codes "NoVoters"
fault_name TooManyVoters = codes "TooManyVoters"
fault_name PickMisfit = codes "PickMisfit"
fault_name Memory = codes "Memory"

-- all faults
abbrev pub faults : List FaultName
faults =
    LongLine ∷ BadNumber ∷ TooManyCandidates ∷ ConflictingKey ∷ NoAlternatives ∷ NoKind ∷
    BadKind ∷ BadBallot ∷ BadCount ∷ NoSuchCandidate ∷ RepeatedCandidate ∷ NotStrict ∷
    Incomplete ∷ TooManyClasses ∷ NoVoters ∷ TooManyVoters ∷ PickMisfit ∷ Memory ∷ []

-- the fault with a name
abbrev pub fault_named : List ℕ → Option FaultName
fault_named name = find (λ fault. bytes_eq name (fault_name fault)) faults

-- the line of a fault, as a text
abbrev pub line_text : Option ℕ → List ℕ
line_text None = []
line_text (Some number) = codes "line " ++ decimal number ++ codes ": "

-- a fault as a text: its line if it has one, and its name
abbrev pub read_fault_text : ReadFault → List ℕ
read_fault_text fault = line_text fault.line ++ fault_name fault.name

-- the fault of a line whose ballot or name was not added
abbrev pub added_fault : AddFault → FaultName
added_fault add.TooManyVoters = TooManyVoters
added_fault add.Memory = Memory
