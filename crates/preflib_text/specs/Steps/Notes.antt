-- What is kept of the lines so far, and what the next line does to the profile.
use Rattle.std.specs.Prelude.{◌≡◌, ◌⊎◌, ℕ, ◌+◌, ◌-◌, ◌≤◌, Bool, true, false, not, List, [], length, take}
use Rattle.std.specs.Prelude.{slice_set, Option, Some, None, IfSome, is_some, ⊤, Result, Ok, Err, MatchResult}
use Rattle.std.specs.Prelude.{unwrap_or, nat_lt, if◌then◌else◌}
use Rattle.ballot_base.specs.Limits.{most_candidates, most_voters}
use Rattle.ballot_base.specs.Lists.{IsIncreasing}
use Rattle.ballot_base.specs.Ballots.{Election, election, has_ballot, with_votes, voter_count}
use Rattle.preflib_text.specs.declared.pick.Kind.{Kind}
use Rattle.preflib_text.specs.declared.pick.Pick.{Pick}
use Rattle.preflib_text.specs.declared.fault.FaultName.{FaultName}
use Rattle.preflib_text.specs.declared.fault.FaultName.TheVariants.{LongLine, BadNumber, TooManyCandidates}
use Rattle.preflib_text.specs.declared.fault.FaultName.TheVariants.{NoAlternatives, NoKind, BadKind, BadBallot}
use Rattle.preflib_text.specs.declared.fault.FaultName.TheVariants.{NoVoters, TooManyVoters, Memory, PickMisfit}
use Rattle.preflib_text.specs.declared.notes.Notes.{Notes}
use Rattle.preflib_text.specs.declared.notes.Effect as rust
use Rattle.preflib_text.specs.declared.notes.Effect.TheVariants as step
use Rattle.preflib_text.specs.Limits.{most_line_bytes, most_categories}
use Rattle.preflib_text.specs.Lines.{is_ballot_line}
use Rattle.preflib_text.specs.Metadata.{Fact, TypeIs, AlternativesAre, CategoriesAre, NameIs, told_of}
use Rattle.preflib_text.specs.Metadata.{written_number}
use Rattle.preflib_text.specs.Names.{kind_named}
use Rattle.preflib_text.specs.Approvals.{approved}
use Rattle.preflib_text.specs.Reading.{Cast, or_else, fault_if, number_fault, is_fitting, ballot_fault, kind_or}
use Rattle.preflib_text.specs.Reading.{is_empty, kind_or_usual, may_be_candidate}
use Rattle.preflib_text.specs.Steps.Tokens.{ballot_of}

-- the first of two types
abbrev pub first_kind : Option Kind → Option Kind → Option Kind
first_kind (Some kind) other = Some kind
first_kind None other = other

-- what is noted before the first line
abbrev pub fresh_notes : Pick → Notes
fresh_notes pick = record {
  alternatives = None;
  categories = None;
  kind = kind_or NoKind (first_kind pick.kind pick.ending);
  has_ballot = false;
}

-- the type after a metadata line gives one; a type that the reader was given stays
abbrev pub kind_with : Option Kind → Result Kind FaultName → List ℕ → Result Kind FaultName
kind_with (Some kind) noted text = noted
kind_with None noted text = kind_or BadKind (kind_named text)

-- what a line does to the profile
pub data Effect : Type 0 where
  NoEffect : Effect
  Names : ℕ → List ℕ → Effect
  Casts : Option ℕ → List ℕ → ℕ → Effect

abbrev pub effect_of : rust.Effect → Effect
effect_of step.Nothing = NoEffect
effect_of (step.Name n name) = Names n name.now
effect_of (step.Ballot vote) = Casts vote.first vote.ballot.approved vote.ballot.count

-- ---- metadata

abbrev pub told_error : Notes → Fact → Option FaultName
told_error notes (AlternativesAre value) =
    number_fault (Some TooManyCandidates) most_candidates notes.alternatives (written_number value)
told_error notes (CategoriesAre value) =
    number_fault (Some BadNumber) most_categories notes.categories (written_number value)
told_error notes _ = None

abbrev pub told_notes : Pick → Notes → Fact → Notes
told_notes pick notes (TypeIs value) = record notes { kind = kind_with pick.kind notes.kind value }
told_notes pick notes (AlternativesAre value) = record notes { alternatives = written_number value }
told_notes pick notes (CategoriesAre value) = record notes { categories = written_number value }
told_notes pick notes _ = notes

abbrev pub told_effect : Notes → Fact → Effect
told_effect notes (NameIs n name) = if may_be_candidate notes.alternatives n then Names n name else NoEffect
told_effect notes _ = NoEffect

-- ---- ballots

abbrev pub cast_error : Kind → ℕ → Option ℕ → Option Cast → Option FaultName
cast_error kind m categories None = Some BadBallot
cast_error kind m categories (Some cast) = ballot_fault kind m categories cast.count cast.classes

abbrev pub kind_error : Pick → Notes → ℕ → Option Cast → Result Kind FaultName → Option FaultName
kind_error pick notes m cast (Err name) = Some name
kind_error pick notes m cast (Ok kind) =
    or_else (fault_if (not (is_fitting kind notes.categories pick.way)) PickMisfit)
    (cast_error kind m notes.categories cast)

abbrev pub alternatives_error : Pick → Notes → Option Cast → Option ℕ → Option FaultName
alternatives_error pick notes cast None = Some NoAlternatives
alternatives_error pick notes cast (Some m) = kind_error pick notes m cast notes.kind

abbrev pub ballot_error : Pick → Notes → Option Cast → Option FaultName
ballot_error pick notes cast = alternatives_error pick notes cast notes.alternatives

abbrev pub cast_effect : Pick → Notes → Option Cast → Effect
cast_effect pick notes None = NoEffect
cast_effect pick notes (Some cast) =
    Casts (if notes.has_ballot then None else notes.alternatives)
    (approved (kind_or_usual notes.kind) pick.way cast.classes) cast.count

-- ---- lines

abbrev pub line_error : Pick → Notes → List ℕ → Option FaultName
line_error pick notes line = or_else (fault_if (nat_lt most_line_bytes (length line)) LongLine)
    (if is_ballot_line line then ballot_error pick notes (ballot_of line)
    else (if notes.has_ballot then None else told_error notes (told_of line)))

abbrev pub line_notes : Pick → Notes → List ℕ → Notes
line_notes pick notes line =
    if is_ballot_line line then record notes { has_ballot = true }
    else (if notes.has_ballot then notes else told_notes pick notes (told_of line))

abbrev pub line_effect : Pick → Notes → List ℕ → Effect
line_effect pick notes line =
    if is_ballot_line line then cast_effect pick notes (ballot_of line)
    else (if notes.has_ballot then NoEffect else told_effect notes (told_of line))

-- the number of alternatives that is noted is one that a profile can have
abbrev pub IsSound : Notes → Type 0
IsSound notes = IfSome notes.alternatives (λ m. (1 ≤ m) × (m ≤ most_candidates))

-- ---- the profile

abbrev pub effect_error : Election → Effect → Option FaultName
effect_error e (Casts first set count) = fault_if (nat_lt most_voters (voter_count e.rows + count)) TooManyVoters
effect_error e _ = None

abbrev pub with_effect : Election → Effect → Election
with_effect e NoEffect = e
with_effect e (Names n name) = record e { names = slice_set e.names (n - 1) name }
with_effect e (Casts None set count) = record e { rows = with_votes e.rows set count }
with_effect e (Casts (Some m) set count) = election m (take m e.names) (with_votes [] set count)

-- an effect that these notes allow
abbrev pub IsProper : Notes → Effect → Type 0
IsProper notes NoEffect = ⊤
IsProper notes (Names n name) =
    (notes.has_ballot ≡ false) × (1 ≤ n) × (n ≤ unwrap_or notes.alternatives most_candidates)
IsProper notes (Casts None set count) =
    (notes.has_ballot ≡ true) × IfSome notes.alternatives (λ m. IsIncreasing 1 m set) × (1 ≤ count)
IsProper notes (Casts (Some m) set count) =
    (notes.has_ballot ≡ false) × (notes.alternatives ≡ Some m) × IsIncreasing 1 m set × (1 ≤ count)

-- when an effect may come
abbrev pub MayCome : Election → Effect → Type 0
MayCome e NoEffect = ⊤
MayCome e (Names n name) = (1 ≤ n) × (n ≤ e.m)
MayCome e (Casts None set count) = IsIncreasing 1 e.m set × (1 ≤ count)
MayCome e (Casts (Some m) set count) = (1 ≤ m) × (m ≤ e.m) × (e.rows ≡ []) × IsIncreasing 1 m set × (1 ≤ count)

-- whether an effect takes memory: a name that has bytes does, and a ballot that makes a new row
abbrev pub effect_takes : Election → Effect → Bool
effect_takes e NoEffect = false
effect_takes e (Names n name) = not (is_empty name)
effect_takes e (Casts first set count) = not (has_ballot e.rows set)

-- a refusal has this fault; or it is for lack of memory, if there is no fault and memory is taken
abbrev pub Refuses : Option FaultName → Bool → FaultName → Type 0
Refuses error takes name = (error ≡ Some name) ⊎ ((name ≡ Memory) × (error ≡ None) × (takes ≡ true))

-- an effect was done to the first profile, or it was refused
abbrev pub DoneOrRefused : Result ⊤ FaultName → Election → Election → Effect → Type 0
DoneOrRefused result e next effect = MatchResult result
    (λ _. (effect_error e effect ≡ None) × (next ≡ with_effect e effect))
    (λ name. Refuses (effect_error e effect) (effect_takes e effect) name)

-- what is wrong at the end
abbrev pub end_error : Notes → Election → Option FaultName
end_error notes e =
    or_else (fault_if (not (is_some notes.alternatives)) NoAlternatives) (fault_if (is_empty e.rows) NoVoters)
