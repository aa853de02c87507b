-- What an input holds: the election of its ballots, or the first fault (PrefLib data format; the faults and their order
-- are this project's).
use Rattle.std.specs.Prelude.{◌≡◌, ℕ, ◌+◌, ◌==◌, ◌&&◌, ◌||◌, Bool, true, false, not, List, [], ◌∷◌, ◌++◌, length}
use Rattle.std.specs.Prelude.{map, filter, filter_map, fold, sum_by, flat_map, reverse, slice_get, Option, Some}
use Rattle.std.specs.Prelude.{None, option_and_then, option_map, unwrap_or, is_some, Result, Ok, Err, nat_lt}
use Rattle.std.specs.Prelude.{nat_le, take_while, MatchOption, if◌then◌else◌}
use Rattle.std.specs.List.{list_any, range_with_len}
use Rattle.ballot_base.specs.Limits.{most_candidates, most_voters}
use Rattle.ballot_base.specs.CandSet.{has_member}
use Rattle.ballot_base.specs.Ballots.{Election, Row, with_votes}
use Rattle.preflib_text.specs.declared.pick.Kind.{Kind}
use Rattle.preflib_text.specs.declared.pick.Kind.TheVariants.{Cat, Soc, Soi, Toc}
use Rattle.preflib_text.specs.declared.pick.Way.{Way}
use Rattle.preflib_text.specs.declared.pick.Way.TheVariants.{Usual, Category}
use Rattle.preflib_text.specs.declared.pick.Pick.{Pick}
use Rattle.preflib_text.specs.declared.fault.FaultName.{FaultName}
use Rattle.preflib_text.specs.declared.fault.FaultName.TheVariants.{LongLine, BadNumber, TooManyCandidates}
use Rattle.preflib_text.specs.declared.fault.FaultName.TheVariants.{ConflictingKey, NoAlternatives, NoKind, BadKind}
use Rattle.preflib_text.specs.declared.fault.FaultName.TheVariants.{BadBallot, BadCount, NoSuchCandidate}
use Rattle.preflib_text.specs.declared.fault.FaultName.TheVariants.{RepeatedCandidate, NotStrict, Incomplete}
use Rattle.preflib_text.specs.declared.fault.FaultName.TheVariants.{TooManyClasses, NoVoters, TooManyVoters}
use Rattle.preflib_text.specs.declared.fault.FaultName.TheVariants.{PickMisfit, Memory}
use Rattle.preflib_text.specs.declared.fault.ReadFault.{ReadFault}
use Rattle.preflib_text.specs.Limits.{most_line_bytes, most_categories}
use Rattle.preflib_text.specs.Lines.{lines_of, is_ballot_line}
use Rattle.preflib_text.specs.Metadata.{Fact, TypeIs, AlternativesAre, CategoriesAre, NameIs, told_of}
use Rattle.preflib_text.specs.Metadata.{written_number}
use Rattle.preflib_text.specs.Names.{kind_named}
use Rattle.preflib_text.specs.Ballot.{IsBallotLine}
use Rattle.preflib_text.specs.Approvals.{approved}

-- the first fault of two
abbrev pub or_else : {X : Type 0} → Option X → Option X → Option X
or_else None other = other
or_else (Some fault) other = Some fault

-- a fault if a test holds
abbrev pub fault_if : Bool → FaultName → Option FaultName
fault_if test name = if test then Some name else None

-- ---- metadata

-- the facts of the lines before the first ballot
abbrev pub told_before : List (List ℕ) → List Fact
told_before lines = map told_of (take_while (λ line. not (is_ballot_line line)) lines)

abbrev pub alternatives_value : Fact → Option (List ℕ)
alternatives_value (AlternativesAre value) = Some value
alternatives_value _ = None

abbrev pub categories_value : Fact → Option (List ℕ)
categories_value (CategoriesAre value) = Some value
categories_value _ = None

abbrev pub type_value : Fact → Option (List ℕ)
type_value (TypeIs value) = Some value
type_value _ = None

abbrev pub name_value : ℕ → Fact → Option (List ℕ)
name_value n (NameIs k value) = if k == n then Some value else None
name_value n _ = None

abbrev pub is_empty : {X : Type 0} → List X → Bool
is_empty [] = true
is_empty (x ∷ xs) = false

-- the last of the values
abbrev pub last_of : List (List ℕ) → Option (List ℕ)
last_of values = slice_get (reverse values) 0

-- the number of alternatives, and of categories, that the lines give first
abbrev pub alternatives_in : List (List ℕ) → Option ℕ
alternatives_in lines = option_and_then written_number (slice_get (filter_map alternatives_value (told_before lines)) 0)

abbrev pub categories_in : List (List ℕ) → Option ℕ
categories_in lines = option_and_then written_number (slice_get (filter_map categories_value (told_before lines)) 0)

-- whether a candidate may have this number: one from 1 to the number of alternatives, or to the maximum number of
-- candidates if the number of alternatives is not known
abbrev pub may_be_candidate : Option ℕ → ℕ → Bool
may_be_candidate alternatives n = nat_le 1 n && nat_le n (unwrap_or alternatives most_candidates)

-- whether a fact is a name to keep, after these lines: it has bytes, and its number is one that a candidate may have
abbrev pub is_name : List (List ℕ) → Fact → Bool
is_name before (NameIs n value) = may_be_candidate (alternatives_in before) n && not (is_empty value)
is_name before _ = false

-- the type and the name of a candidate that the lines give last; an empty name means none
abbrev pub type_in : List (List ℕ) → Option (List ℕ)
type_in lines = last_of (filter_map type_value (told_before lines))

abbrev pub name_in : List (List ℕ) → ℕ → List ℕ
name_in lines n = unwrap_or (last_of (filter_map (name_value n) (told_before lines))) []

-- what is wrong with a number of the metadata, which is at most `most`, after the number that was given before
abbrev pub number_fault : Option FaultName → ℕ → Option ℕ → Option ℕ → Option FaultName
number_fault too_large most before None = Some BadNumber
number_fault too_large most before (Some n) = or_else (fault_if (n == 0) BadNumber)
    (or_else (if nat_lt most n then too_large else None) (fault_if (not (unwrap_or before n == n)) ConflictingKey))

-- what is wrong with a metadata line, after these lines
abbrev pub told_fault : List (List ℕ) → Fact → Option FaultName
told_fault before (AlternativesAre value) =
    number_fault (Some TooManyCandidates) most_candidates (alternatives_in before) (written_number value)
told_fault before (CategoriesAre value) =
    number_fault (Some BadNumber) most_categories (categories_in before) (written_number value)
told_fault before _ = None

-- ---- ballots

-- the type, or a fault if there is none
abbrev pub kind_or : FaultName → Option Kind → Result Kind FaultName
kind_or name (Some kind) = Ok kind
kind_or name None = Err name

-- The type of the file: the one that the reader was given; failing that, that of the metadata; failing that, that of
-- the file's name.
abbrev pub kind_by : Option Kind → Option (List ℕ) → Option Kind → Result Kind FaultName
kind_by (Some kind) told ending = Ok kind
kind_by None (Some text) ending = kind_or BadKind (kind_named text)
kind_by None None ending = kind_or NoKind ending

abbrev pub kind_in : Pick → List (List ℕ) → Result Kind FaultName
kind_in pick lines = kind_by pick.kind (type_in lines) pick.ending

-- the type, or `Cat` if there is none
abbrev pub kind_or_usual : Result Kind FaultName → Kind
kind_or_usual (Ok kind) = kind
kind_or_usual (Err name) = Cat

-- whether the way fits the type and the categories
abbrev pub is_fitting : Kind → Option ℕ → Way → Bool
is_fitting kind categories Usual = true
is_fitting Cat categories (Category n) = nat_le n (unwrap_or categories n)
is_fitting kind categories (Category n) = false
is_fitting Cat categories way = false
is_fitting kind categories way = true

-- the first number that is 0, above m, or among those before it
abbrev pub number_in_ballot_fault : ℕ → List ℕ → List ℕ → Option FaultName
number_in_ballot_fault m seen [] = None
number_in_ballot_fault m seen (n ∷ numbers) = or_else (fault_if ((n == 0) || nat_lt m n) NoSuchCandidate)
    (or_else (fault_if (has_member seen n) RepeatedCandidate) (number_in_ballot_fault m (n ∷ seen) numbers))

-- whether rankings of this type have one number in each class, and whether they have all candidates
abbrev pub is_strict : Kind → Bool
is_strict Soc = true
is_strict Soi = true
is_strict _ = false

abbrev pub is_complete : Kind → Bool
is_complete Soc = true
is_complete Toc = true
is_complete _ = false

abbrev pub is_cat : Kind → Bool
is_cat Cat = true
is_cat _ = false

-- what is wrong with a ballot of m candidates
abbrev pub ballot_fault : Kind → ℕ → Option ℕ → ℕ → List (List ℕ) → Option FaultName
ballot_fault kind m categories count classes =
    let numbers = flat_map (λ class. class) classes in
    or_else (fault_if ((count == 0) || nat_lt most_voters count) BadCount)
    (or_else (number_in_ballot_fault m [] numbers)
    (or_else (fault_if (is_strict kind && list_any (λ class. not (length class == 1)) classes) NotStrict)
    (or_else (fault_if (is_complete kind && list_any (λ n. not (has_member numbers n)) (range_with_len 1 m))
    Incomplete)
    (fault_if (is_cat kind && nat_lt (unwrap_or categories (length classes)) (length classes)) TooManyClasses))))

-- a ballot line that was read: its count and its classes
pub record Cast : Type 0 where
  pub count : ℕ
  pub classes : List (List ℕ)

-- how ballot lines are read: as the shape of a ballot line says
abbrev pub IsReading : (List ℕ → Option Cast) → Type 0
IsReading read = (line : List ℕ) → MatchOption (read line)
    ((count : ℕ) (classes : List (List ℕ)) → IsBallotLine line count classes → ⊥)
    (λ cast. IsBallotLine line cast.count cast.classes)

-- the election, or the fault
abbrev pub outcome_by : Election → Option ReadFault → Result Election ReadFault
outcome_by e (Some fault) = Err fault
outcome_by e None = Ok e

-- a fault of the end, or of a line; a missing number of alternatives has no line
abbrev pub at_end : FaultName → ReadFault
at_end name = record { name = name; line = None }

abbrev pub at_line : ℕ → FaultName → ReadFault
at_line number NoAlternatives = at_end NoAlternatives
at_line number name = record { name = name; line = Some number }

-- a line with a fault: its number, counted from 1, and the name of the fault
pub record FaultyLine : Type 0 where
  pub number : ℕ
  pub name : FaultName

abbrev pub faulty_line : ℕ → FaultName → FaultyLine
faulty_line number name = record { number = number; name = name }

-- the fault of that line
abbrev pub fault_of_line : FaultyLine → ReadFault
fault_of_line line = at_line line.number line.name

-- what is wrong at the end of these lines
abbrev pub end_fault : List (List ℕ) → Option FaultName
end_fault lines = or_else (fault_if (not (is_some (alternatives_in lines))) NoAlternatives)
    (fault_if (not (list_any is_ballot_line lines)) NoVoters)

module _ (pick : Pick) (read : List ℕ → Option Cast) where
  -- the ballots of the lines
  abbrev pub casts_in : List (List ℕ) → List Cast
  casts_in lines = filter_map read (filter is_ballot_line lines)

  -- how many voters cast these ballots
  abbrev pub votes_in : List (List ℕ) → ℕ
  votes_in lines = sum_by (λ cast. cast.count) (casts_in lines)

  -- what is wrong with a line of a ballot that was read, after these lines
  abbrev pub cast_fault : List (List ℕ) → Kind → ℕ → Option Cast → Option FaultName
  cast_fault before kind m None = Some BadBallot
  cast_fault before kind m (Some cast) = or_else (ballot_fault kind m (categories_in before) cast.count cast.classes)
      (fault_if (nat_lt most_voters (votes_in before + cast.count)) TooManyVoters)

  abbrev pub kind_fault : List (List ℕ) → ℕ → List ℕ → Result Kind FaultName → Option FaultName
  kind_fault before m line (Err name) = Some name
  kind_fault before m line (Ok kind) =
      or_else (fault_if (not (is_fitting kind (categories_in before) pick.way)) PickMisfit)
      (cast_fault before kind m (read line))

  abbrev pub ballot_line_fault : List (List ℕ) → List ℕ → Option ℕ → Option FaultName
  ballot_line_fault before line None = Some NoAlternatives
  ballot_line_fault before line (Some m) = kind_fault before m line (kind_in pick before)

  -- what is wrong with a line, after these lines
  abbrev pub line_fault : List (List ℕ) → List ℕ → Option FaultName
  line_fault before line = or_else (fault_if (nat_lt most_line_bytes (length line)) LongLine)
      (if is_ballot_line line then ballot_line_fault before line (alternatives_in before)
      else (if list_any is_ballot_line before then None else told_fault before (told_of line)))

  -- the first line with a fault, if there is one, among lines that come after others
  abbrev pub first_faulty_line : List (List ℕ) → List (List ℕ) → Option FaultyLine
  first_faulty_line before [] = None
  first_faulty_line before (line ∷ lines) =
      or_else (option_map (faulty_line (length before + 1)) (line_fault before line))
      (first_faulty_line (before ++ line ∷ []) lines)

  -- the first fault: that of the first line with one; failing that, that of the end
  abbrev pub first_fault : List (List ℕ) → Option ReadFault
  first_fault lines =
      or_else (option_map fault_of_line (first_faulty_line [] lines)) (option_map at_end (end_fault lines))

  -- the rows of the ballots, in the order of their first appearance
  abbrev pub rows_in : List (List ℕ) → List Row
  rows_in lines =
      let kind = kind_or_usual (kind_in pick lines) in
      fold (λ rows cast. with_votes rows (approved kind pick.way cast.classes) cast.count) [] (casts_in lines)

  -- the election of lines without a fault
  abbrev pub election_in : List (List ℕ) → Election
  election_in lines =
      let m = unwrap_or (alternatives_in lines) 0 in
      record { m = m; names = map (name_in lines) (range_with_len 1 m); rows = rows_in lines }

  -- the election, or the first fault
  abbrev pub outcome_in : List (List ℕ) → Result Election ReadFault
  outcome_in lines = outcome_by (election_in lines) (first_fault lines)

  -- whether a line makes the profile grow, after these lines: with a name to keep before the first ballot, or with a
  -- ballot that makes a new row
  abbrev pub is_growth : List (List ℕ) → List ℕ → Bool
  is_growth before line = (not (list_any is_ballot_line before) && is_name before (told_of line))
      || nat_lt (length (rows_in before)) (length (rows_in (before ++ line ∷ [])))

  -- whether a line takes memory: the first line, which takes the room of names and rows, and each that makes them grow
  abbrev pub takes_memory : List (List ℕ) → List ℕ → Bool
  takes_memory before line = (length before == 0) || is_growth before line

-- what an input holds
abbrev pub Reads : List ℕ → Pick → Result Election ReadFault → Type 0
Reads bytes pick outcome =
    (read : List ℕ → Option Cast) × IsReading read × (outcome ≡ outcome_in pick read (lines_of bytes))

-- memory ran out at a line that takes some, and no line up to it has a fault
abbrev pub RunsShort : List ℕ → Pick → ReadFault → Type 0
RunsShort bytes pick fault = (before : List (List ℕ)) × (line : List ℕ) × (after : List (List ℕ))
    × (lines_of bytes ≡ before ++ line ∷ after) × (fault ≡ at_line (length before + 1) Memory)
    × (read : List ℕ → Option Cast) × IsReading read
    × (first_faulty_line pick read [] (before ++ line ∷ []) ≡ None) × (takes_memory pick read before line ≡ true)
