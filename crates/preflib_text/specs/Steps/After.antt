-- What the notes and the profile are after some lines.
use Rattle.std.specs.Prelude.{◌≡◌, ◌≢◌, ℕ, true, false, Bool, List, [], ◌++◌, map, filter_map, fold, slice_get, take}
use Rattle.std.specs.Prelude.{Option, Some, None, option_and_then, unwrap_or}
use Rattle.std.specs.List.{list_any, range_with_len}
use Rattle.ballot_base.specs.Limits.{most_candidates}
use Rattle.ballot_base.specs.Ballots.{Election, Row, election, with_votes, voter_count}
use Rattle.preflib_text.specs.declared.pick.Kind.{Kind}
use Rattle.preflib_text.specs.declared.pick.Way.{Way}
use Rattle.preflib_text.specs.declared.pick.Pick.{Pick}
use Rattle.preflib_text.specs.declared.notes.Notes.{Notes}
use Rattle.preflib_text.specs.Lines.{is_ballot_line}
use Rattle.preflib_text.specs.Metadata.{Fact, written_number}
use Rattle.preflib_text.specs.Approvals.{approved}
use Rattle.preflib_text.specs.Reading.{Cast, told_before, alternatives_value, categories_value, type_value, name_value}
use Rattle.preflib_text.specs.Reading.{last_of, kind_by, kind_or_usual, casts_in, votes_in, first_faulty_line}
use Rattle.preflib_text.specs.Steps.Tokens.{ballot_of}
use Rattle.preflib_text.specs.Steps.Notes.{IsSound}

-- the number that is given first
abbrev pub first_number : (Fact → Option (List ℕ)) → List Fact → Option ℕ
first_number h tolds = option_and_then written_number (slice_get (filter_map h tolds) 0)

-- the notes hold these facts
pub record IsTold (pick : Pick) (tolds : List Fact) (notes : Notes) : Type 0 where
  pub alternatives : notes.alternatives ≡ first_number alternatives_value tolds
  pub categories : notes.categories ≡ first_number categories_value tolds
  pub kind : notes.kind ≡ kind_by pick.kind (last_of (filter_map type_value tolds)) pick.ending
  pub no_alternatives : notes.alternatives ≡ None → filter_map alternatives_value tolds ≡ []
  pub no_categories : notes.categories ≡ None → filter_map categories_value tolds ≡ []
  pub sound : IsSound notes

-- the name that is given last, or none
abbrev pub last_name : List Fact → ℕ → List ℕ
last_name tolds n = unwrap_or (last_of (filter_map (name_value n) tolds)) []

abbrev pub last_names : List Fact → ℕ → List (List ℕ)
last_names tolds count = map (last_name tolds) (range_with_len 1 count)

-- the rows of ballots
abbrev pub cast_rows : Kind → Way → List Cast → List Row
cast_rows kind way casts = fold (λ rows cast. with_votes rows (approved kind way cast.classes) cast.count) [] casts

-- whether a ballot is among the lines
abbrev pub has_ballot_line : List (List ℕ) → Bool
has_ballot_line lines = list_any is_ballot_line lines

-- the profile before the first ballot, with the names of the numbers that a candidate may have
abbrev pub HoldsNames : List Fact → Notes → Election → Type 0
HoldsNames tolds notes e =
    let most = unwrap_or notes.alternatives most_candidates in
    (e.m ≡ most_candidates) × (e.rows ≡ []) × (take most e.names ≡ last_names tolds most)

-- the profile once a ballot was read
abbrev pub HoldsBallots : Pick → List (List ℕ) → Notes → Election → Type 0
HoldsBallots pick before notes e = (m : ℕ) × (notes.alternatives ≡ Some m)
    × (e ≡ election m (last_names (told_before before) m)
    (cast_rows (kind_or_usual notes.kind) pick.way (casts_in pick ballot_of before))) × (e.rows ≢ [])

-- what the notes and the profile are after these lines
pub record IsAfter (pick : Pick) (before : List (List ℕ)) (notes : Notes) (e : Election) : Type 0 where
  pub told : IsTold pick (told_before before) notes
  pub ballots : notes.has_ballot ≡ has_ballot_line before
  pub opened : notes.has_ballot ≡ false → HoldsNames (told_before before) notes e
  pub begun : notes.has_ballot ≡ true → HoldsBallots pick before notes e
  pub votes : voter_count e.rows ≡ votes_in pick ballot_of before

-- lines without a fault before others
abbrev pub IsFine : Pick → List (List ℕ) → Type 0
IsFine pick before = (more : List (List ℕ))
    → first_faulty_line pick ballot_of [] (before ++ more) ≡ first_faulty_line pick ballot_of before more
