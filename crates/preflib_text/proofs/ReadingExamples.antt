-- Each definition on lines, metadata and whole files, computed on a small example.
use Rattle.std.proofs.Common.{◌≡◌, ◌+◌, ◌^◌, ℕ, List, [], ◌∷◌, ◌++◌, true, false, Some, None, Ok, Err, refl, inr, lit≤}
use Rattle.std.specs.Prelude.{codes}
use Rattle.ballot_base.specs.Limits.{most_candidates}
use Rattle.ballot_base.specs.Ballots.{election}
use Rattle.preflib_text.specs.declared.pick.Kind.TheVariants.{Cat, Soc, Toc, Toi}
use Rattle.preflib_text.specs.declared.pick.Way.TheVariants.{Usual, Category, SetSize}
use Rattle.preflib_text.specs.declared.pick.Pick.{Pick}
use Rattle.preflib_text.specs.declared.fault.FaultName.TheVariants.{BadNumber, TooManyCandidates, ConflictingKey, NoAlternatives, NoKind, BadKind, BadBallot, NoVoters, TooManyVoters, PickMisfit, Memory, Incomplete, NoSuchCandidate}
use Rattle.preflib_text.specs.declared.lines.Sort.TheVariants.{Blank, Metadata, Ballot}
use Rattle.preflib_text.specs.declared.metadata.Fact.TheVariants as told
use Rattle.preflib_text.specs.declared.notes.Effect.TheVariants as step
use Rattle.preflib_text.specs.declared.notes.Notes.{Notes}
use Rattle.preflib_text.specs.Steps.Tokens.{ballot_of, tokens_after, order_at}
use Rattle.preflib_text.specs.Lines.{onto_first, pieces_of, without_return, without_mark, lines_of, is_blank, trim_start, is_metadata_line, is_ballot_line}
use Rattle.preflib_text.specs.Metadata.{trimmed, begins_blank, words_of, key_and_value, same_words, written_number, TypeIs, AlternativesAre, CategoriesAre, NameIs, Nothing, name_told, told_by, told_in, told_of}
use Rattle.preflib_text.specs.Names.{kind_name, kind_named, fault_name, fault_named}
use Rattle.preflib_text.specs.Reading.{told_before, alternatives_value, categories_value, type_value, name_value, last_of, alternatives_in, categories_in, type_in, name_in, number_fault, told_fault, kind_or, kind_by, kind_in, kind_or_usual, is_fitting, outcome_by, at_end, at_line, end_fault, is_empty, may_be_candidate, is_name, faulty_line, fault_of_line, first_faulty_line, takes_memory, casts_in, votes_in, cast_fault, kind_fault, ballot_line_fault, line_fault, first_fault, rows_in, election_in, outcome_in, Reads, RunsShort}
use Rattle.preflib_text.specs.Steps.Tells.{digits_after, words_with, capped_told, meant}
use Rattle.preflib_text.specs.Steps.Cuts.{IsSort}
use Rattle.preflib_text.specs.Steps.Notes.{first_kind, fresh_notes, kind_with, NoEffect, Names, Casts, effect_of, told_error, told_notes, told_effect, cast_error, kind_error, alternatives_error, ballot_error, cast_effect, line_error, line_notes, line_effect, IsSound, effect_error, with_effect, IsProper, MayCome, effect_takes, Refuses, end_error}
use Rattle.preflib_text.proofs.BallotLines.{ballot_of_reads}

-- ---- lines

first_piece : onto_first 1 ((2 ∷ []) ∷ []) ≡ (1 ∷ 2 ∷ []) ∷ []
first_piece = refl

pieces : pieces_of (codes "ab" ++ 10 ∷ 10 ∷ codes "c" ++ 10 ∷ []) ≡ codes "ab" ∷ [] ∷ codes "c" ∷ []
unfolding pieces_of
pieces = refl

last_piece : pieces_of (10 ∷ codes "c") ≡ [] ∷ codes "c" ∷ []
unfolding pieces_of
last_piece = refl

one_return : without_return (97 ∷ 13 ∷ 13 ∷ []) ≡ 97 ∷ 13 ∷ []
unfolding without_return
one_return = refl

no_mark : without_mark (239 ∷ 187 ∷ 191 ∷ 35 ∷ []) ≡ 35 ∷ []
no_mark = refl

half_a_mark : without_mark (239 ∷ 187 ∷ 35 ∷ []) ≡ 239 ∷ 187 ∷ 35 ∷ []
half_a_mark = refl

lines : lines_of (239 ∷ 187 ∷ 191 ∷ codes "a" ++ 13 ∷ 10 ∷ codes "b" ++ 13 ∷ codes "c" ++ 10 ∷ 13 ∷ []) ≡ codes "a" ∷ (98 ∷ 13 ∷ 99 ∷ []) ∷ [] ∷ []
unfolding pieces_of without_return
lines = refl

tab : is_blank 9 ≡ true
tab = refl

return : is_blank 13 ≡ false
return = refl

trimmed_start : trim_start (codes "  a ") ≡ codes "a "
unfolding trim_start
trimmed_start = refl

metadata : is_metadata_line (codes " # a") ≡ true
unfolding trim_start
metadata = refl

no_ballot : is_ballot_line (codes " \t") ≡ false
unfolding trim_start
no_ballot = refl

ballot : is_ballot_line (codes "1:") ≡ true
unfolding trim_start
ballot = refl

blank_line : IsSort (codes "  ") Blank
unfolding trim_start
blank_line = (refl, refl)

metadata_line : IsSort (codes " #") Metadata
unfolding trim_start
metadata_line = (refl, refl)

ballot_line : IsSort (codes " x#") Ballot
unfolding trim_start
ballot_line = (refl, refl)

-- ---- metadata

both_ends : trimmed (codes " a b  ") ≡ codes "a b"
unfolding trim_start
both_ends = refl

no_bytes : begins_blank [] ≡ true
no_bytes = refl

words : words_of (codes " DATA  TYPE ") ≡ codes "DATA" ∷ codes "TYPE" ∷ []
unfolding words_of
words = refl

entry : key_and_value (codes "# a b : c: d ") ≡ Some (record { key = codes "a" ∷ codes "b" ∷ []; value = codes "c: d" })
unfolding trim_start words_of
entry = refl

no_entry : key_and_value (codes "# a b c") ≡ None
unfolding trim_start words_of
no_entry = refl

same : same_words (codes "dAtA" ∷ codes "type" ∷ []) (codes "DATA" ∷ codes "TYPE" ∷ []) ≡ true
same = refl

other : same_words (codes "DATA" ∷ []) (codes "DATA" ∷ codes "TYPE" ∷ []) ≡ false
other = refl

number : written_number (codes "0012") ≡ Some 12
number = refl

no_number : written_number (codes "+12") ≡ None
no_number = refl

name : name_told (codes "ALTERNATIVE" ∷ codes "NAME" ∷ codes "12" ∷ []) (codes "A") ≡ NameIs 12 (codes "A")
name = refl

no_name : name_told (codes "CATEGORY" ∷ codes "NAME" ∷ codes "1" ∷ []) (codes "A") ≡ Nothing
no_name = refl

type_told : told_by (record { key = codes "Data" ∷ codes "Type" ∷ []; value = codes "soc" }) ≡ TypeIs (codes "soc")
type_told = refl

nothing_told : told_in None ≡ Nothing
nothing_told = refl

line_told : told_of (codes "# NUMBER CATEGORIES : x ") ≡ CategoriesAre (codes "x")
unfolding trim_start words_of
line_told = refl

a_name_of_a_kind : kind_name Toi ≡ codes "toi"
a_name_of_a_kind = refl

a_name_of_a_fault : fault_name Incomplete ≡ codes "Incomplete"
a_name_of_a_fault = refl

a_fault : fault_named (codes "Memory") ≡ Some Memory
a_fault = refl

no_fault : fault_named (codes "memory") ≡ None
no_fault = refl

a_kind : kind_named (codes "ToI") ≡ Some Toi
a_kind = refl

digits : digits_after 1 (codes "23") ≡ Some 123
unfolding digits_after
digits = refl

no_digits : digits_after 1 (codes "2x") ≡ None
unfolding digits_after
no_digits = refl

one_word : words_with (codes "a") (codes "b" ∷ []) ≡ codes "a" ∷ codes "b" ∷ []
one_word = refl

no_word : words_with [] (codes "b" ∷ []) ≡ codes "b" ∷ []
no_word = refl

large_name : capped_told (NameIs 18446744073709551617 (codes "A")) ≡ NameIs (2 ^ 32 + 1) (codes "A")
large_name = refl

nothing_meant : meant told.Nothing ≡ Nothing
nothing_meant = refl

-- ---- what the lines tell

-- a file of two candidates
file : List (List ℕ)
file = codes "# ALTERNATIVE NAME 2: B" ∷ codes "# NUMBER ALTERNATIVES: 2" ∷ codes "# DATA TYPE: toi" ∷ codes "" ∷ codes "2: 2" ∷ codes "# DATA TYPE: x" ∷ codes "1: {1,2}" ∷ codes "3: 2,1" ∷ []

-- a file of categories without a number of alternatives
other_file : List (List ℕ)
other_file = codes "# NUMBER CATEGORIES: 2" ∷ codes "# DATA TYPE: cat" ∷ codes "1: 1" ∷ []

file_pick : Pick
file_pick = record { kind = None; ending = Some Soc; way = Usual }

file_tells : told_before file ≡ NameIs 2 (codes "B") ∷ AlternativesAre (codes "2") ∷ TypeIs (codes "toi") ∷ Nothing ∷ []
unfolding file trim_start words_of
file_tells = refl

an_alternatives_value : alternatives_value (AlternativesAre (codes "2")) ≡ Some (codes "2")
an_alternatives_value = refl

a_categories_value : categories_value (AlternativesAre (codes "2")) ≡ None
a_categories_value = refl

a_type_value : type_value (TypeIs (codes "soc")) ≡ Some (codes "soc")
a_type_value = refl

a_name_value : name_value 2 (NameIs 2 (codes "B")) ≡ Some (codes "B")
a_name_value = refl

the_last : last_of (codes "a" ∷ codes "b" ∷ []) ≡ Some (codes "b")
the_last = refl

file_alternatives : alternatives_in file ≡ Some 2
unfolding file trim_start words_of
file_alternatives = refl

file_categories : categories_in other_file ≡ Some 2
unfolding other_file trim_start words_of
file_categories = refl

file_type : type_in file ≡ Some (codes "toi")
unfolding file trim_start words_of
file_type = refl

file_name : name_in file 2 ≡ codes "B"
unfolding file trim_start words_of
file_name = refl

no_file_name : name_in file 1 ≡ []
unfolding file trim_start words_of
no_file_name = refl

too_large : number_fault (Some TooManyCandidates) most_candidates (Some 3) (Some 65) ≡ Some TooManyCandidates
too_large = refl

conflict : number_fault (Some TooManyCandidates) most_candidates (Some 3) (Some 64) ≡ Some ConflictingKey
conflict = refl

zero : number_fault (Some TooManyCandidates) most_candidates (Some 3) (Some 0) ≡ Some BadNumber
zero = refl

again : number_fault (Some TooManyCandidates) most_candidates (Some 3) (Some 3) ≡ None
again = refl

many_categories : told_fault file (CategoriesAre (codes "4294967297")) ≡ Some BadNumber
unfolding file trim_start words_of
many_categories = refl

other_alternatives : told_fault file (AlternativesAre (codes "3")) ≡ Some ConflictingKey
unfolding file trim_start words_of
other_alternatives = refl

-- ---- the type of a file

a_kind_or : kind_or NoKind None ≡ Err NoKind
a_kind_or = refl

given_kind : kind_by (Some Soc) (Some (codes "x")) (Some Cat) ≡ Ok Soc
given_kind = refl

told_kind : kind_by None (Some (codes "x")) (Some Cat) ≡ Err BadKind
told_kind = refl

ending_kind : kind_by None None (Some Cat) ≡ Ok Cat
ending_kind = refl

file_kind : kind_in file_pick file ≡ Ok Toi
unfolding file file_pick trim_start words_of
file_kind = refl

usual_kind : kind_or_usual (Ok Toc) ≡ Toc
usual_kind = refl

no_category : is_fitting Cat (Some 2) (Category 3) ≡ false
no_category = refl

any_category : is_fitting Cat None (Category 3) ≡ true
any_category = refl

no_set_size : is_fitting Cat None (SetSize 1) ≡ false
no_set_size = refl

-- ---- the faults and the election of a file

fault_of_the_end : at_end NoVoters ≡ record { name = NoVoters; line = None }
fault_of_the_end = refl

fault_of_a_line : at_line 3 BadBallot ≡ record { name = BadBallot; line = Some 3 }
fault_of_a_line = refl

outcome_with_fault : outcome_by (election 1 ([] ∷ []) []) (Some (at_end NoVoters)) ≡ Err (at_end NoVoters)
outcome_with_fault = refl

no_fault_at_end : end_fault file ≡ None
unfolding file trim_start words_of
no_fault_at_end = refl

nothing_at_end : end_fault [] ≡ Some NoAlternatives
nothing_at_end = refl

file_casts : casts_in file_pick ballot_of file ≡ record { count = 2; classes = (2 ∷ []) ∷ [] } ∷ record { count = 1; classes = (1 ∷ 2 ∷ []) ∷ [] } ∷ record { count = 3; classes = (2 ∷ []) ∷ (1 ∷ []) ∷ [] } ∷ []
unfolding file file_pick trim_start tokens_after order_at
file_casts = refl

file_votes : votes_in file_pick ballot_of file ≡ 6
unfolding file file_pick trim_start tokens_after order_at
file_votes = refl

many_voters : cast_fault file_pick ballot_of file Toi 2 (Some (record { count = 4294967291; classes = [] })) ≡ Some TooManyVoters
unfolding file file_pick trim_start words_of tokens_after order_at
many_voters = refl

incomplete : kind_fault file_pick ballot_of file 2 (codes "1: 1") (Ok Toc) ≡ Some Incomplete
unfolding file file_pick trim_start words_of tokens_after order_at
incomplete = refl

no_alternatives : ballot_line_fault file_pick ballot_of other_file (codes "x") None ≡ Some NoAlternatives
no_alternatives = refl

bad_ballot : line_fault file_pick ballot_of file (codes "1 1") ≡ Some BadBallot
unfolding file file_pick trim_start words_of tokens_after order_at
bad_ballot = refl

skipped_line : line_fault file_pick ballot_of file (codes "# NUMBER ALTERNATIVES: 0") ≡ None
unfolding file file_pick trim_start words_of tokens_after order_at
skipped_line = refl

second_line : first_faulty_line file_pick ballot_of [] (codes "# NUMBER ALTERNATIVES: 2" ∷ codes "# NUMBER ALTERNATIVES: 65" ∷ codes "x" ∷ []) ≡ Some (faulty_line 2 TooManyCandidates)
unfolding file_pick trim_start words_of tokens_after order_at
second_line = refl

first_line_of_two : first_fault file_pick ballot_of (codes "1: 1" ∷ codes "2: 1" ∷ []) ≡ Some (fault_of_line (faulty_line 1 NoAlternatives))
unfolding file_pick trim_start words_of
first_line_of_two = refl

only_the_end : first_fault file_pick ballot_of (codes "# NUMBER ALTERNATIVES: 2" ∷ []) ≡ Some (at_end NoVoters)
unfolding file_pick trim_start words_of
only_the_end = refl

file_rows : rows_in file_pick ballot_of file ≡ (2 ∷ [], 5) ∷ (1 ∷ 2 ∷ [], 1) ∷ []
unfolding file file_pick trim_start words_of tokens_after order_at
file_rows = refl

file_election : election_in file_pick ballot_of file ≡ election 2 ([] ∷ codes "B" ∷ []) ((2 ∷ [], 5) ∷ (1 ∷ 2 ∷ [], 1) ∷ [])
unfolding file file_pick trim_start words_of tokens_after order_at
file_election = refl

file_outcome : outcome_in file_pick ballot_of file ≡ Ok (election 2 ([] ∷ codes "B" ∷ []) ((2 ∷ [], 5) ∷ (1 ∷ 2 ∷ [], 1) ∷ []))
unfolding file file_pick trim_start words_of tokens_after order_at
file_outcome = refl

file_with_fault : outcome_in file_pick ballot_of (file ++ codes "1: 1,3" ∷ codes "0:" ∷ []) ≡ Err (at_line 9 NoSuchCandidate)
unfolding file file_pick trim_start words_of tokens_after order_at
file_with_fault = refl

reads_nothing : Reads (codes "") file_pick (Err (at_end NoAlternatives))
unfolding pieces_of without_return
reads_nothing = (ballot_of, ballot_of_reads, refl)

few_numbers : may_be_candidate (Some 3) 4 ≡ false
few_numbers = refl

a_name : is_name [] (NameIs 64 (codes "A")) ≡ true
a_name = refl

no_candidate : is_name (codes "# NUMBER ALTERNATIVES: 2" ∷ []) (NameIs 3 (codes "A")) ≡ false
unfolding trim_start words_of
no_candidate = refl

an_empty_name : is_name [] (NameIs 2 []) ≡ false
an_empty_name = refl

empty_name_takes_none : takes_memory file_pick ballot_of (codes "#" ∷ []) (codes "# ALTERNATIVE NAME 2:") ≡ false
unfolding file_pick trim_start words_of tokens_after order_at
empty_name_takes_none = refl

takes_name : takes_memory file_pick ballot_of (codes "#" ∷ []) (codes "# ALTERNATIVE NAME 2: B") ≡ true
unfolding file_pick trim_start words_of tokens_after order_at
takes_name = refl

takes_row : takes_memory file_pick ballot_of file (codes "1:") ≡ true
unfolding file file_pick trim_start words_of tokens_after order_at
takes_row = refl

takes_none : takes_memory file_pick ballot_of file (codes "1: 2") ≡ false
unfolding file file_pick trim_start words_of tokens_after order_at
takes_none = refl

runs_short : RunsShort (codes "# NUMBER ALTERNATIVES: 2") file_pick (at_line 1 Memory)
unfolding pieces_of without_return trim_start words_of
runs_short = ([], codes "# NUMBER ALTERNATIVES: 2", [], refl, refl, ballot_of, ballot_of_reads, refl, refl)

-- ---- what is noted

a_first_kind : first_kind None (Some Toc) ≡ Some Toc
a_first_kind = refl

no_notes : fresh_notes file_pick ≡ record { alternatives = None; categories = None; kind = Ok Soc; has_ballot = false }
unfolding file_pick
no_notes = refl

kind_kept : kind_with (Some Soc) (Ok Soc) (codes "toi") ≡ Ok Soc
kind_kept = refl

kind_told : kind_with None (Ok Soc) (codes "x") ≡ Err BadKind
kind_told = refl

-- what three lines tell
file_notes : Notes
file_notes = record { alternatives = Some 2; categories = None; kind = Ok Toi; has_ballot = false }

no_effect : effect_of step.Nothing ≡ NoEffect
no_effect = refl

error_told : told_error file_notes (AlternativesAre (codes "0")) ≡ Some BadNumber
unfolding file_notes
error_told = refl

notes_told : told_notes file_pick file_notes (CategoriesAre (codes "7")) ≡ record file_notes { categories = Some 7 }
unfolding file_notes
notes_told = refl

effect_told : told_effect file_notes (NameIs 2 (codes "A")) ≡ Names 2 (codes "A")
unfolding file_notes
effect_told = refl

no_effect_told : told_effect file_notes (NameIs 3 (codes "A")) ≡ NoEffect
unfolding file_notes
no_effect_told = refl

error_of_cast : cast_error Toi 2 None None ≡ Some BadBallot
error_of_cast = refl

error_of_kind : kind_error file_pick file_notes 2 None (Err BadKind) ≡ Some BadKind
error_of_kind = refl

error_of_alternatives : alternatives_error file_pick file_notes None None ≡ Some NoAlternatives
error_of_alternatives = refl

error_of_ballot : ballot_error (record file_pick { way = Category 1 }) file_notes None ≡ Some PickMisfit
unfolding file_pick file_notes
error_of_ballot = refl

effect_of_cast : cast_effect file_pick file_notes (Some (record { count = 3; classes = (2 ∷ []) ∷ (1 ∷ []) ∷ [] })) ≡ Casts (Some 2) (2 ∷ []) 3
unfolding file_pick file_notes
effect_of_cast = refl

error_of_line : line_error file_pick file_notes (codes "1: 1 1") ≡ Some BadBallot
unfolding file_pick file_notes trim_start words_of tokens_after order_at
error_of_line = refl

notes_of_line : line_notes file_pick file_notes (codes "1: 1") ≡ record file_notes { has_ballot = true }
unfolding file_pick file_notes trim_start words_of
notes_of_line = refl

effect_of_line : line_effect file_pick file_notes (codes "1: 1") ≡ Casts (Some 2) (1 ∷ []) 1
unfolding file_pick file_notes trim_start words_of tokens_after order_at
effect_of_line = refl

sound : IsSound file_notes
unfolding file_notes
sound = (lit≤ tt, lit≤ tt)

-- ---- what a line does to the profile

error_of_effect : effect_error (election 2 ([] ∷ [] ∷ []) ((1 ∷ [], 4294967296) ∷ [])) (Casts None (1 ∷ []) 1) ≡ Some TooManyVoters
error_of_effect = refl

with_name : with_effect (election 2 ([] ∷ [] ∷ []) []) (Names 2 (codes "B")) ≡ election 2 ([] ∷ codes "B" ∷ []) []
with_name = refl

with_first_ballot : with_effect (election 3 ([] ∷ codes "B" ∷ codes "C" ∷ []) []) (Casts (Some 2) (1 ∷ []) 4) ≡ election 2 ([] ∷ codes "B" ∷ []) ((1 ∷ [], 4) ∷ [])
with_first_ballot = refl

proper_name : IsProper file_notes (Names 2 (codes "A"))
unfolding file_notes
proper_name = (refl, lit≤ tt, lit≤ tt)

name_may_come : MayCome (election 2 ([] ∷ [] ∷ []) []) (Names 2 (codes "B"))
name_may_come = (lit≤ tt, lit≤ tt)

takes_new_ballot : effect_takes (election 2 ([] ∷ [] ∷ []) ((1 ∷ [], 4) ∷ [])) (Casts None (2 ∷ []) 1) ≡ true
takes_new_ballot = refl

takes_empty_name : effect_takes (election 2 ([] ∷ codes "B" ∷ []) []) (Names 2 []) ≡ false
takes_empty_name = refl

refused : Refuses None true Memory
refused = inr (refl, refl, refl)

no_rows : is_empty {X = List ℕ} [] ≡ true
no_rows = refl

no_voters : end_error file_notes (election 2 ([] ∷ [] ∷ []) []) ≡ Some NoVoters
unfolding file_notes
no_voters = refl
