-- Each definition, computed on a small example.
use Rattle.std.proofs.Common.{◌≡◌, ℕ, List, [], ◌∷◌, ◌++◌, true, false, None, Some, Ok, Err, refl, Bool, Option}
use Rattle.std.specs.Borrow.{MutBor}
use Rattle.std.specs.Fmt.{digits}
use Rattle.std.specs.Prelude.{codes}
use Rattle.std.proofs.lemmas.Bool.{both_ways}
use Rattle.ballot_base.specs.Lists.{lists_of}
use Rattle.ballot_base.specs.Ballots.{Election, election}
use Rattle.group_check.specs.declared.property.Property.TheVariants.{Jr, Pjr, Ejr}
use Rattle.group_check.specs.declared.property.Violation.{Violation}
use Rattle.group_check.specs.Report.{violation_of, first_violation}
use Rattle.text_output.specs.CheckText.{holds_text, set_or_dash, within_text, row_text, level_text, voters_text, group_text, claim_text, violation_text}
use Rattle.text_output.specs.Device.{is_failed_write, bytes_given, AppendsBeginning, reader_state, writer_state}
use Rattle.text_output.specs.Names.{beside, called, candidates_text, joined, name_or_number, names_text, naming, seated_parties}
use Rattle.text_output.specs.Steps.Names.{IsName, listed_name, listed_names, names_in, names_of}
use Rattle.text_output.specs.Steps.Numbers.{following_text}
use Rattle.text_output.specs.Steps.Printing.{Calls, Prints, PrintsAll, Sends, calls_of}
use Rattle.text_output.specs.Text.{line, numbers_text}
use Rattle.text_output.specs.declared.names.NameSource.TheVariants.{Unwanted, Numbers, Of}
use Rattle.text_output.specs.declared.printing.Printer.{Printer}

-- two voters approve 1 and 2, and one approves 3
abbrev three : Election
three = election 3 ([] ∷ [] ∷ [] ∷ []) ((1 ∷ 2 ∷ [], 2) ∷ (3 ∷ [], 1) ∷ [])

-- ---- texts
a_line : line (codes "end") ≡ codes "end" ++ 10 ∷ []
a_line = refl

numbers : numbers_text (1 ∷ 20 ∷ 3 ∷ []) ≡ codes "1,20,3"
unfolding digits
numbers = refl

no_numbers : numbers_text [] ≡ []
no_numbers = refl

following : following_text (20 ∷ 3 ∷ []) ≡ codes ",20,3"
unfolding digits
following = refl

-- ---- names
-- candidate 2 has no name
abbrev red_and_blue : List (List ℕ)
red_and_blue = codes "Red" ∷ [] ∷ codes "Blue" ∷ []

callings : (called red_and_blue 3 ≡ codes "Blue") × (called red_and_blue 2 ≡ codes "2") × (called red_and_blue 14 ≡ codes "14") × (called [] 1 ≡ codes "1")
unfolding digits
callings = (refl, refl, refl, refl)

names_and_numbers : (name_or_number (codes "Red") 7 ≡ codes "Red") × (name_or_number [] 7 ≡ codes "7") × (naming true red_and_blue ≡ Some red_and_blue) × (naming false red_and_blue ≡ None)
unfolding digits
names_and_numbers = (refl, refl, refl, refl)

all_names : names_text red_and_blue (1 ∷ 2 ∷ 3 ∷ []) ≡ codes "Red; 2; Blue"
unfolding digits
all_names = refl

pieces : joined (codes ", ") (codes "a" ∷ codes "b" ∷ []) ≡ codes "a, b"
pieces = refl

beside_numbers : (beside (Some red_and_blue) (1 ∷ 3 ∷ []) ≡ 9 ∷ codes "Red; Blue") × (beside (Some red_and_blue) [] ≡ 9 ∷ []) × (beside None (1 ∷ 3 ∷ []) ≡ [])
beside_numbers = (refl, refl, refl)

named_candidates : (candidates_text (Some red_and_blue) (1 ∷ 3 ∷ []) ≡ codes "1,3" ++ 9 ∷ codes "Red; Blue") × (candidates_text None (1 ∷ 3 ∷ []) ≡ codes "1,3")
unfolding digits
named_candidates = (refl, refl)

names_in_a_row : (listed_name false red_and_blue 3 ≡ codes "; Blue") × (listed_names true red_and_blue (1 ∷ 3 ∷ []) ≡ codes "Red; Blue")
names_in_a_row = (refl, refl)

-- numbers that stand in the place of names are not the same as no names
sources_of_names : (names_of {A = ℕ} Unwanted ≡ None) × (names_of {A = ℕ} Numbers ≡ Some []) × (names_of {A = ℕ} (Of (record { ref_ptr = (0, 0); now = three })) ≡ Some ([] ∷ [] ∷ [] ∷ []))
sources_of_names = (refl, refl, refl)

found_names : (names_in None ≡ []) × (names_in (Some red_and_blue) ≡ red_and_blue)
    × (IsName red_and_blue 2 None) × (IsName red_and_blue 3 (Some (record { ref_ptr = (0, 0); now = codes "Blue" })))
found_names = (refl, refl, refl, refl)

parties_with_seats : (seated_parties (2 ∷ 0 ∷ 1 ∷ []) ≡ 1 ∷ 3 ∷ []) × (seated_parties (0 ∷ 0 ∷ []) ≡ [])
parties_with_seats = (refl, refl)

-- ---- reports
-- three voters approve 1 and 2, and one approves 3 and 4
abbrev divided : Election
divided = election 4 ([] ∷ [] ∷ [] ∷ [] ∷ []) ((1 ∷ 2 ∷ [], 3) ∷ (3 ∷ 4 ∷ [], 1) ∷ [])

-- two voters approve 1, 2 and 3
abbrev united : Election
united = election 4 ([] ∷ [] ∷ [] ∷ [] ∷ []) ((1 ∷ 2 ∷ 3 ∷ [], 2) ∷ [])

-- with the committee of 3 and 4, the voters of 1 break both properties
abbrev by_jr : Violation
by_jr = violation_of Jr divided (3 ∷ 4 ∷ []) 1 (1 ∷ [], [])

abbrev by_pjr : Violation
by_pjr = violation_of Pjr divided (3 ∷ 4 ∷ []) 1 (1 ∷ [], [])

holds : holds_text ≡ codes "holds" ++ 10 ∷ []
holds = refl

sets : (set_or_dash (Some red_and_blue) [] ≡ codes "-") × (set_or_dash None (1 ∷ 20 ∷ []) ≡ codes "1,20") × (set_or_dash (Some red_and_blue) (1 ∷ []) ≡ codes "1" ++ 9 ∷ codes "Red")
unfolding digits
sets = (refl, refl, refl)

within_texts : (within_text None Pjr (3 ∷ []) ≡ line (codes "within 3")) × (within_text (Some red_and_blue) Pjr [] ≡ line (codes "within -")) × (within_text None Ejr [] ≡ []) × (within_text None Jr [] ≡ [])
unfolding digits
within_texts = (refl, refl, refl, refl)

a_row : row_text None (1 ∷ 20 ∷ [], 3) ≡ line (codes "3: 1,20")
unfolding digits
a_row = refl

an_empty_row : (row_text None ([], 3) ≡ line (codes "3: ")) × (row_text (Some red_and_blue) ([], 3) ≡ line (codes "3: " ++ 9 ∷ []))
unfolding digits
an_empty_row = (refl, refl)

levels : level_text Ejr 20 ≡ line (codes "violated ejr") ++ line (codes "level 20")
unfolding digits
levels = refl

group_sizes : voters_text 3 40 ≡ line (codes "voters 3 of 40")
unfolding digits
group_sizes = refl

-- those who approve 3 and 4 are not in the group
their_rows : group_text None by_jr divided.rows ≡ line (codes "3: 1,2")
unfolding digits
their_rows = refl

claims : claim_text None by_pjr ≡ line (codes "violated pjr") ++ line (codes "level 1") ++ line (codes "candidates 1") ++ line (codes "within -")
unfolding digits
claims = refl

report_by_jr : violation_text None by_jr divided
    ≡ line (codes "violated jr") ++ line (codes "level 1") ++ line (codes "candidates 1") ++ line (codes "voters 3 of 4") ++ line (codes "3: 1,2")
unfolding digits
report_by_jr = refl

report_by_pjr : violation_text None by_pjr divided
    ≡ line (codes "violated pjr") ++ line (codes "level 1") ++ line (codes "candidates 1") ++ line (codes "within -") ++ line (codes "voters 3 of 4") ++ line (codes "3: 1,2")
unfolding digits
report_by_pjr = refl

-- the same with names
named_report : violation_text (Some red_and_blue) by_pjr divided
    ≡ line (codes "violated pjr") ++ line (codes "level 1") ++ line (codes "candidates 1" ++ 9 ∷ codes "Red") ++ line (codes "within -") ++ line (codes "voters 3 of 4") ++ line (codes "3: 1,2" ++ 9 ∷ codes "Red; 2")
unfolding digits
named_report = refl

-- at level 2 the voters may have 3 alone
report_within : violation_text None (violation_of Pjr united (3 ∷ 4 ∷ []) 2 (1 ∷ 2 ∷ [], 3 ∷ [])) united
    ≡ line (codes "violated pjr") ++ line (codes "level 2") ++ line (codes "candidates 1,2") ++ line (codes "within 3") ++ line (codes "voters 2 of 2") ++ line (codes "2: 1,2,3")
unfolding digits
report_within = refl

report_by_ejr : violation_text None (violation_of Ejr united (3 ∷ 4 ∷ []) 2 (1 ∷ 2 ∷ [], [])) united
    ≡ line (codes "violated ejr") ++ line (codes "level 2") ++ line (codes "candidates 1,2") ++ line (codes "voters 2 of 2") ++ line (codes "2: 1,2,3")
unfolding digits
report_by_ejr = refl

-- and these are the reports of a check
first_reports : (first_violation Jr divided (3 ∷ 4 ∷ []) 1 ≡ Some by_jr) × (first_violation Pjr divided (3 ∷ 4 ∷ []) 1 ≡ Some by_pjr)
unfolding lists_of
first_reports = (refl, refl)

-- ---- devices
failed_writes : (is_failed_write {E = ℕ} (Ok 0) (1 ∷ []) ≡ true) × (is_failed_write {E = ℕ} (Ok 0) [] ≡ false)
    × (is_failed_write {E = ℕ} (Ok 1) (1 ∷ 2 ∷ []) ≡ false) × (is_failed_write {E = ℕ} (Err 1) [] ≡ true)
failed_writes = (refl, refl, refl, refl)

-- a read of five bytes, and a failed one
given_by_reads : (bytes_given {E = ℕ} (Ok 5) ≡ 5) × (bytes_given {E = ℕ} (Err 7) ≡ 0)
given_by_reads = (refl, refl)

-- two bytes of three are taken
two_of_three : AppendsBeginning (Some (7 ∷ [])) (Some (7 ∷ 1 ∷ 2 ∷ [])) (1 ∷ 2 ∷ 3 ∷ [])
two_of_three = (1 ∷ 2 ∷ [], 3 ∷ [], refl, refl)

-- what is told of a device that is a triple
states : (reader_state (λ (r : Option (List ℕ) × Bool × ℕ). r.0) (λ r. r.1) (λ r. r.2) (None, true, 5) ≡ record { remaining = None; has_failed = true; given = 5 })
    × (writer_state (λ (w : List ℕ × Bool × ℕ). Some w.0) (λ w. w.1) (λ w. w.2) (1 ∷ [], true, 2) ≡ record { contents = Some (1 ∷ []); has_failed = true; flushes = 2 })
states = (refl, refl)

-- a writer as the bytes that it took, whether a call on it has failed, and how often it was flushed
abbrev Taken : Type 0
Taken = List ℕ × Bool × ℕ

abbrev taken : Taken → Option (List ℕ)
taken writer = Some writer.0

abbrev calls : Taken → Calls
calls writer = calls_of (λ (w : Taken). w.1) (λ w. w.2) writer

-- a printer over such a writer, with what waits
abbrev printer : MutBor Taken → Taken → List ℕ → Printer Taken
printer out writer waiting = record { out = record out { now = writer }; pending = record { items = waiting } }

-- 3 is printed after 1 and 2, of which 1 is sent
printed : (out : MutBor Taken)
    → Prints taken calls (printer out ([], false, 0) (1 ∷ 2 ∷ [])) (printer out (1 ∷ [], false, 0) (2 ∷ 3 ∷ [])) true (3 ∷ [])
printed out = record {
  same_writer = refl;
  passed = record {
    sent = 1 ∷ [];
    rest = 2 ∷ 3 ∷ [];
    order = refl;
    took = refl;
    whole = λ ok. (refl, refl);
    broken = λ ok. absurd (both_ways true ok refl);
  };
}

-- 1 and 2 wait; they are sent, and the writer is flushed
printed_all : (out : MutBor Taken)
    → PrintsAll taken calls (printer out ([], false, 0) (1 ∷ 2 ∷ [])) (printer out (1 ∷ 2 ∷ [], false, 1) []) true []
printed_all out = record {
  same_writer = refl;
  passed = record {
    sent = 1 ∷ 2 ∷ [];
    rest = [];
    order = refl;
    took = refl;
    whole = λ ok. (refl, refl);
    broken = λ ok. absurd (both_ways true ok refl);
  };
}

-- a write of 1, 2 and 3 breaks off after 1
sent_in_part : Sends taken calls ([], false, 0) (1 ∷ [], true, 0) false (1 ∷ 2 ∷ 3 ∷ [])
sent_in_part = record {
  sent = 1 ∷ [];
  rest = 2 ∷ 3 ∷ [];
  order = refl;
  took = refl;
  whole = λ ok. absurd (both_ways false refl ok);
  broken = λ ok. refl;
}
