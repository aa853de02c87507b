-- Each definition on ballot lines, computed on a small example.
use Rattle.std.proofs.Common.{◌≡◌, ◌+◌, ◌^◌, [], ◌∷◌, true, false, Some, None, refl, inl, inr, lit≤, lit<}
use Rattle.std.specs.Prelude.{codes}
use Rattle.preflib_text.specs.declared.pick.Kind.TheVariants.{Cat, Soc, Soi, Toc, Toi}
use Rattle.preflib_text.specs.declared.pick.Way.TheVariants.{Category, SetSize, Classes}
use Rattle.preflib_text.specs.declared.approvals.Taking.TheVariants as take
use Rattle.preflib_text.specs.declared.fault.FaultName.TheVariants.{BadCount, NoSuchCandidate, RepeatedCandidate, NotStrict, Incomplete, TooManyClasses}
use Rattle.preflib_text.specs.declared.ballot.Token.TheVariants.{Number, Colon, Comma, Open, Close, Other}
use Rattle.preflib_text.specs.declared.ballot.OrderPlace.TheVariants.{Order, Class, Between, Opened, Inner}
use Rattle.preflib_text.specs.Ballot.{IsBlanks, IsDigits, IsPadded, IsNumber, IsJoined, IsBraced, IsClass, IsOrder, IsBallotLine}
use Rattle.preflib_text.specs.Approvals.{HasNumber, set_of, first_numbers, usual_numbers, taken_numbers, approved}
use Rattle.preflib_text.specs.Reading.{or_else, fault_if, number_in_ballot_fault, is_strict, is_complete, is_cat, ballot_fault}
use Rattle.preflib_text.specs.Steps.Tokens.{token_of, number_before, with_digit, tokens_after, tokens_of, capped, capped_token, IsFirstToken, next_place, is_end, with_token, order_at, cast_of, ballot_of}
use Rattle.preflib_text.specs.Steps.Marks.{no_marks, usual_taking, taking_of, takes, wrong_with, with_number, with_end, with_class, with_classes, with_read, fault_of}
use Rattle.preflib_text.specs.Steps.Answers.{HasMarks, IsGoodBallot, IsBallotFault}

-- ---- the shape of a ballot line

blanks : IsBlanks (32 ∷ 9 ∷ [])
blanks = refl

digits : IsDigits (codes "007") 7
digits = (lit< tt, refl, refl)

padded : IsPadded (λ text. IsDigits text 7) (codes " 7")
padded = (codes " ", codes "7", [], refl, refl, (lit< tt, refl, refl), refl)

number : IsNumber (codes "12 ") 12
number = ([], codes "12", codes " ", refl, refl, (lit< tt, refl, refl), refl)

joined : IsJoined IsNumber (codes "1, 2") (1 ∷ 2 ∷ [])
joined =
    (codes "1", codes " 2", refl, ([], codes "1", [], refl, refl, (lit< tt, refl, refl), refl), (codes " ", codes "2", [], refl, refl, (lit< tt, refl, refl), refl))

braced : IsBraced (codes "{1, 2}") (1 ∷ 2 ∷ [])
braced = (codes "1, 2", refl, inr joined)

braced_none : IsBraced (codes "{ }") []
braced_none = (codes " ", refl, inl (refl, refl))

class : IsClass (codes " 12") (12 ∷ [])
class = inl (12, refl, (codes " ", codes "12", [], refl, refl, (lit< tt, refl, refl), refl))

braced_class : IsClass (codes " {1, 2}") (1 ∷ 2 ∷ [])
braced_class = inr (codes " ", codes "{1, 2}", [], refl, refl, braced, refl)

order_none : IsOrder (codes " ") []
order_none = inl (refl, refl)

order : IsOrder (codes " {1, 2},12 ") ((1 ∷ 2 ∷ []) ∷ (12 ∷ []) ∷ [])
order = inr (codes " {1, 2}", codes "12 ", refl, braced_class, inl (12, refl, number))

ballot_line : IsBallotLine (codes " 7: {1, 2},12 ") 7 ((1 ∷ 2 ∷ []) ∷ (12 ∷ []) ∷ [])
ballot_line = (codes " 7", codes " {1, 2},12 ", refl, padded, order)

-- ---- approvals

usual_of_cat : usual_numbers Cat ([] ∷ (2 ∷ []) ∷ []) ≡ []
usual_of_cat = refl

usual_of_toc : usual_numbers Toc ([] ∷ (2 ∷ []) ∷ []) ≡ 2 ∷ []
usual_of_toc = refl

set : set_of (3 ∷ 1 ∷ 2 ∷ []) ≡ 1 ∷ 2 ∷ 3 ∷ []
set = refl

three_numbers : first_numbers 3 ((5 ∷ []) ∷ [] ∷ (3 ∷ 1 ∷ []) ∷ (2 ∷ []) ∷ []) ≡ 5 ∷ 3 ∷ 1 ∷ []
three_numbers = refl

second_category : taken_numbers Cat (Category 2) ((5 ∷ []) ∷ (3 ∷ 1 ∷ []) ∷ []) ≡ 3 ∷ 1 ∷ []
second_category = refl

third_category : taken_numbers Cat (Category 3) ((5 ∷ []) ∷ (3 ∷ 1 ∷ []) ∷ []) ≡ []
third_category = refl

two_classes : approved Toi (Classes 2) ((5 ∷ []) ∷ (3 ∷ 1 ∷ []) ∷ (2 ∷ []) ∷ []) ≡ 1 ∷ 3 ∷ 5 ∷ []
two_classes = refl

-- ---- faults

first_of_two : or_else (fault_if false BadCount) (fault_if true NotStrict) ≡ Some NotStrict
first_of_two = refl

no_such : number_in_ballot_fault 4 [] (1 ∷ 5 ∷ 1 ∷ []) ≡ Some NoSuchCandidate
no_such = refl

repeated : number_in_ballot_fault 4 [] (1 ∷ 1 ∷ 5 ∷ []) ≡ Some RepeatedCandidate
repeated = refl

strict : is_strict Soi ≡ true
strict = refl

complete : is_complete Toc ≡ true
complete = refl

of_categories : is_cat Toc ≡ false
of_categories = refl

no_count : ballot_fault Soc 2 None 0 ((9 ∷ []) ∷ []) ≡ Some BadCount
no_count = refl

large_count : ballot_fault Soc 2 None (2 ^ 32 + 1) ((1 ∷ []) ∷ (2 ∷ []) ∷ []) ≡ Some BadCount
large_count = refl

largest_count : ballot_fault Soc 2 None (2 ^ 32) ((1 ∷ []) ∷ (2 ∷ []) ∷ []) ≡ None
largest_count = refl

tied : ballot_fault Soc 2 None 1 ((1 ∷ 2 ∷ []) ∷ []) ≡ Some NotStrict
tied = refl

missing : ballot_fault Toc 3 None 1 ((1 ∷ 2 ∷ []) ∷ []) ≡ Some Incomplete
missing = refl

many_classes : ballot_fault Cat 3 (Some 1) 1 ((1 ∷ 2 ∷ []) ∷ [] ∷ []) ≡ Some TooManyClasses
many_classes = refl

-- ---- tokens

colon : token_of 58 ≡ Colon
colon = refl

seven_before : number_before (Some 7) (Colon ∷ []) ≡ Number 7 ∷ Colon ∷ []
seven_before = refl

seventy_one : with_digit (Some 7) 49 ≡ 71
seventy_one = refl

rest_of_number : tokens_after (Some 7) (codes "1,") ≡ Number 71 ∷ Comma ∷ []
unfolding tokens_after
rest_of_number = refl

tokens : tokens_of (codes " 07: {1, 2},12x ") ≡ Number 7 ∷ Colon ∷ Open ∷ Number 1 ∷ Comma ∷ Number 2 ∷ Close ∷ Comma ∷ Number 12 ∷ Other ∷ []
unfolding tokens_after
tokens = refl

capped_count : capped 18446744073709551617 ≡ 2 ^ 32 + 1
capped_count = refl

capped_seven : capped_token (Number 7) ≡ Number 7
capped_seven = refl

first_token : IsFirstToken (codes " 7:") (Number 7) (codes ":")
unfolding tokens_after
first_token = (Number 7, refl, refl, lit< tt)

after_brace : next_place Opened Close ≡ Some Between
after_brace = refl

no_comma : next_place Class Comma ≡ None
no_comma = refl

may_end : is_end Between ≡ true
may_end = refl

in_class : with_token Inner (Number 2) ((3 ∷ []) ∷ []) ≡ (2 ∷ 3 ∷ []) ∷ []
in_class = refl

classes_of_tokens : order_at Order (Open ∷ Number 1 ∷ Comma ∷ Number 2 ∷ Close ∷ Comma ∷ Number 12 ∷ []) ≡ Some ((1 ∷ 2 ∷ []) ∷ (12 ∷ []) ∷ [])
unfolding order_at
classes_of_tokens = refl

open_class : order_at Order (Open ∷ Number 1 ∷ []) ≡ None
unfolding order_at
open_class = refl

cast_of_tokens : cast_of (Number 7 ∷ Colon ∷ []) ≡ Some (record { count = 7; classes = [] })
unfolding order_at
cast_of_tokens = refl

ballot : ballot_of (codes " 07: {1, 2},{ },12 ") ≡ Some (record { count = 7; classes = (1 ∷ 2 ∷ []) ∷ [] ∷ (12 ∷ []) ∷ [] })
unfolding tokens_after order_at
ballot = refl

no_ballot : ballot_of (codes "1 2: 3") ≡ None
unfolding tokens_after order_at
no_ballot = refl

-- ---- marks

usual_taking_of_cat : usual_taking Cat ≡ take.Category 1
usual_taking_of_cat = refl

taking_of_soi : taking_of Soi (Classes 2) ≡ take.Classes 2
taking_of_soi = refl

takes_second : takes (take.Category 2) 1 3 ≡ true
takes_second = refl

has_number : HasNumber (SetSize 2)
has_number = lit≤ tt

wrong : wrong_with 4 no_marks 5 ≡ Some NoSuchCandidate
wrong = refl

marks_with_number : with_number 4 (take.SetSize 1) no_marks 2 ≡ record no_marks { seen = 2 ∷ []; approved = 2 ∷ []; numbers = 1 }
marks_with_number = refl

marks_with_end : with_end (record no_marks { numbers = 2 }) ≡ record no_marks { strict = false; classes = 1; before = 2 }
marks_with_end = refl

marks_with_class : with_class 4 (take.Classes 1) no_marks (2 ∷ 1 ∷ []) ≡ record no_marks { seen = 1 ∷ 2 ∷ []; approved = 1 ∷ 2 ∷ []; strict = false; classes = 1; before = 2 }
marks_with_class = refl

marks_with_classes : with_classes 4 (take.Classes 1) no_marks ((2 ∷ []) ∷ (1 ∷ 5 ∷ 3 ∷ []) ∷ []) ≡ record no_marks { wrong = Some NoSuchCandidate; seen = 1 ∷ 2 ∷ []; approved = 2 ∷ []; strict = false; classes = 2; before = 4 }
marks_with_classes = refl

marks_with_read : with_read 4 (take.SetSize 1) Class (Number 2) no_marks ≡ record no_marks { seen = 2 ∷ []; approved = 2 ∷ []; classes = 1; before = 1 }
marks_with_read = refl

fault_of_marks : fault_of Soc 3 None 1 (record no_marks { seen = 1 ∷ 2 ∷ []; classes = 2; before = 2 }) ≡ Some Incomplete
fault_of_marks = refl

-- ---- what is answered

has_marks : HasMarks 4 (take.SetSize 1) (codes "1:2") 1 (record no_marks { seen = 2 ∷ []; approved = 2 ∷ []; classes = 1; before = 1 })
unfolding tokens_after order_at
has_marks = (1, (2 ∷ []) ∷ [], refl, refl, refl)

empty_line : IsBallotLine (codes "1:") 1 []
empty_line = (codes "1", [], refl, ([], codes "1", [], refl, refl, (lit< tt, refl, refl), refl), inl (refl, refl))

good_ballot : IsGoodBallot (codes "1:") Toi 4 None (SetSize 1) 1 []
good_ballot = ([], empty_line, refl, refl)

incomplete_ballot : IsBallotFault (codes "1:") Toc 4 None Incomplete
incomplete_ballot = inr (1, [], empty_line, refl)
