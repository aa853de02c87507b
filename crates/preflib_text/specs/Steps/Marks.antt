-- What is noted of a ballot while its classes come, and what that says at the end.
use Rattle.std.specs.Prelude.{◌≡◌, ◌<◌, ◌≤◌, ℕ, ◌+◌, ◌==◌, ◌&&◌, ◌||◌, Bool, true, not, List, [], length, fold}
use Rattle.std.specs.Prelude.{Option, Some, None, option_map, unwrap_or, nat_le, nat_lt, if◌then◌else◌}
use Rattle.ballot_base.specs.Limits.{most_voters}
use Rattle.preflib_text.specs.Limits.{word_limit}
use Rattle.ballot_base.specs.CandSet.{has_member, with_member}
use Rattle.preflib_text.specs.declared.pick.Kind.{Kind}
use Rattle.preflib_text.specs.declared.pick.Kind.TheVariants.{Cat}
use Rattle.preflib_text.specs.declared.pick.Way.{Way}
use Rattle.preflib_text.specs.declared.pick.Way.TheVariants as given
use Rattle.preflib_text.specs.declared.approvals.Taking.{Taking}
use Rattle.preflib_text.specs.declared.approvals.Taking.TheVariants.{Category, SetSize, Classes}
use Rattle.preflib_text.specs.declared.fault.FaultName.{FaultName}
use Rattle.preflib_text.specs.declared.fault.FaultName.TheVariants.{BadCount, NoSuchCandidate, RepeatedCandidate}
use Rattle.preflib_text.specs.declared.fault.FaultName.TheVariants.{NotStrict, Incomplete, TooManyClasses}
use Rattle.preflib_text.specs.declared.approvals.Marks.{Marks}
use Rattle.preflib_text.specs.declared.ballot.Token.{Token}
use Rattle.preflib_text.specs.declared.ballot.Token.TheVariants.{Number, Close}
use Rattle.preflib_text.specs.declared.ballot.OrderPlace.{OrderPlace}
use Rattle.preflib_text.specs.declared.ballot.OrderPlace.TheVariants.{Order, Class, Opened, Inner, Listed}
use Rattle.preflib_text.specs.Steps.Tokens.{tokens_of, order_at}
use Rattle.preflib_text.specs.Reading.{or_else, fault_if, is_strict, is_complete, is_cat}

-- the marks before the first class
abbrev pub no_marks : Marks
no_marks = record { wrong = None; seen = []; approved = []; strict = true; classes = 0; before = 0; numbers = 0 }

-- what the usual way takes in a file of this type, and what any way takes
abbrev pub usual_taking : Kind → Taking
usual_taking Cat = Category 1
usual_taking kind = SetSize 1

abbrev pub taking_of : Kind → Way → Taking
taking_of kind given.Usual = usual_taking kind
taking_of kind (given.Category n) = Category n
taking_of kind (given.SetSize n) = SetSize n
taking_of kind (given.Classes n) = Classes n

-- whether the numbers of a class are taken, after `classes` classes with `numbers` numbers
abbrev pub takes : Taking → ℕ → ℕ → Bool
takes (Category n) classes numbers = classes + 1 == n
takes (SetSize n) classes numbers = nat_lt numbers n
takes (Classes n) classes numbers = nat_lt classes n

-- whether no further class is taken, after `classes` classes with `numbers` numbers
abbrev pub is_past : Taking → ℕ → ℕ → Bool
is_past (Category n) classes numbers = nat_le n classes
is_past (SetSize n) classes numbers = nat_le n numbers
is_past (Classes n) classes numbers = nat_le n classes

-- what is wrong with the number or with one before it
abbrev pub wrong_with : ℕ → Marks → ℕ → Option FaultName
wrong_with m marks n = or_else marks.wrong
    (or_else (fault_if ((n == 0) || nat_lt m n) NoSuchCandidate) (fault_if (has_member marks.seen n) RepeatedCandidate))

-- the marks with one more number in the current class, with which nothing is wrong
abbrev pub with_new : Marks → Bool → ℕ → Marks
with_new marks taken n = record marks {
  numbers = marks.numbers + 1;
  seen = with_member marks.seen n;
  approved = if taken then with_member marks.approved n else marks.approved;
}

-- the marks with one more number in the current class
abbrev pub with_number : ℕ → Taking → Marks → ℕ → Marks
with_number m taking marks n = by (wrong_with m marks n)
  where
    by : Option FaultName → Marks
    by (Some name) = record marks { wrong = Some name; numbers = marks.numbers + 1 }
    by None = with_new marks (takes taking marks.classes marks.before) n

-- the marks at the end of a class
abbrev pub with_end : Marks → Marks
with_end marks = record marks {
  strict = marks.strict && (marks.numbers == 1);
  classes = marks.classes + 1;
  before = marks.before + marks.numbers;
  numbers = 0;
}

-- the marks with a class, and with classes
abbrev pub with_class : ℕ → Taking → Marks → List ℕ → Marks
with_class m taking marks class = with_end (fold (with_number m taking) marks class)

abbrev pub with_classes : ℕ → Taking → Marks → List (List ℕ) → Marks
with_classes m taking marks classes = fold (with_class m taking) marks classes

-- the marks with a token that comes at a place
abbrev pub with_read : ℕ → Taking → OrderPlace → Token → Marks → Marks
with_read m taking Order (Number n) marks = with_end (with_number m taking marks n)
with_read m taking Class (Number n) marks = with_end (with_number m taking marks n)
with_read m taking Opened (Number n) marks = with_number m taking marks n
with_read m taking Inner (Number n) marks = with_number m taking marks n
with_read m taking Opened Close marks = with_end marks
with_read m taking Listed Close marks = with_end marks
with_read m taking place token marks = marks

-- the marks of an order that goes on with this text at this place, after what these marks note
abbrev pub marks_at : ℕ → Taking → OrderPlace → List ℕ → Marks → Option Marks
marks_at m taking place text marks = option_map (with_classes m taking marks) (order_at place (tokens_of text))

-- The text at a place was read up to `rest` at the next place. The order keeps its marks, and each class and each
-- number that was read had at least one byte.
pub record IsReadOn (m : ℕ) (taking : Taking) (place : OrderPlace) (text : List ℕ) (marks : Marks)
    (next : OrderPlace) (rest : List ℕ) (after : Marks) : Type 0 where
  pub same : marks_at m taking next rest after ≡ marks_at m taking place text marks
  pub shorter : length rest ≤ length text
  pub classes : after.classes + length rest ≤ marks.classes + length text
  pub numbers : after.before + after.numbers + length rest ≤ marks.before + marks.numbers + length text

-- the counts stay words, with `bytes` bytes to come and one more class or number
abbrev pub HasRoom : Marks → ℕ → Type 0
HasRoom marks bytes =
    (marks.classes + bytes + 1 < word_limit) × (marks.before + marks.numbers + bytes + 1 < word_limit)

-- what is wrong with a ballot of this count
abbrev pub fault_of : Kind → ℕ → Option ℕ → ℕ → Marks → Option FaultName
fault_of kind m categories count marks =
    or_else (fault_if ((count == 0) || nat_lt most_voters count) BadCount)
    (or_else marks.wrong
    (or_else (fault_if (is_strict kind && not marks.strict) NotStrict)
    (or_else (fault_if (is_complete kind && nat_lt (length marks.seen) m) Incomplete)
    (fault_if (is_cat kind && nat_lt (unwrap_or categories marks.classes) marks.classes) TooManyClasses))))
