-- What the words of a command line ask for, by clap's published meaning of a command.
use Rattle.std.specs.Prelude.{◌≡◌, ◌≢◌, ◌&&◌, ◌++◌, ⊤, ℕ, Bool, true, false, List, [], ◌∷◌, map, Option, Some, None, Result, Ok, Err}
use Rattle.std.specs.Prelude.{codes, if◌then◌else◌, option_and_then, option_map, pos}
use Rattle.std.specs.List.{list_any}
use Rattle.std.specs.Option.{is_some, ok_or, option_map_or, option_transpose, option_zip}
use Rattle.std.specs.Result.{result_ok}
use Rattle.std.specs.Borrow.{Bor}
use Rattle.std.specs.Str.{bytes_eq}
use Rattle.std.specs.Str.Parse.{digits_value, without_leading_plus}
use Rattle.clap.specs.Simple.{new_shape}
use Rattle.clap.specs.Words.{App, IsAmong, Row, Shape, Text, all_of, fault_of, first_of}
use Rattle.clap.specs.Words.{new_rule, one_of, subcommand_of, takes}
use Rattle.clap.specs.Words.{with_subcommand, Rule as Argument}
use Rattle.clap.specs.declared.builder.action.ArgAction.TheVariants as action
use Rattle.clap.specs.declared.builder.value_parser.ValueParser.TheVariants as parser
use Rattle.clap.specs.declared.error.kind.ErrorKind.{ErrorKind}
use Rattle.clap.specs.declared.error.kind.ErrorKind.TheVariants as kind
use Rattle.ballot_base.specs.Limits.{most_members}
use Rattle.group_check.specs.Names.{property_named}
use Rattle.preflib_text.specs.declared.pick.Pick.{Pick}
use Rattle.preflib_text.specs.declared.pick.Way.{Way}
use Rattle.preflib_text.specs.declared.pick.Way.TheVariants.{Usual, Category, SetSize, Classes}
use Rattle.preflib_text.specs.Names.{kind_named}
use Rattle.seat_share.specs.Limits.{most_seats}
use Rattle.seat_share.specs.Names.{method_named}
use Rattle.seat_share.specs.declared.method.Method.{Method}
use Rattle.request_words.specs.Endings.{kind_in_path}
use Rattle.request_words.specs.Names.{kind_names, method_names, property_names, rule_named, rule_names}
use Rattle.request_words.specs.NumberList.{list_of}
use Rattle.request_words.specs.Limits.{most_limit, most_way_number}
use Rattle.request_words.specs.Request.{Request, Task, Page, checking, electing, of_ballots, sharing_by}
use Rattle.request_words.specs.declared.request.Rule.{Rule}
use Rattle.request_words.specs.declared.words.LineFault.{LineFault}
use Rattle.request_words.specs.declared.words.LineFault.TheVariants.{Help, Usage, BadList, TwoPicks, VotesAndInput, Memory}
use Rattle.request_words.specs.declared.words.ListOption.{ListOption}
use Rattle.request_words.specs.declared.words.ListOption.TheVariants.{Committee, Votes, After}

-- ---- the commands

-- a list of names as clap keeps it: by references
abbrev pub Names : Type 0
Names = Bor (List (Bor Text))

-- an option with a value, which may be any text
abbrev pub text_option : Text → Argument
text_option name = record (new_rule name) { long = Some name; value_names = 1 }

-- an option that takes one of these names
abbrev pub name_option : Text → Names → Argument
name_option name names = record (text_option name) { parser = Some (parser.Names names) }

-- an option that takes a number from 1 to this one
abbrev pub number_option : Text → ℕ → Argument
number_option name most = record (text_option name) { parser = Some (parser.Signed (pos 1) (pos most)) }

-- the option, which must be given
abbrev pub required : Argument → Argument
required option = record option { required = true }

-- an option without a value
abbrev pub flag_option : Text → Argument
flag_option name = record (new_rule name) { long = Some name; action = Some action.SetTrue }

-- `FILE`, which takes any text
abbrev pub file_word : Argument
file_word = record (new_rule (codes "file")) { value_names = 1 }

-- what all commands take: how the ballots are read, where they are, and whether names are printed
abbrev pub input_arguments : Names → List Argument
input_arguments kinds = name_option (codes "kind") kinds ∷ number_option (codes "category") most_way_number
    ∷ number_option (codes "setsize") most_way_number ∷ number_option (codes "classes") most_way_number
    ∷ flag_option (codes "names") ∷ file_word ∷ []

-- what the commands take that print lists of answers: which of the answers are wanted
abbrev pub page_arguments : List Argument
page_arguments = text_option (codes "after") ∷ number_option (codes "limit") most_limit ∷ []

-- `elect --rule RULE --size SIZE`, with a size from 1 to `most_members`
abbrev pub elect_over : Names → Names → Shape
elect_over rules kinds = record (new_shape (codes "elect")) {
  rules = required (name_option (codes "rule") rules) ∷ required (number_option (codes "size") most_members)
      ∷ page_arguments ++ input_arguments kinds;
}

-- `check --property PROPERTY --committee LIST`
abbrev pub check_over : Names → Names → Shape
check_over properties kinds = record (new_shape (codes "check")) {
  rules = required (name_option (codes "property") properties) ∷ required (text_option (codes "committee"))
      ∷ input_arguments kinds;
}

-- `share --method METHOD --seats SEATS`, with 1 to `most_seats` seats, and optionally `--votes LIST`
abbrev pub share_over : Names → Names → Shape
share_over methods kinds = record (new_shape (codes "share")) {
  rules = required (name_option (codes "method") methods) ∷ required (number_option (codes "seats") most_seats)
      ∷ text_option (codes "votes") ∷ page_arguments ++ input_arguments kinds;
}

-- `committees`, which requires one of these three commands
abbrev pub program_over : Shape → Shape → Shape → App
program_over elect check share = with_subcommand (with_subcommand (with_subcommand (record {
  top = record (new_shape (codes "committees")) { subcommand_required = true };
  subs = [];
}) elect) check) share

-- a reference to a value; where it lies has no meaning
abbrev pub shown : {X : Type 0} → X → Bor X
shown x = record { ref_ptr = (0, 0); now = x }

-- names that lie somewhere
abbrev pub shown_names : List Text → Names
shown_names names = shown (map shown names)

-- `committees`, with the names of its rules, properties, methods and types
abbrev pub program : App
program = program_over (elect_over (shown_names rule_names) (shown_names kind_names))
    (check_over (shown_names property_names) (shown_names kind_names))
    (share_over (shown_names method_names) (shown_names kind_names))

-- ---- the request

-- the value of a number's digits, which may begin with zeros and may follow a `+`
abbrev pub number_of : Text → ℕ
number_of digits = digits_value 10 (without_leading_plus digits)

-- the way of the numbers that are given; none if there are two or more
abbrev pub way_by : Option ℕ → Option ℕ → Option ℕ → Option Way
way_by None None None = Some Usual
way_by None None (Some n) = Some (Classes n)
way_by None (Some n) None = Some (SetSize n)
way_by None (Some n) (Some k) = None
way_by (Some n) None None = Some (Category n)
way_by (Some n) None (Some k) = None
way_by (Some n) (Some k) classes = None

-- the number of an option, if it is given
abbrev pub number_at : Text → List Row → Option ℕ
number_at name rows = option_map number_of (one_of name rows)

-- the way in what clap found for a command; none if two or more are given
abbrev pub way_in : List Row → Option Way
way_in rows =
    way_by (number_at (codes "category") rows) (number_at (codes "setsize") rows) (number_at (codes "classes") rows)

-- how the ballots are read, in this way
abbrev pub pick_in : List Row → Way → Pick
pick_in rows way = record {
  kind = option_and_then kind_named (first_of (codes "kind") rows);
  ending = option_and_then kind_in_path (first_of (codes "file") rows);
  way = way;
}

-- what a step gives after one that may fail
abbrev pub result_and_then : {A B : Type 0} → (A → Result B LineFault) → Result A LineFault → Result B LineFault
result_and_then f (Ok x) = f x
result_and_then f (Err e) = Err e

-- the list that the text of an option stands for
abbrev pub listed : ListOption → Text → Result (List ℕ) LineFault
listed option text = ok_or (list_of text) (BadList option)

-- the list of an option that is given, if it is
abbrev pub list_in : ListOption → Text → List Row → Result (Option (List ℕ)) LineFault
list_in option name rows = option_transpose (option_map (listed option) (first_of name rows))

-- which of the answers are asked for
abbrev pub page_in : List Row → Result Page LineFault
page_in rows = result_and_then (λ after. Ok (record { after = after; limit = number_at (codes "limit") rows }))
    (list_in After (codes "after") rows)

-- whether names are asked for
abbrev pub wants_names : List Row → Bool
wants_names rows = option_map_or (bytes_eq (codes "true")) (one_of (codes "names") rows) false

-- a request for this, unless two ways are given
abbrev pub asking : List Row → Task → Result Request LineFault
asking rows task = ok_or (option_map (λ way. record {
  task = task;
  pick = pick_in rows way;
  file = first_of (codes "file") rows;
  names = wants_names rows;
}) (way_in rows)) TwoPicks

-- an election by a rule, of `size` seats
abbrev pub elect_over_page : List Row → Rule → ℕ → Page → Result Request LineFault
elect_over_page rows rule size page = asking rows (of_ballots (electing rule size page))

-- what `elect` asks for
abbrev pub elect_in : List Row → Option (Result Request LineFault)
elect_in rows = option_map (λ p. result_and_then (elect_over_page rows p.0 (number_of p.1)) (page_in rows))
    (option_zip (option_and_then rule_named (first_of (codes "rule") rows)) (one_of (codes "size") rows))

-- what `check` asks for
abbrev pub check_in : List Row → Option (Result Request LineFault)
check_in rows =
    option_map (λ p. result_and_then (λ list. asking rows (of_ballots (checking p.0 list))) (listed Committee p.1))
    (option_zip (option_and_then property_named (first_of (codes "property") rows)) (first_of (codes "committee") rows))

-- whether an argument is given
abbrev pub is_given : List Row → Text → Bool
is_given rows name = is_some (all_of name rows)

-- the names of the ways
abbrev pub way_names : List Text
way_names = codes "category" ∷ codes "setsize" ∷ codes "classes" ∷ []

-- whether an argument about the input is given: where it is, or how it is read
abbrev pub has_input : List Row → Bool
has_input rows = list_any (is_given rows) (codes "file" ∷ codes "kind" ∷ way_names)

-- the request, unless votes are given together with an input
abbrev pub without_both : List Row → Request → Result Request LineFault
without_both rows asked = if is_given rows (codes "votes") && has_input rows then Err VotesAndInput else Ok asked

-- a sharing of `seats` seats by a method, by these votes or by those of ballots
abbrev pub share_over_page : List Row → Method → ℕ → Option (List ℕ) → Page → Result Request LineFault
share_over_page rows method seats votes page = asking rows (sharing_by votes method seats page)

abbrev pub share_over_votes : List Row → Method → ℕ → Option (List ℕ) → Result Request LineFault
share_over_votes rows method seats votes = result_and_then (share_over_page rows method seats votes) (page_in rows)

-- what `share` asks for
abbrev pub share_in : List Row → Option (Result Request LineFault)
share_in rows = option_map (λ p. result_and_then (without_both rows)
    (result_and_then (share_over_votes rows p.0 (number_of p.1)) (list_in Votes (codes "votes") rows)))
    (option_zip (option_and_then method_named (first_of (codes "method") rows)) (one_of (codes "seats") rows))

-- What a command asks for in what clap found, or the first fault that clap does not know of. There is neither if a
-- required value is missing; then clap does not take the words.
abbrev pub asked_in : Text → List Row → Option (Result Request LineFault)
asked_in command rows = if bytes_eq command (codes "check") then check_in rows
    else (if bytes_eq command (codes "share") then share_in rows else elect_in rows)

-- the same for the words, of which the first names the program; nothing if clap refuses them
abbrev pub outcome_of : List Text → Option (Result Request LineFault)
outcome_of words = if takes program words
    then option_and_then (λ found. asked_in found.0 found.1) (subcommand_of program words) else None

-- the request of the words; none if they are refused, by clap or after it
abbrev pub request_of : List Text → Option Request
request_of words = option_and_then result_ok (outcome_of words)

-- ---- refusals

-- clap refuses the words and returns its help
abbrev pub AsksForHelp : List Text → Type 0
AsksForHelp words =
    (takes program words ≡ false) × IsAmong kind.DisplayHelp (fault_of program words)

-- clap refuses the words and returns something other than help
abbrev pub IsMisused : List Text → Type 0
IsMisused words = (takes program words ≡ false) × ((k : ErrorKind)
    × IsAmong k (fault_of program words) × (k ≢ kind.DisplayHelp) × (k ≢ kind.OutOfMemory))

-- the fault is clap's, or the first that the words have after clap took them, or out of memory
abbrev pub RefusesWords : List Text → LineFault → Type 0
RefusesWords words (Help text) = AsksForHelp words
RefusesWords words (Usage text) = IsMisused words
RefusesWords words (BadList option) = outcome_of words ≡ Some (Err (BadList option))
RefusesWords words TwoPicks = outcome_of words ≡ Some (Err TwoPicks)
RefusesWords words VotesAndInput = outcome_of words ≡ Some (Err VotesAndInput)
RefusesWords words Memory = ⊤

-- the fault is not one of clap's
abbrev pub IsAfterClap : LineFault → Type 0
IsAfterClap (Help text) = ⊥
IsAfterClap (Usage text) = ⊥
IsAfterClap fault = ⊤

-- an option with a list, as it is written
abbrev pub option_word : ListOption → Text
option_word Committee = codes "--committee"
option_word Votes = codes "--votes"
option_word After = codes "--after"

-- the line on standard error for words that are refused; none if clap has a text, or memory ran out
abbrev pub line_of : LineFault → Option Text
line_of (BadList option) = Some (codes "committees: words: BadList " ++ option_word option)
line_of TwoPicks = Some (codes "committees: words: TwoPicks")
line_of VotesAndInput = Some (codes "committees: words: VotesAndInput")
line_of fault = None
