-- The answer to a request and an input.
use Rattle.std.specs.Prelude.{◌≡◌, ◌⊎◌, ◌&&◌, ◌++◌, ℕ, length, Bool, true, false, not, List}
use Rattle.std.specs.Prelude.{[], Option, Some, None, Result, MatchResult, codes, nat_le, nat_lt, if◌then◌else◌}
use Rattle.ballot_base.specs.Limits.{most_members}
use Rattle.ballot_base.specs.Lists.{is_committee}
use Rattle.ballot_base.specs.Ballots.{Election}
use Rattle.group_check.specs.Groups.{HasProperty}
use Rattle.group_check.specs.Report.{IsReport}
use Rattle.group_check.specs.declared.property.Property.{Property}
use Rattle.group_check.specs.declared.property.Violation.{Violation}
use Rattle.preflib_text.specs.declared.fault.ReadFault.{ReadFault}
use Rattle.preflib_text.specs.declared.pick.Pick.{Pick}
use Rattle.preflib_text.specs.Reading.{Reads}
use Rattle.seat_share.specs.Faults.{share_fault}
use Rattle.seat_share.specs.Names.{share_fault_name}
use Rattle.seat_share.specs.declared.method.Method.{Method}
use Rattle.seat_share.specs.declared.method.ShareFault.{ShareFault}
use Rattle.request_words.specs.declared.request.Rule.{Rule}
use Rattle.vote_cli.specs.declared.status.Status.{Status}
use Rattle.vote_cli.specs.declared.status.Status.TheVariants.{Answered, Violated, InputRefused}
use Rattle.vote_cli.specs.declared.status.Status.TheVariants.{RequestRefused}
use Rattle.request_words.specs.Request.{Request, Task, Page, Question, electing, checking, sharing}
use Rattle.request_words.specs.Request.{of_ballots, of_votes}
use Rattle.vote_cli.specs.ElectText.{elect_text}
use Rattle.vote_cli.specs.FaultText.{fault_text}
use Rattle.text_output.specs.Names.{Names, naming}
use Rattle.vote_cli.specs.Parties.{has_many_approved, party_votes}
use Rattle.text_output.specs.CheckText.{holds_text, violation_text}
use Rattle.vote_cli.specs.ShareText.{share_text}
use Rattle.vote_cli.specs.Starts.{has_seats_for, may_start}
use Rattle.text_output.specs.Text.{line}

-- the text, the status, and the error line with its end, or nothing if there is none
pub record Answer : Type 0 where
  pub text : List ℕ
  pub status : Status
  pub error : List ℕ

-- an answer that is not a refusal, and the report of a property that does not hold
abbrev pub answered : List ℕ → Answer
answered text = record { text = text; status = Answered; error = [] }

abbrev pub violated : List ℕ → Answer
violated text = record { text = text; status = Violated; error = [] }

-- a refusal: no text, and one line on standard error
abbrev pub refused : Status → List ℕ → Answer
refused status error = record { text = []; status = status; error = line error }

-- the refusal of a request that does not fit
abbrev pub request_refused : List ℕ → Answer
request_refused word = refused RequestRefused (codes "committees: request: " ++ word)

-- ---- by what is asked for

-- the winners of an election, with names beside them or not
abbrev pub election_answer : Rule → ℕ → Page → Bool → Election → Answer
election_answer rule size page with_names election =
    if nat_lt election.m size then request_refused (codes "SizeTooLarge")
    else if not (may_start (is_committee election.m size) page.after) then request_refused (codes "AfterMisfit")
    else answered (elect_text rule size page (naming with_names election.names) election)

-- whether a list may be checked: it is a committee of the candidates 1 to m, no larger than one that may be elected
abbrev pub may_be_checked : ℕ → List ℕ → Bool
may_be_checked m list = nat_le (length list) most_members && is_committee m (length list) list

-- whether the committee of a list has a property, or the report that shows that it does not
abbrev pub IsCheckAnswer : Property → List ℕ → Bool → Election → Answer → Type 0
IsCheckAnswer property list with_names election answer =
    ((may_be_checked election.m list ≡ false) × (answer ≡ request_refused (codes "CommitteeMisfit")))
    ⊎ ((may_be_checked election.m list ≡ true) × HasProperty property election list × (answer ≡ answered holds_text))
    ⊎ ((may_be_checked election.m list ≡ true) × ((report : Violation) × IsReport property election list report
    × (answer ≡ violated (violation_text (naming with_names election.names) report election))))

-- the fair allocations of seats to parties with these votes; a fault of the votes takes precedence over the start
abbrev pub share_answer_by : Option ShareFault → Bool → List ℕ → Answer
share_answer_by (Some fault) starts text = request_refused (share_fault_name fault)
share_answer_by None false text = request_refused (codes "AfterMisfit")
share_answer_by None true text = answered text

abbrev pub share_answer : Method → ℕ → Page → Names → List ℕ → Answer
share_answer method seats page names votes =
    share_answer_by (share_fault votes seats None) (may_start (has_seats_for (length votes)) page.after)
    (share_text method seats page names votes)

-- like `share_answer`, if a voter counts for the one party that the ballot approves
abbrev pub ballots_answer : Method → ℕ → Page → Bool → Election → Answer
ballots_answer method seats page with_names election =
    if has_many_approved election then request_refused (codes "ManyApproved")
    else share_answer method seats page (naming with_names election.names) (party_votes election)

-- the answer to what the bytes hold: one that is right of the election, or the line of their first fault
abbrev pub IsAnswerOver : (Election → Answer → Type 0) → Pick → List ℕ → Answer → Type 0
IsAnswerOver IsRight pick bytes answer = (read : Result Election ReadFault) × Reads bytes pick read
    × MatchResult read (λ election. IsRight election answer) (λ fault. answer ≡ refused InputRefused (fault_text fault))

-- the answer to a question about an election, with names or not
abbrev pub IsAnswerAbout : Bool → Question → Election → Answer → Type 0
IsAnswerAbout with_names (electing rule size page) election answer =
    answer ≡ election_answer rule size page with_names election
IsAnswerAbout with_names (checking property list) election answer =
    IsCheckAnswer property list with_names election answer
IsAnswerAbout with_names (sharing method seats page) election answer =
    answer ≡ ballots_answer method seats page with_names election

-- the answer to a task and the bytes of an input; with votes in the command line, the bytes do not matter, and no
-- party has a name
abbrev pub IsAnswerTo : Bool → Task → Pick → List ℕ → Answer → Type 0
IsAnswerTo with_names (of_ballots question) pick bytes answer =
    IsAnswerOver (IsAnswerAbout with_names question) pick bytes answer
IsAnswerTo with_names (of_votes votes method seats page) pick bytes answer =
    answer ≡ share_answer method seats page (naming with_names []) votes

-- the answer to a request and the bytes of an input
abbrev pub IsAnswer : Request → List ℕ → Answer → Type 0
IsAnswer asked bytes answer = IsAnswerTo asked.names asked.task asked.pick bytes answer
