-- Answers and what runs leave, computed on small examples.
use Rattle.std.proofs.Common.{◌≡◌, ℕ, zero, suc, ap, arith, ◌+◌, ◌^◌, List, [], ◌∷◌, ◌++◌, true, false, true≢false, sym, ◌∙◌, Some, None, Ok, Err, inl, inr, refl, lit≤, Bool}
use Rattle.std.specs.Prelude.{codes}
use Rattle.std.specs.List.{range_with_len}
use Rattle.std.proofs.lemmas.Bool.{both_ways}
use Rattle.std.specs.Fmt.{digits}
use Rattle.ballot_base.specs.Lists.{is_committee, lists_of}
use Rattle.ballot_base.specs.Ballots.{Election, Row, election}
use Rattle.ballot_base.specs.declared.increments.ThieleRule.TheVariants.{Av}
use Rattle.request_words.specs.declared.request.Rule.TheVariants.{Scored}
use Rattle.request_words.specs.declared.request.ScoredRule.TheVariants.{Thiele}
use Rattle.vote_cli.specs.declared.status.Status.{Status}
use Rattle.vote_cli.specs.declared.status.Status.TheVariants.{Answered, Violated, InputRefused, RequestRefused, NoMemory, DeviceFailed}
use Rattle.vote_cli.specs.declared.answers.Outcome.TheVariants as outcome
use Rattle.vote_cli.specs.declared.refusal.RequestFault.TheVariants as request_fault
use Rattle.vote_cli.specs.declared.refusal.Refusal.TheVariants as refusal
use Rattle.request_words.specs.Request.{Request, Task, IsPage, Page, electing, checking, of_ballots, of_votes, sharing, whole, InRange}
use Rattle.text_output.specs.Device.{ReaderState, WriterState}
use Rattle.vote_cli.specs.Laws.{IsCut, IsListed, IsPart, IsRest, IsSameRefusal, Listed, asked_for, elect_listed, front, is_listing, later_of, line_for, page_from, share_listed, text_after, with_page}
use Rattle.vote_cli.specs.Listing.{allocation_line, committee_line}
use Rattle.vote_cli.specs.Starts.{has_seats_for}
use Rattle.vote_cli.specs.Status.{code_of}
use Rattle.vote_cli.specs.Steps.Sharing.{IsShareRefusal, IsSharedOut}
use Rattle.ballot_base.specs.Increments.{increments}
use Rattle.text_output.specs.Text.{line}
use Rattle.seat_share.specs.declared.method.Method.TheVariants.{Dhondt}
use Rattle.seat_share.specs.Allocations.{lists_with_sum}
use Rattle.vote_cli.specs.Answer.{Answer, answered, violated, refused, request_refused, election_answer, IsCheckAnswer, may_be_checked, share_answer, share_answer_by, ballots_answer, IsAnswer}
use Rattle.vote_cli.specs.Runs.{Ends, FailsToRead, IsAllRead, IsRight, IsTooLong, LeavesRun, ReadsInput, ReadsSoundly, Reports, has_votes, input_for, memory_line, read_failed_line, write_failed_line}
use Rattle.text_output.specs.Steps.Printing.{Calls}
use Rattle.vote_cli.specs.Steps.Refusals.{IsRefusal, IsUnread, status_of, error_of, ReadsBallots, TellsOfReads, TellsOfWrites, ReadsOn, WritesRight, WritesText}
use Rattle.vote_cli.specs.Steps.RequestFaults.{request_fault_word}
use Rattle.ballot_base.specs.Lists.{IsIncreasing}
use Rattle.group_check.specs.declared.property.Property.TheVariants.{Jr}
use Rattle.group_check.specs.declared.property.Violation.{Violation}
use Rattle.group_check.specs.Groups.{Breaks, HasProperty}
use Rattle.group_check.specs.Report.{IsReport, first_violation}
use Rattle.group_check.proofs.BreakLemmas.{no_group, above_greatest}
use Rattle.seat_share.specs.declared.method.ShareFault.TheVariants.{NoParties, TooManyVotes}
use Rattle.vote_cli.specs.FaultText.{fault_text, place_text}
use Rattle.preflib_text.specs.declared.fault.FaultName.TheVariants as name
use Rattle.preflib_text.specs.declared.pick.Pick.{Pick}
use Rattle.preflib_text.specs.declared.pick.Way.TheVariants.{Usual}
use Rattle.preflib_text.specs.Lines.{pieces_of, without_return, trim_start}
use Rattle.preflib_text.specs.Reading.{Reads, at_end, at_line}
use Rattle.preflib_text.specs.Steps.Tokens.{ballot_of, order_at, tokens_after}
use Rattle.preflib_text.specs.Metadata.{words_of}
use Rattle.preflib_text.proofs.BallotLines.{ballot_of_reads}

-- two voters approve 1 and 2, and one approves 3
abbrev rows : List Row
rows = (1 ∷ 2 ∷ [], 2) ∷ (3 ∷ [], 1) ∷ []

abbrev three : Election
three = election 3 ([] ∷ [] ∷ [] ∷ []) rows

-- ---- answers
abbrev usual : Pick
usual = record { kind = None; ending = None; way = Usual }

abbrev asking : Task → Request
asking task = record { task = task; pick = usual; file = None; names = false }

-- so many seats by approval voting
abbrev seats : ℕ → Request
seats size = asking (of_ballots (electing (Scored (Thiele Av)) size whole))

-- the first answer alone
abbrev first_one : Page
first_one = record { after = None; limit = Some 1 }

abbrev text : List ℕ
text = line (codes "rule av") ++ line (codes "size 1") ++ line (codes "score 2/1") ++ line (codes "1") ++ line (codes "2") ++ line (codes "end")

answer_to_one : election_answer (Scored (Thiele Av)) 1 whole false three ≡ record { text = text; status = Answered; error = [] }
unfolding digits lists_of increments
answer_to_one = refl

answer_to_four : election_answer (Scored (Thiele Av)) 4 (record { after = Some (1 ∷ []); limit = None }) false three ≡ request_refused (codes "SizeTooLarge")
answer_to_four = refl

-- a start of one number is no committee of two
answer_to_misfit : election_answer (Scored (Thiele Av)) 2 (record { after = Some (1 ∷ []); limit = None }) false three ≡ request_refused (codes "AfterMisfit")
unfolding lists_of
answer_to_misfit = refl

-- a list that falls is no committee
answer_to_falling : IsCheckAnswer Jr (3 ∷ 1 ∷ []) true three (request_refused (codes "CommitteeMisfit"))
unfolding lists_of
answer_to_falling = inl (refl, refl)

-- 41 candidates are too many
too_many : may_be_checked 64 (range_with_len 1 41) ≡ false
too_many = refl

-- 1 and 3 stand for all voters
one_and_three : IsIncreasing 1 3 (1 ∷ 3 ∷ [])
one_and_three = (lit≤ tt, lit≤ tt, (lit≤ tt, lit≤ tt, tt))

nobody_breaks : first_violation Jr three (1 ∷ 3 ∷ []) 1 ≡ None
unfolding lists_of
nobody_breaks = refl

all_stand : HasProperty Jr three (1 ∷ 3 ∷ [])
all_stand zero least most some = omega (arith, least)
all_stand (suc zero) least most some = no_group Jr three (1 ∷ 3 ∷ []) 1 one_and_three (lit≤ tt) (lit≤ tt) nobody_breaks some
all_stand (suc (suc level)) least most some = above_greatest Jr three (1 ∷ 3 ∷ []) (suc (suc level)) most (omega arith) some

answer_to_holds : IsCheckAnswer Jr (1 ∷ 3 ∷ []) true three (answered (line (codes "holds")))
unfolding lists_of
answer_to_holds = inr (inl (refl, all_stand, refl))

-- three voters approve 1 and 2, and one approves 3 and 4: the committee of 3 and 4 leaves three of four with nobody
divided : Election
divided = election 4 ([] ∷ [] ∷ [] ∷ [] ∷ []) ((1 ∷ 2 ∷ [], 3) ∷ (3 ∷ 4 ∷ [], 1) ∷ [])

abbrev shown : Violation
shown = record { property = Jr; committee = 3 ∷ 4 ∷ []; level = 1; shared = 1 ∷ []; within = []; voters = 3 }

its_group_breaks : Breaks Jr divided (3 ∷ 4 ∷ []) 1 (3 ∷ 0 ∷ [])
unfolding divided
its_group_breaks = refl

report : IsReport Jr divided (3 ∷ 4 ∷ []) shown
unfolding divided lists_of
report = record { low = lit≤ tt; high = lit≤ tt; breaks = its_group_breaks; least = λ level from to some. omega (arith, from, to); first = refl }

answer_to_violated : IsCheckAnswer Jr (3 ∷ 4 ∷ []) false divided (violated
    (line (codes "violated jr") ++ line (codes "level 1") ++ line (codes "candidates 1") ++ line (codes "voters 3 of 4") ++ line (codes "3: 1,2")))
unfolding divided digits lists_of
answer_to_violated = inr (inr (refl, (shown, report, refl)))

-- seats by votes, and by ballots: the ballot for 1 and 2 is for no one party
answer_to_votes : share_answer Dhondt 2 whole None (3 ∷ 1 ∷ []) ≡ answered (line (codes "method dhondt") ++ line (codes "seats 2") ++ line (codes "2,0") ++ line (codes "end"))
unfolding digits lists_with_sum
answer_to_votes = refl

answer_to_no_votes : share_answer Dhondt 2 (record { after = Some (1 ∷ []); limit = None }) None (0 ∷ 0 ∷ []) ≡ request_refused (codes "NoVotes")
answer_to_no_votes = refl

-- a start has a number for each party, of at most the most seats
answers_to_misfits : (share_answer Dhondt 7 (record { after = Some (4 ∷ 2 ∷ []); limit = None }) None (53 ∷ 24 ∷ 23 ∷ []) ≡ request_refused (codes "AfterMisfit"))
    × (share_answer Dhondt 7 (record { after = Some (10001 ∷ 0 ∷ 0 ∷ []); limit = None }) None (53 ∷ 24 ∷ 23 ∷ []) ≡ request_refused (codes "AfterMisfit"))
answers_to_misfits = (refl, refl)

answer_to_many : ballots_answer Dhondt 2 whole false three ≡ request_refused (codes "ManyApproved")
answer_to_many = refl

fault_answers : (share_answer_by (Some TooManyVotes) false [] ≡ request_refused (codes "TooManyVotes")) × (share_answer_by None false [] ≡ request_refused (codes "AfterMisfit")) × (share_answer_by None true (codes "a") ≡ answered (codes "a"))
fault_answers = (refl, refl, refl)

words_of_request_faults : (request_fault_word request_fault.ManyApproved ≡ codes "ManyApproved") × (request_fault_word request_fault.AfterMisfit ≡ codes "AfterMisfit") × (request_fault_word (request_fault.Share NoParties) ≡ codes "NoParties")
words_of_request_faults = (refl, refl, refl)

-- what is known before allocations are written
sharing_out : (IsSharedOut Dhondt 1 (Some (0 ∷ 1 ∷ [])) (1 ∷ 1 ∷ []) ((1 ∷ 0 ∷ []) ∷ [])) × (IsShareRefusal 1 true (0 ∷ []) (codes "NoVotes")) × (IsShareRefusal 1 false (1 ∷ []) (codes "AfterMisfit"))
unfolding lists_with_sum
sharing_out = ((refl, refl), (λ text. refl), (λ text. refl))

-- ---- pages
other_pages : (is_listing (of_ballots (checking Jr (1 ∷ []))) ≡ false) × (is_listing (of_ballots (electing (Scored (Thiele Av)) 1 whole)) ≡ true)
    × (with_page first_one (of_votes (1 ∷ []) Dhondt 2 whole) ≡ of_votes (1 ∷ []) Dhondt 2 first_one) × (asked_for first_one (seats 1) ≡ asking (of_ballots (electing (Scored (Thiele Av)) 1 first_one)))
other_pages = (refl, refl, refl, refl)

same_refusals : IsSameRefusal (request_refused (codes "SizeTooLarge")) (request_refused (codes "SizeTooLarge"))
same_refusals = (refl, refl)

votes_in_words : (has_votes (of_votes (1 ∷ []) Dhondt 2 whole) ≡ true) × (has_votes (of_ballots (sharing Dhondt 2 whole)) ≡ false)
votes_in_words = (refl, refl)

in_range : InRange (of_ballots (electing (Scored (Thiele Av)) 40 whole)) × InRange (of_ballots (checking Jr (9 ∷ []))) × InRange (of_ballots (sharing Dhondt 10000 whole))
in_range =
    let all : IsPage whole = record { after = tt; least = tt; most = tt } in
    ((lit≤ tt, lit≤ tt, all), (λ none. let h : 9 ∷ [] ≡ [] = none in cc), (lit≤ tt, lit≤ tt, all))

no_refusal : answered (codes "a") ≡ record { text = codes "a"; status = Answered; error = [] }
no_refusal = refl

a_refusal : refused InputRefused (codes "a") ≡ record { text = []; status = InputRefused; error = line (codes "a") }
a_refusal = refl

-- what is said of a fault of a line, and of one of the end
fault_texts : (fault_text (at_line 20 name.BadBallot) ≡ codes "committees: input line 20: BadBallot") × (fault_text (at_end name.NoVoters) ≡ codes "committees: input: NoVoters")
unfolding digits
fault_texts = (refl, refl)

fault_parts : (place_text (Some 7) ≡ codes " line 7: ") × (place_text None ≡ codes ": ")
unfolding digits
fault_parts = (refl, refl)

-- the bytes of a file, and no bytes
abbrev example_text : List ℕ
example_text = line (codes "# DATA TYPE: cat") ++ line (codes "# NUMBER ALTERNATIVES: 3") ++ line (codes "# NUMBER CATEGORIES: 2") ++ line (codes "2: {1,2},3") ++ line (codes "1: 3,{1,2}")

pub reads_three : Reads example_text usual (Ok three)
unfolding pieces_of without_return trim_start words_of tokens_after order_at
reads_three = (ballot_of, ballot_of_reads, refl)

pub reads_nothing : Reads [] usual (Err (at_end name.NoAlternatives))
unfolding pieces_of
reads_nothing = (ballot_of, ballot_of_reads, refl)

right_answer : IsAnswer (seats 4) example_text (request_refused (codes "SizeTooLarge"))
right_answer = (Ok three, reads_three, refl)

-- with votes in the words the bytes do not matter
right_share : IsAnswer (asking (of_votes (0 ∷ 0 ∷ []) Dhondt 2 whole)) example_text (request_refused (codes "NoVotes"))
right_share = refl

-- ---- what is listed
-- one seat of three candidates, and one seat of two parties
abbrev one_seat : Listed
one_seat = record {
  header = line (codes "rule av") ++ line (codes "size 1") ++ line (codes "score 2/1");
  answers = (1 ∷ []) ∷ (2 ∷ []) ∷ [];
  line_of = committee_line None;
  may_follow = is_committee 3 1;
}

seat_of_parties : Listed
seat_of_parties = record {
  header = line (codes "method dhondt") ++ line (codes "seats 1");
  answers = (0 ∷ 1 ∷ []) ∷ (1 ∷ 0 ∷ []) ∷ [];
  line_of = allocation_line None;
  may_follow = has_seats_for 2;
}

listed : (elect_listed false (Scored (Thiele Av)) 1 three ≡ one_seat) × (share_listed None Dhondt 1 (1 ∷ 1 ∷ []) ≡ seat_of_parties)
unfolding digits lists_of increments lists_with_sum seat_of_parties
listed = (refl, refl)

listed_of_bytes : IsListed (seats 1) example_text (elect_listed false (Scored (Thiele Av)) 1 three)
listed_of_bytes = (three, reads_three, refl)

listed_of_votes : IsListed (asking (of_votes (1 ∷ 1 ∷ []) Dhondt 1 whole)) [] (share_listed None Dhondt 1 (1 ∷ 1 ∷ []))
listed_of_votes = refl

a_front : (front one_seat one_seat.answers 1 ≡ one_seat.header ++ line (codes "1")) × (line_for [] ≡ line (codes "end")) × (line_for one_seat.answers ≡ line (codes "more"))
unfolding digits
a_front = (refl, refl, refl)

abbrev two_answers : List ℕ → Answer
two_answers rest = answered (one_seat.header ++ line (codes "1") ++ rest)

a_cut : IsCut one_seat one_seat.answers 1 (two_answers (line (codes "2") ++ line (codes "end"))) (two_answers (line (codes "more")))
unfolding digits
a_cut = record { all_is = refl; cut_is = refl }

-- after 1 comes 2, and after no committee nothing
abbrev after_one : Page
after_one = record { after = Some (1 ∷ []); limit = None }

a_part : IsPart one_seat after_one (two_answers (line (codes "2") ++ line (codes "end"))) (answered (one_seat.header ++ line (codes "2") ++ line (codes "end")))
unfolding digits lists_of
a_part = record { all_is = refl; part_is = refl }

no_part : IsPart one_seat (record { after = Some (1 ∷ 2 ∷ []); limit = None }) (two_answers (line (codes "2") ++ line (codes "end"))) (request_refused (codes "AfterMisfit"))
unfolding digits lists_of
no_part = record { all_is = refl; part_is = refl }

-- what follows the first answer
rest_pages : (page_from (record { after = None; limit = Some 3 }) 1 (1 ∷ []) ≡ record { after = Some (1 ∷ []); limit = Some 2 }) × (page_from whole 1 (1 ∷ []) ≡ after_one)
rest_pages = (refl, refl)

rest_parts : (later_of one_seat after_one ≡ (2 ∷ []) ∷ []) × (text_after one_seat whole 1 ≡ line (codes "2") ++ line (codes "end")) × (text_after one_seat first_one 0 ≡ line (codes "1") ++ line (codes "more"))
unfolding digits
rest_parts = (refl, refl, refl)

a_rest : IsRest one_seat whole 1 (two_answers (line (codes "2") ++ line (codes "end"))) (answered (one_seat.header ++ line (codes "2") ++ line (codes "end")))
unfolding digits
a_rest = record { all_is = refl; rest_is = refl }

lines : (memory_line ≡ codes "committees: memory" ++ 10 ∷ []) × (read_failed_line ≡ codes "committees: read failed" ++ 10 ∷ [])
    × (write_failed_line ≡ codes "committees: write failed" ++ 10 ∷ [])
lines = (refl, refl, refl)

-- ---- devices
-- a reader of these bytes that was not read yet, and one that gave five bytes and has failed, or not
abbrev read_of : List ℕ → Bool → ℕ → ReaderState
read_of bytes has_failed given = record { remaining = Some bytes; has_failed = has_failed; given = given }

abbrev silent : Bool → ℕ → ReaderState
silent has_failed given = record { remaining = None; has_failed = has_failed; given = given }

abbrev unread : ReaderState
unread = silent false 0

abbrev broken : ReaderState
broken = silent true 5

abbrev sound : ReaderState
sound = silent false 5

-- a writer that was not flushed, and one that was flushed once
abbrev wrote : List ℕ → Bool → WriterState
wrote bytes has_failed = record { contents = Some bytes; has_failed = has_failed; flushes = 0 }

abbrev flushed : List ℕ → WriterState
flushed bytes = record { contents = Some bytes; has_failed = false; flushes = 1 }

sound_reads : ReadsSoundly unread sound
sound_reads = record { unfailed = refl; few = omega arith }

-- 2^64 bytes are too many for a sound run
long_reads : ReadsSoundly unread (silent false (2 ^ 64)) → ⊥
long_reads reads = omega (arith, reads.few)

failed_input : (ReadsOn {T = ℕ} unread broken (Err refusal.ReadFailed)) × (ReadsOn {T = ℕ} unread sound (Err refusal.Memory)) × (ReadsOn {T = ℕ} unread sound (Ok 1)) × IsUnread refusal.Memory
failed_input = (inl refl, sound_reads, (sound_reads, tt), tt)

-- a whole line, and a beginning of one
reported : Reports (wrote [] false) (wrote (line (codes "a")) false) (line (codes "a"))
reported = record { beginning = (line (codes "a"), [], refl, refl); whole = λ unfailed. refl }

reported_in_part : Reports (wrote [] false) (wrote (codes "a") true) (line (codes "a"))
reported_in_part = record { beginning = (codes "a", 10 ∷ [], refl, refl); whole = λ unfailed. absurd (both_ways true unfailed refl) }

-- ---- statuses
status_codes : (code_of Answered ≡ 0) × (code_of Violated ≡ 1) × (code_of InputRefused ≡ 3) × (code_of RequestRefused ≡ 4) × (code_of NoMemory ≡ 5) × (code_of DeviceFailed ≡ 6)
status_codes = (refl, refl, refl, refl, refl, refl)

refusals : (status_of (refusal.Input (at_end name.NoAlternatives)) ≡ InputRefused) × (status_of refusal.WriteFailed ≡ DeviceFailed) × (error_of (refusal.Request request_fault.ManyApproved) ≡ line (codes "committees: request: ManyApproved"))
refusals = (refl, refl, refl)

refusals_of_faults : (IsRefusal (at_line 4 name.BadCount) (refusal.Input (at_line 4 name.BadCount))) × (IsRefusal (at_line 4 name.Memory) refusal.Memory)
refusals_of_faults = ((refl, λ same. let h : name.BadCount ≡ name.Memory = same in cc), refl)

-- ---- what a run leaves
right_of_one : IsAnswer (seats 1) example_text (answered text)
unfolding digits lists_of increments
right_of_one = (Ok three, reads_three, refl)

-- the whole input was read
input_read : ReadsInput (read_of example_text false 0) (read_of [] false 90) (of_ballots (electing (Scored (Thiele Av)) 1 whole))
input_read = record { sound = record { unfailed = refl; few = omega arith }; whole = λ free. refl }

-- nothing on the errors
abbrev quiet : WriterState
quiet = wrote [] false

nothing_reported : Reports quiet quiet []
nothing_reported = record { beginning = ([], [], refl, refl); whole = λ unfailed. refl }

-- the answer was written
ends_answered : Ends (seats 1) (read_of example_text false 0) (read_of [] false 90) quiet (flushed text) quiet quiet Answered
ends_answered = record { answer = answered text; right = right_of_one; status_is = refl; input = input_read; wrote = refl; flushed = refl; text = refl; error = nothing_reported }

ends_refused : Ends (seats 1) (read_of [] false 0) (read_of [] false 0) quiet quiet quiet (wrote (line (codes "committees: input: NoAlternatives")) false) InputRefused
ends_refused = record {
  answer = refused InputRefused (codes "committees: input: NoAlternatives");
  right = (Err (at_end name.NoAlternatives), reads_nothing, refl);
  status_is = refl;
  input = record { sound = record { unfailed = refl; few = omega arith }; whole = λ free. refl };
  wrote = refl;
  flushed = refl;
  text = refl;
  error = record { beginning = (line (codes "committees: input: NoAlternatives"), [], refl, refl); whole = λ unfailed. refl };
}

ends_without_memory : Ends (seats 1) unread sound quiet quiet quiet (wrote memory_line false) NoMemory
ends_without_memory = record { over_input = refl; read = sound_reads; unfailed = refl; unflushed = refl; text = refl; error = record { beginning = (memory_line, [], refl, refl); whole = λ unfailed. refl } }

-- a read failed, and the line on it was not taken whole
ends_unread : Ends (seats 1) unread broken quiet quiet quiet (wrote (codes "committees") true) DeviceFailed
ends_unread = inl (record {
  over_input = refl;
  unread = inl refl;
  unfailed = refl;
  unflushed = refl;
  text = refl;
  error = record { beginning = (codes "committees", codes ": read failed" ++ 10 ∷ [], refl, refl); whole = λ unfailed. absurd (both_ways true unfailed refl) };
})

-- a write failed after the first line
ends_in_part : Ends (seats 1) (read_of example_text false 0) (read_of [] false 90) quiet (wrote (line (codes "rule av")) true) quiet (wrote write_failed_line false) DeviceFailed
ends_in_part = inr (record {
  answer = answered text;
  right = right_of_one;
  input = input_read;
  failed = refl;
  text = (line (codes "rule av"), line (codes "size 1") ++ line (codes "score 2/1") ++ line (codes "1") ++ line (codes "2") ++ line (codes "end"), refl, refl);
  error = record { beginning = (write_failed_line, [], refl, refl); whole = λ unfailed. refl };
})

-- with votes in the words no run ends without memory, nor does one blame a reader that had failed before
abbrev of_two : Request
of_two = asking (of_votes (1 ∷ []) Dhondt 2 whole)

never_without_memory : Ends of_two broken broken quiet quiet quiet (wrote memory_line false) NoMemory → ⊥
never_without_memory ends = absurd (true≢false ends.over_input)

never_unread : Ends of_two broken broken quiet quiet quiet (wrote read_failed_line false) DeviceFailed → ⊥
never_unread (inl ends) = absurd (true≢false ends.over_input)
never_unread (inr ends) = absurd (true≢false (sym ends.failed))

-- a whole run, whose devices are their own states
abbrev Leaves : Request → (read_old read_new : ReaderState) (out_old out_new err_old err_new : WriterState) → Status → Type 0
Leaves = LeavesRun (λ reader. reader) (λ out. out) (λ err. err)

leaves_answered : Leaves (seats 1) (read_of example_text false 0) (read_of [] false 90) quiet (flushed text) quiet quiet Answered
leaves_answered = record { ends = ends_answered; alone = λ votes. absurd (true≢false (sym votes)) }

-- two seats for the one party
abbrev text_of_two : List ℕ
text_of_two = line (codes "method dhondt") ++ line (codes "seats 2") ++ line (codes "2") ++ line (codes "end")

answer_of_two : share_answer Dhondt 2 whole None (1 ∷ []) ≡ answered text_of_two
unfolding digits lists_with_sum
answer_of_two = refl

-- with votes in the words, a reader that had failed is left as it was
leaves_with_votes : Leaves of_two broken broken quiet (flushed text_of_two) quiet quiet Answered
leaves_with_votes = record {
  ends = record {
    answer = answered text_of_two;
    right = sym answer_of_two;
    status_is = refl;
    input = record { sound = record { unfailed = refl; few = omega arith }; whole = λ free. absurd (true≢false free) };
    wrote = refl;
    flushed = refl;
    text = refl;
    error = nothing_reported;
  };
  alone = λ votes. refl;
}

-- a run that wrote nothing has not answered, and none with votes in the words reads
never_silent : Leaves of_two broken broken quiet quiet quiet quiet Answered → ⊥
never_silent run =
    let right : run.ends.answer ≡ share_answer Dhondt 2 whole None (1 ∷ []) = run.ends.right in
    let none : [] ≡ run.ends.answer.text = run.ends.text in
    let text_is : run.ends.answer.text ≡ text_of_two = ap (λ (answer : Answer). answer.text) (right ∙ answer_of_two) in
    let h : [] ≡ text_of_two = none ∙ text_is in cc

never_read : Leaves of_two unread sound quiet (flushed text_of_two) quiet quiet Answered → ⊥
never_read run =
    let same : sound ≡ unread = run.alone refl in
    let given : 5 ≡ 0 = ap (λ (reader : ReaderState). reader.given) same in omega (arith, given)

input_of_demands : (input_for (of_votes (1 ∷ []) Dhondt 2 whole) None ≡ Some []) × (input_for (of_ballots (sharing Dhondt 2 whole)) (Some (1 ∷ [])) ≡ Some (1 ∷ []))
input_of_demands = (refl, refl)

all_read : (IsAllRead (read_of (1 ∷ []) false 0) (read_of [] false 1)) × (ReadsOn {T = ℕ} (read_of (1 ∷ []) false 0) (read_of [] false 1) (Err refusal.WriteFailed))
all_read = (refl, (record { unfailed = refl; few = omega arith }, refl))

-- calls on a writer: none, a failed one, and a flush
abbrev no_calls : Calls
no_calls = record { has_failed = false; flushes = 0 }

abbrev failed_call : Calls
failed_call = record { has_failed = true; flushes = 0 }

abbrev one_flush : Calls
one_flush = record { has_failed = false; flushes = 1 }

refusals_told : (TellsOfReads {T = ℕ} (of_ballots (checking Jr [])) unread broken (Err refusal.ReadFailed)) × (TellsOfReads {T = ℕ} (of_ballots (checking Jr [])) unread sound (Err refusal.Memory)) × (TellsOfWrites {T = ℕ} no_calls failed_call (Err refusal.WriteFailed)) × (TellsOfWrites {T = ℕ} no_calls one_flush (Ok 1))
refusals_told = ((refl, inl refl), (refl, sound_reads), refl, refl)

-- three bytes are not too many, nor are five that a reader gave that does not tell them; 2^64 are, and those before do
-- not count
few_bytes : IsTooLong (1 ∷ 2 ∷ 3 ∷ []) → ⊥
few_bytes long = omega (arith, long)

few_given : FailsToRead unread sound → ⊥
few_given (inl failed) = absurd (true≢false (sym failed))
few_given (inr long) = omega (arith, long.1)

many_given : (FailsToRead sound (silent false (5 + 2 ^ 64))) × (FailsToRead sound (silent false (4 + 2 ^ 64)) → ⊥)
many_given = (inr (refl, omega arith, tt), none)
  where
    none : FailsToRead sound (silent false (4 + 2 ^ 64)) → ⊥
    none (inl failed) = absurd (true≢false (sym failed))
    none (inr long) = omega (arith, long.1)

prepared : (ReadsBallots usual example_text (Ok three)) × (ReadsBallots usual [] (Err (refusal.Input (at_end name.NoAlternatives)))) × (ReadsBallots usual [] (Err refusal.Memory))
prepared = (reads_three, reads_nothing, tt)

concluded : WritesRight (IsRight (seats 4) (read_of example_text false 0)) (Some []) (Some []) (Err (refusal.Request request_fault.SizeTooLarge))
concluded = (right_answer, refl)

concluded_whole : WritesText (λ (w : WriterState). w.contents) (λ w. record { has_failed = w.has_failed; flushes = w.flushes }) quiet (flushed (codes "a")) (Ok outcome.Answered) (codes "a")
concluded_whole = record { answer = (codes "a", refl, refl); writes = refl; unread = λ e. cc }
