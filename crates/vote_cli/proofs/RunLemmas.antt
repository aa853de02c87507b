-- What is known of the input and of the writers, joined to the answer.
use Rattle.std.proofs.Common.{arith, length, ◌≤◌, ◌≡◌, inl, inr, ℕ, Bool, true, false, List, [], Option, Some, None, Ok, Err, IfSome, Result, is_ok, refl, sym, ap, ap₂, subst, ◌∙◌, ◌++◌, append-nil, true≢false}
use Rattle.std.specs.Prelude.{◌||◌, IsErr, IsErrAnd, codes, if◌then◌else◌}
use Rattle.std.specs.Io.KnownBytes.{Appends, Consumes, IsAtEnd}
use Rattle.std.proofs.KnownBytes.{Appends-nil}
use Rattle.std.proofs.lemmas.List.{length-append}
use Rattle.ballot_base.specs.Ballots.{Election}
use Rattle.ballot_base.specs.Limits.{most_members}
use Rattle.ballot_base.specs.Lists.{IsIncreasing}
use Rattle.group_check.specs.Groups.{HasProperty}
use Rattle.group_check.specs.Report.{IsReport}
use Rattle.group_check.specs.declared.property.Property.{Property}
use Rattle.group_check.specs.declared.property.Violation.{Violation}
use Rattle.seat_share.specs.declared.method.Method.{Method}
use Rattle.vote_cli.specs.Parties.{has_many_approved, party_votes}
use Rattle.text_output.specs.CheckText.{holds_text, violation_text}
use Rattle.preflib_text.specs.Limits.{word_limit}
use Rattle.preflib_text.specs.declared.pick.Pick.{Pick}
use Rattle.text_output.specs.declared.printing.WriteFailed.{WriteFailed as Broken}
use Rattle.vote_cli.specs.declared.answers.Outcome.{Outcome}
use Rattle.vote_cli.specs.declared.answers.Outcome.TheVariants as outcome
use Rattle.vote_cli.specs.declared.refusal.Refusal.{Refusal}
use Rattle.vote_cli.specs.declared.refusal.Refusal.TheVariants as reason
use Rattle.vote_cli.specs.declared.refusal.Refusal.TheVariants.{Input, Memory, ReadFailed, WriteFailed}
use Rattle.vote_cli.specs.declared.status.Status.{Status}
use Rattle.vote_cli.specs.declared.status.Status.TheVariants as status
use Rattle.request_words.specs.Request.{Request, Page, Question, of_ballots}
use Rattle.vote_cli.specs.FaultText.{fault_text}
use Rattle.text_output.specs.Device.{ReaderState, WriterState}
use Rattle.text_output.specs.Names.{Names, naming}
use Rattle.vote_cli.specs.Steps.RequestFaults.{request_fault_word}
use Rattle.vote_cli.specs.Answer.{Answer, IsAnswer, IsAnswerAbout, IsAnswerOver, IsAnswerTo, IsCheckAnswer, ballots_answer, may_be_checked, share_answer, answered, request_refused, refused, violated}
use Rattle.vote_cli.specs.Runs.{Ends, EndsAnswered, IsRight, IsTooLong, ReadsInput, ReadsSoundly, Reports, flushes_for, input_for}
use Rattle.text_output.specs.Steps.Printing.{Calls, Passes, Sends, SendsAll, flushed_once}
use Rattle.text_output.proofs.PrintingLemmas.{Passes-broken, Passes-cut, Passes-flushed, Passes-then, alone}
use Rattle.vote_cli.proofs.StartLemmas.{may_be_checked-true}
use Rattle.vote_cli.specs.Steps.Refusals.{WritesRight, Writes, ReadsBallots, ReadsOn, TellsOfReads, TellsOfWrites, error_of, status_of}

-- a writer of errors that was not called
Reports-nothing : (err : WriterState) → Reports err err []
Reports-nothing err = record { beginning = ([], [], refl, Appends-nil err.contents); whole = λ e. Appends-nil err.contents }

-- a text that was printed with nothing left waiting
Passes-all : {old new : Option (List ℕ)} {called calls : Calls} {text : List ℕ} → Passes (alone old called) (alone new calls) true text → Appends old new text
Passes-all {old} {new} h = subst (Appends old new) (sym (append-nil h.sent) ∙ ap (λ rest. h.sent ++ rest) (sym (h.whole refl).0) ∙ h.order) h.took

module _ {W : Type 0} {contents : W → Option (List ℕ)} {calls : W → Calls} (IsRight : Answer → Type 0) {old new : W} where
  -- the text of a right answer was not printed whole
  pub writes_part : (answer : Answer) (result : Result Outcome Refusal) {ok : Bool} → IsRight answer
      → IsErr result × IsErrAnd result (λ refusal. refusal ≡ WriteFailed) → ok ≡ false → SendsAll contents calls old new ok answer.text
      → Writes contents calls old new result IsRight
  writes_part answer (Ok ended) right failed broke prints = absurd (true≢false (sym failed.0))
  writes_part answer (Err refusal) right failed broke prints =
      subst (λ r. Writes contents calls old new (Err r) IsRight) (sym failed.1)
      (record { answer = (answer, right, (prints.sent, prints.rest, prints.order, prints.took)); writes = prints.broken broke; unread = λ e. cc })

  -- the text of a right answer was printed whole
  pub writes_answered : (text : List ℕ) (printed : Result (Unit {0}) Broken) (done : Unit {0}) → IsRight (answered text) → printed ≡ Ok done
      → SendsAll contents calls old new (is_ok printed) text → Writes contents calls old new (Ok outcome.Answered) IsRight
  writes_answered text printed done right was prints =
      let whole : SendsAll contents calls old new true text = subst (λ p. SendsAll contents calls old new (is_ok p) text) was prints in
      record { answer = (text, right, Passes-all whole); writes = (whole.whole refl).1; unread = λ e. cc }

  pub writes_violated : (text : List ℕ) (printed : Result (Unit {0}) Broken) (done : Unit {0}) → IsRight (violated text) → printed ≡ Ok done
      → SendsAll contents calls old new (is_ok printed) text → Writes contents calls old new (Ok outcome.Violated) IsRight
  writes_violated text printed done right was prints =
      let whole : SendsAll contents calls old new true text = subst (λ p. SendsAll contents calls old new (is_ok p) text) was prints in
      record { answer = (text, right, Passes-all whole); writes = (whole.whole refl).1; unread = λ e. cc }

-- an answer that is written in two parts
module _ {W T : Type 0} {contents : W → Option (List ℕ)} {calls : W → Calls} {old new : W} where
  -- the first part was not written whole
  pub writes_first : {one whole : List ℕ} (other : List ℕ) (first : Result T Broken) (e : Broken) (result : Result Outcome Refusal) → first ≡ Err e
      → IsErr result × IsErrAnd result (λ refusal. refusal ≡ WriteFailed) → whole ≡ one ++ other → Sends contents calls old new (is_ok first) one
      → Writes contents calls old new result (λ answer. answer ≡ answered whole)
  writes_first {one} {whole} other first e result was failed parts sent =
      let broken : Sends contents calls old new false one = subst (λ r. Sends contents calls old new (is_ok r) one) was sent in
      writes_part (λ answer. answer ≡ answered whole) (answered whole) result refl failed refl
      (subst (SendsAll contents calls old new false) (sym parts) (Passes-cut (Passes-broken other broken)))

  -- the first part was, and the second was not
  pub writes_second : (mid : W) {one other whole : List ℕ} (first : Result T Broken) (done : T) (second : Result (Unit {0}) Broken) (e : Broken) (result : Result Outcome Refusal)
      → first ≡ Ok done → second ≡ Err e → IsErr result × IsErrAnd result (λ refusal. refusal ≡ WriteFailed) → whole ≡ one ++ other
      → Sends contents calls old mid (is_ok first) one → SendsAll contents calls mid new (is_ok second) other
      → Writes contents calls old new result (λ answer. answer ≡ answered whole)
  writes_second mid {one} {other} {whole} first done second e result was broke failed parts sent cut =
      let begun : Sends contents calls old mid true one = subst (λ r. Sends contents calls old mid (is_ok r) one) was sent in
      let broken : SendsAll contents calls mid new false other = subst (λ r. SendsAll contents calls mid new (is_ok r) other) broke cut in
      writes_part (λ answer. answer ≡ answered whole) (answered whole) result refl failed refl
      (subst (SendsAll contents calls old new false) (sym parts) (Passes-then (Passes-flushed begun) broken))

  -- both parts were
  pub writes_both : (mid : W) {one other whole : List ℕ} (first : Result T Broken) (second : Result (Unit {0}) Broken) (done : T) (ended : Unit {0})
      → first ≡ Ok done → second ≡ Ok ended → whole ≡ one ++ other
      → Sends contents calls old mid (is_ok first) one → SendsAll contents calls mid new (is_ok second) other
      → Writes contents calls old new (Ok outcome.Answered) (λ answer. answer ≡ answered whole)
  writes_both mid {one} {other} {whole} first second done ended was ends parts sent more =
      let begun : Sends contents calls old mid true one = subst (λ r. Sends contents calls old mid (is_ok r) one) was sent in
      writes_answered (λ answer. answer ≡ answered whole) whole second ended refl ends
      (subst (SendsAll contents calls old new (is_ok second)) (sym parts) (Passes-then (Passes-flushed begun) more))

-- the same right answer in other words
pub writes_as : {W : Type 0} {contents : W → Option (List ℕ)} {calls : W → Calls} {old new : W} {result : Result Outcome Refusal} {one other : Answer} → one ≡ other
    → Writes contents calls old new result (λ answer. answer ≡ one) → Writes contents calls old new result (λ answer. answer ≡ other)
writes_as {contents = contents} {calls = calls} {old = old} {new = new} {result = result} same h =
    subst (λ it. Writes contents calls old new result (λ answer. answer ≡ it)) same h

-- the answers about a committee that is the list's, among m candidates
pub check_holds : (property : Property) (with_names : Bool) (e : Election) (m : ℕ) (list committee : List ℕ) → m ≡ e.m → committee ≡ list → IsIncreasing 1 m list → length list ≤ most_members
    → HasProperty property e committee → IsCheckAnswer property list with_names e (answered holds_text)
check_holds property with_names e m list committee all same rises few holds =
    inr (inl (subst (λ n. may_be_checked n list ≡ true) all (may_be_checked-true m list rises few), subst (HasProperty property e) same holds, refl))

pub check_violated : (property : Property) (with_names : Bool) (e : Election) (m : ℕ) (list committee : List ℕ) (report : Violation) (names : Names) → names ≡ naming with_names e.names → m ≡ e.m → committee ≡ list → IsIncreasing 1 m list → length list ≤ most_members
    → IsReport property e committee report → IsCheckAnswer property list with_names e (violated (violation_text names report e))
check_violated property with_names e m list committee report names called all same rises few reports =
    inr (inr (subst (λ n. may_be_checked n list ≡ true) all (may_be_checked-true m list rises few), (report, subst (λ c. IsReport property e c report) same reports, ap (λ n. violated (violation_text n report e)) called)))

-- what is right under one test is right under a wider one
writes_wider : (P Q : Answer → Type 0) (old new : Option (List ℕ)) (result : Result Outcome Refusal)
    → ((answer : Answer) → P answer → Q answer) → WritesRight P old new result → WritesRight Q old new result
writes_wider P Q old new (Ok outcome.Answered) wider h = (h.0, wider (answered h.0) h.1, h.2)
writes_wider P Q old new (Ok outcome.Violated) wider h = (h.0, wider (violated h.0) h.1, h.2)
writes_wider P Q old new (Err (Input fault)) wider h = (wider (refused status.InputRefused (fault_text fault)) h.0, h.1)
writes_wider P Q old new (Err (reason.Request fault)) wider h = (wider (request_refused (request_fault_word fault)) h.0, h.1)
writes_wider P Q old new (Err Memory) wider h = h
writes_wider P Q old new (Err ReadFailed) wider h = h
writes_wider P Q old new (Err WriteFailed) wider h = (h.0, wider h.0 h.1, h.2)

-- the answer about the votes of ballots that approve one candidate at most
pub ballots_share : (method : Method) (seats : ℕ) (page : Page) (with_names : Bool) (e : Election) (names : Names) (votes : List ℕ)
    → has_many_approved e ≡ false → names ≡ naming with_names e.names → votes ≡ party_votes e → share_answer method seats page names votes ≡ ballots_answer method seats page with_names e
ballots_share method seats page with_names e names votes single called same =
    ap₂ (share_answer method seats page) called same
    ∙ ap (λ b. if b then request_refused (codes "ManyApproved") else share_answer method seats page (naming with_names e.names) (party_votes e)) (sym single)

-- ---- what is right of the ballots that were read

module _ (asked : Request) (question : Question) (demanded : of_ballots question ≡ asked.task) (pick : Pick) (picked : pick ≡ asked.pick)
    (with_names : Bool) (named : with_names ≡ asked.names) (reader : ReaderState) where
  is_answer : (bytes : List ℕ) (answer : Answer) → IsAnswerOver (IsAnswerAbout with_names question) pick bytes answer → IsAnswer asked bytes answer
  is_answer bytes answer h = subst (λ d. IsAnswerTo asked.names d asked.pick bytes answer) demanded
      (subst (λ n. IsAnswerTo n (of_ballots question) asked.pick bytes answer) named
      (subst (λ p. IsAnswerTo with_names (of_ballots question) p bytes answer) picked h))

  -- the bytes of the input are what the answer is about
  is_right : (answer : Answer) → IfSome reader.remaining (λ bytes. IsAnswerOver (IsAnswerAbout with_names question) pick bytes answer) → IsRight asked reader answer
  is_right answer h = subst (λ d. IfSome (input_for d reader.remaining) (λ bytes. IsAnswer asked bytes answer)) demanded (go reader.remaining h)
    where
      go : (known : Option (List ℕ)) → IfSome known (λ bytes. IsAnswerOver (IsAnswerAbout with_names question) pick bytes answer) → IfSome known (λ bytes. IsAnswer asked bytes answer)
      go None h = tt
      go (Some bytes) h = is_answer bytes answer h

  module _ (old new : Option (List ℕ)) (read : Result Election Refusal) (result : Result Outcome Refusal) (reads : IfSome reader.remaining (λ bytes. ReadsBallots pick bytes read)) where
    -- an answer that is right of the election that was read
    pub writes_over : (e : Election) → read ≡ Ok e → WritesRight (IsAnswerAbout with_names question e) old new result → WritesRight (IsRight asked reader) old new result
    writes_over e was h =
        writes_wider (IsAnswerAbout with_names question e) (IsRight asked reader) old new result
        (λ answer it. is_right answer (go answer it reader.remaining (subst (λ r. IfSome reader.remaining (λ bytes. ReadsBallots pick bytes r)) was reads))) h
      where
        go : (answer : Answer) → IsAnswerAbout with_names question e answer → (known : Option (List ℕ)) → IfSome known (λ bytes. ReadsBallots pick bytes (Ok e))
            → IfSome known (λ bytes. IsAnswerOver (IsAnswerAbout with_names question) pick bytes answer)
        go answer it None r = tt
        go answer it (Some bytes) r = (Ok e, r, it)

    -- ballots that could not be read
    pub writes_unread : (refusal : Refusal) → read ≡ Err refusal → IsErr result × IsErrAnd result (λ f. f ≡ refusal) → Appends old new [] → WritesRight (IsRight asked reader) old new result
    writes_unread refusal was is kept = by result is.0 is.1
      where
        any : (known : Option (List ℕ)) (r : Refusal) (P : List ℕ → Type 0) → IfSome known (λ bytes. ReadsBallots pick bytes (Err r))
            → ((bytes : List ℕ) → ReadsBallots pick bytes (Err r) → P bytes) → IfSome known P
        any None r P h step = tt
        any (Some bytes) r P h step = step bytes h

        of : (r : Refusal) → IfSome reader.remaining (λ bytes. ReadsBallots pick bytes (Err r)) → WritesRight (IsRight asked reader) old new (Err r)
        of (Input fault) h = (is_right (refused status.InputRefused (fault_text fault)) (any reader.remaining (Input fault) _ h (λ bytes it. (Err fault, it, refl))), kept)
        of (reason.Request fault) h = (is_right (request_refused (request_fault_word fault)) (any reader.remaining (reason.Request fault) _ h (λ bytes it. absurd it)), kept)
        of Memory h = kept
        of ReadFailed h = kept
        of WriteFailed h = (answered [], is_right (answered []) (any reader.remaining WriteFailed _ h (λ bytes it. absurd it)), ([], [], refl, kept))

        by : (r : Result Outcome Refusal) → IsErr r → IsErrAnd r (λ f. f ≡ refusal) → WritesRight (IsRight asked reader) old new r
        by (Ok outcome) is_err same = absurd (true≢false (sym is_err))
        by (Err passed) is_err same = of passed (subst (λ r. IfSome reader.remaining (λ bytes. ReadsBallots pick bytes r)) (was ∙ ap Err (sym same)) reads)

-- ---- a loop of reads

-- a call that did not fail leaves a device as it was
pub unfailed : (before now after : Bool) → now ≡ before → after ≡ (now || false) → after ≡ before
unfailed before true after same is = is ∙ same
unfailed before false after same is = is ∙ same

-- at the end of the input all was fed, and nothing is left
pub fed_whole : (before now after : Option (List ℕ)) (fed : List ℕ) → Consumes before now fed → Consumes now after [] → IsAtEnd after → IfSome before (λ bytes. fed ≡ bytes)
fed_whole None now after fed past last end = tt
fed_whole (Some xs) None after fed past last end = absurd past
fed_whole (Some xs) (Some ys) None fed past last end = absurd last
fed_whole (Some xs) (Some ys) (Some zs) fed past last end = sym (past ∙ ap (λ l. fed ++ l) (last ∙ end) ∙ append-nil fed)

pub none_left : (before now after : Option (List ℕ)) (fed : List ℕ) → Consumes before now fed → Consumes now after [] → IsAtEnd after → IfSome before (λ bytes. after ≡ Some [])
none_left None now after fed past last end = tt
none_left (Some xs) None after fed past last end = absurd past
none_left (Some xs) (Some ys) None fed past last end = absurd last
none_left (Some xs) (Some ys) (Some zs) fed past last end = ap Some end

-- memory ran out, with what was read before
pub passed_memory : {T : Type 0} (old new : ReaderState) (refusal : Refusal) (result : Result T Refusal) → refusal ≡ Memory → IsErr result × IsErrAnd result (λ f. f ≡ refusal)
    → ReadsSoundly old new → ReadsOn old new result
passed_memory old new refusal (Ok x) memory is sound = absurd (true≢false (sym is.0))
passed_memory {T} old new refusal (Err passed) memory is sound = subst (λ r. ReadsOn {T = T} old new (Err r)) (sym (is.1 ∙ memory)) sound

-- bytes of which so many were read are too many
pub too_many : (before after : Option (List ℕ)) (read : List ℕ) → Consumes before after read → word_limit ≤ length read → IfSome before IsTooLong
too_many None after read consumed long = tt
too_many (Some bytes) None read consumed long = elim consumed [ ]
too_many (Some bytes) (Some rest) read consumed long =
    omega (arith, long, ap length consumed, length-append read rest)

-- ---- what a run leaves

-- the calls on a writer in this state
abbrev pub calls_on : WriterState → Calls
calls_on writer = record { has_failed = writer.has_failed; flushes = writer.flushes }

module _ (asked : Request) (read_old read_new : ReaderState) (out_old out_new err_old err_new : WriterState) where
  -- an answer that was written whole
  pub ends_answered : (answer : Answer) → IsRight asked read_old answer → answer.error ≡ [] → flushes_for answer.status ≡ 1 → err_new ≡ err_old → ReadsInput read_old read_new asked.task
      → calls_on out_new ≡ flushed_once (calls_on out_old) → Appends out_old.contents out_new.contents answer.text
      → EndsAnswered asked read_old read_new out_old out_new err_old err_new answer.status
  ends_answered answer right none once silent reads writes text = record {
    answer = answer;
    right = right;
    status_is = refl;
    input = reads;
    wrote = ap (λ (calls : Calls). calls.has_failed) writes;
    flushed = omega (arith, ap (λ (calls : Calls). calls.flushes) writes, once);
    text = text;
    error = subst (λ e. Reports err_old e answer.error) (sym silent) (subst (Reports err_old err_old) (sym none) (Reports-nothing err_old));
  }

  -- a refusal, with its line
  pub ends_refused : (refusal : Refusal) (ends : Status) → ends ≡ status_of refusal → Reports err_old err_new (error_of refusal)
      → WritesRight (IsRight asked read_old) out_old.contents out_new.contents (Err refusal) → TellsOfReads {T = Outcome} asked.task read_old read_new (Err refusal)
      → TellsOfWrites {T = Outcome} (calls_on out_old) (calls_on out_new) (Err refusal) → Ends asked read_old read_new out_old out_new err_old err_new ends
  ends_refused refusal ends is error h reads writes = subst (Ends asked read_old read_new out_old out_new err_old err_new) (sym is) (go refusal error h reads writes)
    where
      failed : calls_on out_new ≡ calls_on out_old → out_new.has_failed ≡ out_old.has_failed
      failed same = ap (λ (calls : Calls). calls.has_failed) same

      flushes : calls_on out_new ≡ calls_on out_old → out_new.flushes ≡ out_old.flushes
      flushes same = ap (λ (calls : Calls). calls.flushes) same

      go : (r : Refusal) → Reports err_old err_new (error_of r) → WritesRight (IsRight asked read_old) out_old.contents out_new.contents (Err r) → TellsOfReads {T = Outcome} asked.task read_old read_new (Err r)
          → TellsOfWrites {T = Outcome} (calls_on out_old) (calls_on out_new) (Err r) → Ends asked read_old read_new out_old out_new err_old err_new (status_of r)
      go (Input fault) error h reads writes =
          record { answer = refused status.InputRefused (fault_text fault); right = h.0; status_is = refl; input = reads; wrote = failed writes; flushed = omega (arith, flushes writes); text = h.1; error = error }
      go (reason.Request fault) error h reads writes =
          record { answer = request_refused (request_fault_word fault); right = h.0; status_is = refl; input = reads; wrote = failed writes; flushed = omega (arith, flushes writes); text = h.1; error = error }
      go Memory error h reads writes = record { over_input = reads.0; read = reads.1; unfailed = failed writes; unflushed = flushes writes; text = h; error = error }
      go ReadFailed error h reads writes = inl (record { over_input = reads.0; unread = reads.1; unfailed = failed writes; unflushed = flushes writes; text = h; error = error })
      go WriteFailed error h reads writes = inr (record { answer = h.0; right = h.1; input = reads; failed = writes; text = h.2; error = error })
