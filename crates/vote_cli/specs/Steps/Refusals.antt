-- Why a run ends without an answer, or with only a beginning of one, and what is true then.
use Rattle.std.specs.Prelude.{◌≡◌, ◌≢◌, ◌++◌, ℕ, true, false, List, [], Option, Result, Ok, Err, codes}
use Rattle.std.specs.Io.KnownBytes.{Appends}
use Rattle.ballot_base.specs.Ballots.{Election}
use Rattle.vote_cli.specs.declared.status.Status.{Status}
use Rattle.vote_cli.specs.declared.status.Status.TheVariants as status
use Rattle.vote_cli.specs.declared.answers.Outcome.{Outcome}
use Rattle.vote_cli.specs.declared.answers.Outcome.TheVariants as outcome
use Rattle.vote_cli.specs.declared.refusal.Refusal.{Refusal}
use Rattle.vote_cli.specs.declared.refusal.Refusal.TheVariants.{Input, Request, Memory, ReadFailed, WriteFailed}
use Rattle.text_output.specs.Device.{AppendsBeginning, ReaderState}
use Rattle.text_output.specs.Steps.Printing.{Calls, flushed_once}
use Rattle.vote_cli.specs.Runs.{FailsToRead, IsAllRead, ReadsInput, ReadsSoundly, has_votes}
use Rattle.vote_cli.specs.Runs.{memory_line, read_failed_line, write_failed_line}
use Rattle.vote_cli.specs.Steps.RequestFaults.{request_fault_word}
use Rattle.text_output.specs.Text.{line}
use Rattle.preflib_text.specs.declared.fault.FaultName.TheVariants as name
use Rattle.preflib_text.specs.declared.fault.ReadFault.{ReadFault}
use Rattle.preflib_text.specs.declared.pick.Pick.{Pick}
use Rattle.preflib_text.specs.Reading.{Reads}
use Rattle.vote_cli.specs.FaultText.{fault_text}
use Rattle.vote_cli.specs.Answer.{Answer, answered, violated, refused, request_refused}
use Rattle.request_words.specs.Request.{Task}

-- the status of a refusal
abbrev pub status_of : Refusal → Status
status_of (Input fault) = status.InputRefused
status_of (Request fault) = status.RequestRefused
status_of Memory = status.NoMemory
status_of ReadFailed = status.DeviceFailed
status_of WriteFailed = status.DeviceFailed

-- the line on standard error
abbrev pub error_of : Refusal → List ℕ
error_of (Input fault) = line (fault_text fault)
error_of (Request fault) = line (codes "committees: request: " ++ request_fault_word fault)
error_of Memory = memory_line
error_of ReadFailed = read_failed_line
error_of WriteFailed = write_failed_line

-- the refusal of an input with this fault
abbrev pub IsRefusal : ReadFault → Refusal → Type 0
IsRefusal fault (Input reported) = (reported ≡ fault) × (fault.name ≢ name.Memory)
IsRefusal fault Memory = fault.name ≡ name.Memory
IsRefusal fault refusal = ⊥

-- what is known of the input before anything is written
abbrev pub ReadsBallots : Pick → List ℕ → Result Election Refusal → Type 0
ReadsBallots pick bytes (Ok election) = Reads bytes pick (Ok election)
ReadsBallots pick bytes (Err (Input fault)) = Reads bytes pick (Err fault)
ReadsBallots pick bytes (Err Memory) = Unit {0}
ReadsBallots pick bytes (Err ReadFailed) = Unit {0}
ReadsBallots pick bytes (Err refusal) = ⊥

-- how an input was read, by the result: the refusal is `ReadFailed` exactly if reading failed; otherwise the input was
-- read to its end, unless memory ran out
abbrev pub ReadsOn : {T : Type 0} → ReaderState → ReaderState → Result T Refusal → Type 0
ReadsOn old new (Err ReadFailed) = FailsToRead old new
ReadsOn old new (Err Memory) = ReadsSoundly old new
ReadsOn old new result = ReadsSoundly old new × IsAllRead old new

-- like `ReadsOn`, but for a run, which leaves its reader alone if the votes stand in the command line
abbrev pub TellsOfReads : {T : Type 0} → Task → ReaderState → ReaderState → Result T Refusal → Type 0
TellsOfReads task old new (Err ReadFailed) = (has_votes task ≡ false) × FailsToRead old new
TellsOfReads task old new (Err Memory) = (has_votes task ≡ false) × ReadsSoundly old new
TellsOfReads task old new result = ReadsInput old new task

-- the input itself could not be read: a refusal before anything is known of its ballots
abbrev pub IsUnread : Refusal → Type 0
IsUnread Memory = Unit {0}
IsUnread ReadFailed = Unit {0}
IsUnread refusal = ⊥

-- A call of the writer has failed exactly if the refusal is `WriteFailed`. A writer that took an answer was flushed
-- once, and one that took nothing was not.
abbrev pub TellsOfWrites : {T : Type 0} → Calls → Calls → Result T Refusal → Type 0
TellsOfWrites old new (Ok ended) = new ≡ flushed_once old
TellsOfWrites old new (Err WriteFailed) = new.has_failed ≡ true
TellsOfWrites old new (Err refusal) = new ≡ old

-- What was written, by the result, if `IsRight` holds of the right answers: one of them whole, a beginning of one if a
-- write failed, and otherwise nothing. A refusal for the input or the request is then a right answer.
abbrev pub WritesRight : (Answer → Type 0) → Option (List ℕ) → Option (List ℕ) → Result Outcome Refusal → Type 0
WritesRight IsRight old new (Ok outcome.Answered) = (text : List ℕ) × IsRight (answered text) × Appends old new text
WritesRight IsRight old new (Ok outcome.Violated) = (text : List ℕ) × IsRight (violated text) × Appends old new text
WritesRight IsRight old new (Err (Input fault)) =
    IsRight (refused status.InputRefused (fault_text fault)) × Appends old new []
WritesRight IsRight old new (Err (Request fault)) =
    IsRight (request_refused (request_fault_word fault)) × Appends old new []
WritesRight IsRight old new (Err Memory) = Appends old new []
WritesRight IsRight old new (Err ReadFailed) = Appends old new []
WritesRight IsRight old new (Err WriteFailed) =
    (answer : Answer) × IsRight answer × AppendsBeginning old new answer.text

module _ {W : Type 0} (contents : W → Option (List ℕ)) (calls : W → Calls) where
  -- how an answer was written, and that no reader is blamed
  pub record Writes (old new : W) (result : Result Outcome Refusal) (IsRight : Answer → Type 0) : Type 0 where
    pub answer : WritesRight IsRight (contents old) (contents new) result
    pub writes : TellsOfWrites (calls old) (calls new) result
    pub unread : result ≢ Err ReadFailed

  -- like `Writes`, if the right answer is the one with this text
  abbrev pub WritesText : W → W → Result Outcome Refusal → List ℕ → Type 0
  WritesText old new result text = Writes old new result (λ answer. answer ≡ answered text)
