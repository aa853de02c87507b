-- What a run leaves: on its devices, and with which status it ends.
use Rattle.std.specs.Prelude.{◌≡◌, ◌⊎◌, ◌≤◌, ◌<◌, ◌+◌, ℕ, length, Bool, true, false, List}
use Rattle.std.specs.Prelude.{[], Option, Some, IfSome, codes, if◌then◌else◌}
use Rattle.std.specs.Io.KnownBytes.{Appends}
use Rattle.preflib_text.specs.Limits.{word_limit}
use Rattle.request_words.specs.Request.{Request, Task, of_ballots, of_votes}
use Rattle.vote_cli.specs.Answer.{Answer, IsAnswer}
use Rattle.text_output.specs.Device.{AppendsBeginning, ReaderState, WriterState}
use Rattle.text_output.specs.Text.{line}
use Rattle.vote_cli.specs.declared.status.Status.{Status}
use Rattle.vote_cli.specs.declared.status.Status.TheVariants.{Answered, Violated, NoMemory, DeviceFailed}

-- whether the votes stand in the command line
abbrev pub has_votes : Task → Bool
has_votes (of_ballots question) = false
has_votes (of_votes votes method seats page) = true

-- the bytes that an answer is about, if they are known: none if the votes stand in the command line
abbrev pub input_for : Task → Option (List ℕ) → Option (List ℕ)
input_for task remaining = if has_votes task then Some [] else remaining

-- ---- the reader

-- more bytes than a run can count: a failed read, though no call has failed
abbrev pub IsTooLong : List ℕ → Type 0
IsTooLong bytes = word_limit ≤ length bytes

module _ (old new : ReaderState) where
  -- no call of the reader has failed in this run, and its reads gave no more bytes than a run can count
  pub record ReadsSoundly : Type 0 where
    pub unfailed : new.has_failed ≡ old.has_failed
    pub few : new.given < old.given + word_limit

  -- a call of the reader has failed; or none has in this run, and its reads gave more bytes than a run can count. If
  -- the bytes are known, they are more than a run can count.
  abbrev pub FailsToRead : Type 0
  FailsToRead = (new.has_failed ≡ true)
      ⊎ ((new.has_failed ≡ old.has_failed) × (old.given + word_limit ≤ new.given) × IfSome old.remaining IsTooLong)

  -- a reader whose bytes were known has none left
  abbrev pub IsAllRead : Type 0
  IsAllRead = IfSome old.remaining (λ bytes. new.remaining ≡ Some [])

  -- the input was read as a run reads it: to its end, or not at all if the votes stand in the command line
  pub record ReadsInput (task : Task) : Type 0 where
    pub sound : ReadsSoundly
    pub whole : has_votes task ≡ false → IsAllRead

-- ---- the errors

-- the lines for out of memory and for failed devices
abbrev pub memory_line : List ℕ
memory_line = line (codes "committees: memory")

abbrev pub read_failed_line : List ℕ
read_failed_line = line (codes "committees: read failed")

abbrev pub write_failed_line : List ℕ
write_failed_line = line (codes "committees: write failed")

-- what a writer of errors took of a line: a beginning, and all of it if no call failed
pub record Reports (old new : WriterState) (error : List ℕ) : Type 0 where
  pub beginning : AppendsBeginning old.contents new.contents error
  pub whole : new.has_failed ≡ false → Appends old.contents new.contents error

-- ---- how a run may end

-- how often a run flushes its writer: once after an answer
abbrev pub flushes_for : Status → ℕ
flushes_for Answered = 1
flushes_for Violated = 1
flushes_for status = 0

-- an answer to the request and the bytes of the input, if these are known
abbrev pub IsRight : Request → ReaderState → Answer → Type 0
IsRight asked reader answer = IfSome (input_for asked.task reader.remaining) (λ bytes. IsAnswer asked bytes answer)

-- a request, and the reader, the writer and the writer of errors before the run and after it
module _ (asked : Request) (read_old read_new : ReaderState) (out_old out_new err_old err_new : WriterState) where
  -- with a right answer that was written whole
  pub record EndsAnswered (status : Status) : Type 0 where
    pub answer : Answer
    pub right : IsRight asked read_old answer
    pub status_is : answer.status ≡ status
    pub input : ReadsInput read_old read_new asked.task
    pub wrote : out_new.has_failed ≡ out_old.has_failed
    pub flushed : out_new.flushes ≡ out_old.flushes + flushes_for status
    pub text : Appends out_old.contents out_new.contents answer.text
    pub error : Reports err_old err_new answer.error

  -- out of memory, with nothing written; never if the votes stand in the command line
  pub record EndsWithoutMemory : Type 0 where
    pub over_input : has_votes asked.task ≡ false
    pub read : ReadsSoundly read_old read_new
    pub unfailed : out_new.has_failed ≡ out_old.has_failed
    pub unflushed : out_new.flushes ≡ out_old.flushes
    pub text : Appends out_old.contents out_new.contents []
    pub error : Reports err_old err_new memory_line

  -- with a failed read, and nothing written; never if the votes stand in the command line
  pub record EndsUnread : Type 0 where
    pub over_input : has_votes asked.task ≡ false
    pub unread : FailsToRead read_old read_new
    pub unfailed : out_new.has_failed ≡ out_old.has_failed
    pub unflushed : out_new.flushes ≡ out_old.flushes
    pub text : Appends out_old.contents out_new.contents []
    pub error : Reports err_old err_new read_failed_line

  -- with a failed write, after a beginning of a right answer
  pub record EndsUnwritten : Type 0 where
    pub answer : Answer
    pub right : IsRight asked read_old answer
    pub input : ReadsInput read_old read_new asked.task
    pub failed : out_new.has_failed ≡ true
    pub text : AppendsBeginning out_old.contents out_new.contents answer.text
    pub error : Reports err_old err_new write_failed_line

  -- by the status
  abbrev pub Ends : Status → Type 0
  Ends NoMemory = EndsWithoutMemory
  Ends DeviceFailed = EndsUnread ⊎ EndsUnwritten
  Ends status = EndsAnswered status

-- ---- a whole run, if these functions give the states of its reader, its writer and its writer of errors
module _ {R W E : Type 0} (read : R → ReaderState) (out : W → WriterState) (err : E → WriterState) where
  -- The run ends with the answer to the request and the bytes, or with what stopped it, by the status. With votes in
  -- the request the reader is left as it was.
  pub record LeavesRun (asked : Request) (read_old read_new : R) (out_old out_new : W) (err_old err_new : E)
      (status : Status) : Type 0 where
    pub ends : Ends asked (read read_old) (read read_new) (out out_old) (out out_new) (err err_old) (err err_new) status
    pub alone : has_votes asked.task ≡ true → read_new ≡ read_old
