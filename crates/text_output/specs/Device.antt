-- What a call does to a device, and what a run of calls leaves.
use Rattle.std.specs.Prelude.{◌≡◌, ℕ, ◌==◌, ◌&&◌, not, Bool, true, List, ◌++◌, length, Option, Result, Ok, Err}
use Rattle.std.specs.Io.KnownBytes.{Appends}

-- whether a write failed: by an error, or by taking none of one or more bytes
abbrev pub is_failed_write : {E : Type 0} → Result ℕ E → List ℕ → Bool
is_failed_write (Ok n) bytes = (n == 0) && not (length bytes == 0)
is_failed_write (Err e) bytes = true

-- how many bytes a read gave
abbrev pub bytes_given : {E : Type 0} → Result ℕ E → ℕ
bytes_given (Ok n) = n
bytes_given (Err e) = 0

-- what is known of a reader: whether a call has failed, how many bytes its reads have given so far, and, if they are
-- known, the bytes that it has still to give
pub record ReaderState : Type 0 where
  pub remaining : Option (List ℕ)
  pub has_failed : Bool
  pub given : ℕ

-- what is known of a writer: the bytes that it took, if they are known, whether a call has failed, and how often it was
-- flushed
pub record WriterState : Type 0 where
  pub contents : Option (List ℕ)
  pub has_failed : Bool
  pub flushes : ℕ

-- the state of a device, by what its trait reports
abbrev pub reader_state : {R : Type 0} → (R → Option (List ℕ)) → (R → Bool) → (R → ℕ) → R → ReaderState
reader_state remaining has_failed given reader =
    record { remaining = remaining reader; has_failed = has_failed reader; given = given reader }

abbrev pub writer_state : {W : Type 0} → (W → Option (List ℕ)) → (W → Bool) → (W → ℕ) → W → WriterState
writer_state contents has_failed flushes writer =
    record { contents = contents writer; has_failed = has_failed writer; flushes = flushes writer }

-- known bytes grow by a beginning of the text
abbrev pub AppendsBeginning : Option (List ℕ) → Option (List ℕ) → List ℕ → Type 0
AppendsBeginning old new text = (sent rest : List ℕ) × (sent ++ rest ≡ text) × Appends old new sent
