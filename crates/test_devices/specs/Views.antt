-- What contracts see of the devices.
use Rattle.std.specs.Prelude.{ℕ, Bool, false, List, []}
use Rattle.test_devices.specs.declared.devices.Fault.{Fault}

-- a reader over bytes: the bytes that it still has to give, whether a call has failed, the number of calls up to the
-- one that fails (0 if none does), the number of bytes that it has given, and the maximum per call
pub record ReaderView : Type 0 where
  pub remaining : List ℕ
  pub has_failed : Bool
  pub calls_left : ℕ
  pub given : ℕ
  pub piece : ℕ

-- a writer that keeps what it takes: the bytes that it took, the number of flushes, whether a call has failed, the
-- fault that is still to show, and the maximum number of bytes per call
pub record WriterView : Type 0 where
  pub taken : List ℕ
  pub flushes : ℕ
  pub has_failed : Bool
  pub fault : Fault
  pub piece : ℕ

-- a reader before its first call
abbrev pub new_reader : List ℕ → ℕ → ℕ → ReaderView
new_reader bytes piece calls_left =
    record { remaining = bytes; has_failed = false; calls_left = calls_left; given = 0; piece = piece }

-- a writer before its first call
abbrev pub new_writer : ℕ → Fault → WriterView
new_writer piece fault = record { taken = []; flushes = 0; has_failed = false; fault = fault; piece = piece }
