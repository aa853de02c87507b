-- When a writer fails, and how.
use Rattle.std.specs.Prelude.{ℕ, ◌≤◌, Bool, true, false}
use Rattle.test_devices.specs.declared.devices.Fault.{Fault}
use Rattle.test_devices.specs.declared.devices.Fault.TheVariants.{Sound, ErrorAfter, ZeroAfter, AtFlush}

-- a write of some bytes fails now, once this many were taken
abbrev pub IsDue : Fault → ℕ → Type 0
IsDue Sound taken = ⊥
IsDue (ErrorAfter most) taken = most ≤ taken
IsDue (ZeroAfter most) taken = most ≤ taken
IsDue AtFlush taken = ⊥

-- whether a failed write takes no byte, and is not an error
abbrev pub is_zero_after : Fault → Bool
is_zero_after Sound = false
is_zero_after (ErrorAfter most) = false
is_zero_after (ZeroAfter most) = true
is_zero_after AtFlush = false
