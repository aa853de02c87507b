-- Each definition on small examples.
use Rattle.std.specs.Prelude.{◌≡◌, [], ◌∷◌, Some, true, false, refl}
use Rattle.std.proofs.Common.{arith, lit≤}
use Rattle.test_devices.specs.Faults.{IsDue, is_zero_after}
use Rattle.test_devices.specs.States.{told_reader, told_writer}
use Rattle.test_devices.specs.Views.{new_reader, new_writer}
use Rattle.test_devices.specs.declared.devices.Fault.TheVariants.{Sound, ErrorAfter, ZeroAfter, AtFlush}

-- after three bytes of two, and not yet of four
due : IsDue (ErrorAfter 2) 3 × (IsDue (ZeroAfter 4) 3 → ⊥) × (IsDue Sound 3 → ⊥)
due = (lit≤ tt, (λ late. omega (arith, late)), (λ never. never))

zero : (is_zero_after (ZeroAfter 4) ≡ true) × (is_zero_after (ErrorAfter 4) ≡ false) × (is_zero_after AtFlush ≡ false)
zero = (refl, refl, refl)

-- a reader of the bytes 7 and 8, one a call, whose third call fails
reader : new_reader (7 ∷ 8 ∷ []) 1 3
    ≡ record { remaining = 7 ∷ 8 ∷ []; has_failed = false; calls_left = 3; given = 0; piece = 1 }
reader = refl

-- a writer of five bytes a call that fails after two
writer : new_writer 5 (ErrorAfter 2)
    ≡ record { taken = []; flushes = 0; has_failed = false; fault = ErrorAfter 2; piece = 5 }
writer = refl

-- the same reader, once it has given its first byte
told_of_a_reader : told_reader (record { remaining = 8 ∷ []; has_failed = false; calls_left = 2; given = 1; piece = 1 })
    ≡ record { remaining = Some (8 ∷ []); has_failed = false; given = 1 }
told_of_a_reader = refl

-- the same writer, once it has taken two bytes, failed and been flushed
told_of_a_writer :
    told_writer (record { taken = 7 ∷ 8 ∷ []; flushes = 1; has_failed = true; fault = Sound; piece = 5 })
    ≡ record { contents = Some (7 ∷ 8 ∷ []); has_failed = true; flushes = 1 }
told_of_a_writer = refl
