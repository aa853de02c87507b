-- What printing through a buffer leaves.
use Rattle.std.specs.Prelude.{◌≡◌, ℕ, ◌+◌, Bool, true, false, List, [], ◌++◌, Option}
use Rattle.std.specs.Io.KnownBytes.{Appends}
use Rattle.text_output.specs.declared.printing.Printer.{Printer}

-- what is known of the calls on a writer: whether one has failed, and how many flushes there were
pub record Calls : Type 0 where
  pub has_failed : Bool
  pub flushes : ℕ

abbrev pub calls_of : {W : Type 0} → (W → Bool) → (W → ℕ) → W → Calls
calls_of has_failed flushes writer = record { has_failed = has_failed writer; flushes = flushes writer }

-- the same calls and one more flush
abbrev pub flushed_once : Calls → Calls
flushed_once calls = record { has_failed = calls.has_failed; flushes = calls.flushes + 1 }

-- a writer with bytes that wait for it: the bytes that it took, those that wait, and the calls on it
pub record Outlet : Type 0 where
  pub taken : Option (List ℕ)
  pub waiting : List ℕ
  pub calls : Calls

-- The text was printed: what was sent and what is left are together what waited and the text after it. If `ok`, what is
-- left waits, no call failed, and none was a flush; otherwise a call failed.
pub record Passes (before after : Outlet) (ok : Bool) (text : List ℕ) : Type 0 where
  pub sent : List ℕ
  pub rest : List ℕ
  pub order : sent ++ rest ≡ before.waiting ++ text
  pub took : Appends before.taken after.taken sent
  pub whole : ok ≡ true → (rest ≡ after.waiting) × (after.calls ≡ before.calls)
  pub broken : ok ≡ false → after.calls.has_failed ≡ true

-- the same writer, as if it had been flushed once more
abbrev pub flushed : Outlet → Outlet
flushed outlet = record outlet { calls = flushed_once outlet.calls }

module _ {W : Type 0} (contents : W → Option (List ℕ)) (calls : W → Calls) where
  -- a writer for which these bytes wait
  abbrev pub outlet : W → List ℕ → Outlet
  outlet out waiting = record { taken = contents out; waiting = waiting; calls = calls out }

  -- a writer without a printer was sent the text
  abbrev pub Sends : W → W → Bool → List ℕ → Type 0
  Sends before after = Passes (outlet before []) (outlet after [])

  -- it was sent the text and flushed once
  abbrev pub SendsAll : W → W → Bool → List ℕ → Type 0
  SendsAll before after = Passes (flushed (outlet before [])) (outlet after [])

  -- a printer printed the text
  pub record Prints (before after : Printer W) (ok : Bool) (text : List ℕ) : Type 0 where
    pub same_writer : after.out.ghost_name ≡ before.out.ghost_name
    pub passed : Passes (outlet before.out.now before.pending.items) (outlet after.out.now after.pending.items) ok text

  -- it printed the text, and its writer was flushed once
  pub record PrintsAll (before after : Printer W) (ok : Bool) (text : List ℕ) : Type 0 where
    pub same_writer : after.out.ghost_name ≡ before.out.ghost_name
    pub passed : Passes (flushed (outlet before.out.now before.pending.items))
        (outlet after.out.now after.pending.items) ok text
