-- What sharing out seats gives before anything is written.
use Rattle.std.specs.Prelude.{◌≡◌, ℕ, Bool, List, Option, None}
use Rattle.seat_share.specs.Allocations.{allocations}
use Rattle.seat_share.specs.Faults.{share_fault}
use Rattle.seat_share.specs.declared.method.Method.{Method}
use Rattle.ballot_base.specs.Lists.{later_than}
use Rattle.vote_cli.specs.Answer.{request_refused, share_answer_by}

-- the votes have no fault, and these are the fair allocations later than the start
abbrev pub IsSharedOut : Method → ℕ → Option (List ℕ) → List ℕ → List (List ℕ) → Type 0
IsSharedOut method seats start votes shares =
    (share_fault votes seats None ≡ None) × (shares ≡ later_than start (allocations method votes seats))

-- seats are not shared out, and this is the word for it: a fault of the votes, or a start that does not fit
abbrev pub IsShareRefusal : ℕ → Bool → List ℕ → List ℕ → Type 0
IsShareRefusal seats starts votes word =
    (text : List ℕ) → share_answer_by (share_fault votes seats None) starts text ≡ request_refused word
