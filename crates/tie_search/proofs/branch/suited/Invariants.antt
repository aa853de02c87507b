use Rattle.std.proofs.Common.{◌<◌, ℕ, [], get_or}
use Rattle.tie_search.specs.Steps.Branches.{IsUnsuited}
use Rattle.tie_search.proofs.branch.suited.Given as goal

-- those that were looked at do not suit
abbrev pub invariant-loop-i : goal.invariant-loop-i
invariant-loop-i l = record { none : (j : ℕ) → j < l.i → IsUnsuited l.branch l.clones (get_or l.committees j []) }
