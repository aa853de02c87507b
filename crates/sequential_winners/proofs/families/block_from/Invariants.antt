use Rattle.std.proofs.Common.{◌≡◌, ◌<◌, ◌≤◌, ℕ, true, [], get_or}
use Rattle.ballot_base.specs.CandSet.{has_member}
use Rattle.sequential_winners.proofs.families.block_from.Given as goal

-- so for the families before i
abbrev pub invariant-loop-i : goal.invariant-loop-i
invariant-loop-i l = (j : ℕ) → l.start ≤ j → j < l.i → (n : ℕ)
    → (has_member l.in_all n ≡ true → has_member (get_or l.leasts j []) n ≡ true)
    × (has_member (get_or l.mosts j []) n ≡ true → has_member l.in_some n ≡ true)
