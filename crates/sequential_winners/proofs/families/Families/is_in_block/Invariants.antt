use Rattle.std.proofs.Common.{◌≡◌, ◌<◌, ◌≤◌, ◌-◌, ◌*◌, ℕ, false, [], length, get_or}
use Rattle.sequential_winners.specs.Steps.Families.{may_be_in}
use Rattle.sequential_winners.proofs.families.Families.is_in_block.Given as goal

-- none of the block's families before i has one
abbrev pub invariant-loop-i : goal.invariant-loop-i
invariant-loop-i g l = (j : ℕ) → l.fn.block * 64 ≤ j → j < l.i
    → may_be_in l.self.election.m l.self.election.rows l.fn.c l.fn.set (l.self.k - length l.fn.set) (get_or l.fn.stored.leasts.items j [], get_or l.fn.stored.mosts.items j []) ≡ false
