use Rattle.std.proofs.Common.{◌≡◌, ◌<◌, ◌-◌, ◌*◌, ℕ, false, [], length, get_or}
use Rattle.sequential_winners.specs.Steps.Families.{may_be_in}
use Rattle.sequential_winners.proofs.families.Families.is_in_some.Given as goal

-- none of the families of the blocks so far has one
abbrev pub invariant-loop-block : goal.invariant-loop-block
invariant-loop-block g l = (j : ℕ) → j < l.block * 64 → j < length l.fn.stored.leasts.items
    → may_be_in l.self.election.m l.self.election.rows l.fn.c l.fn.set (l.self.k - length l.fn.set) (get_or l.fn.stored.leasts.items j [], get_or l.fn.stored.mosts.items j []) ≡ false
