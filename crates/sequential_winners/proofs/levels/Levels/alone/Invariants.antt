use Rattle.std.proofs.Common.{◌≡◌, ◌-◌, ◌==◌, length, get_or, filter, []}
use Rattle.std.specs.List.{range_with_len}
use Rattle.sequential_winners.proofs.levels.Levels.alone.Given as goal

-- those before c who have no clones
abbrev pub invariant-loop-c : goal.invariant-loop-c
invariant-loop-c g l = l.alone ≡ filter (λ x. length (get_or l.self.clones x []) == 1) (range_with_len 1 (l.c - 1))
