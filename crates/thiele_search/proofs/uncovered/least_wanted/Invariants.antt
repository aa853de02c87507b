use Rattle.std.proofs.Common.{◌≡◌, get_or}
use Rattle.thiele_search.specs.Steps.Uncovered.{bound_by}
use Rattle.thiele_search.proofs.uncovered.least_wanted.Given as goal

-- the last threshold gives the bound
abbrev pub invariant-loop : goal.invariant-loop
invariant-loop l = record { bound : l.last.most ≡ bound_by (λ n. get_or l.fn.gains n 0) l.fn.branch.left l.last.threshold }
