use Rattle.std.proofs.Common.{◌≡◌, ◌*◌, ◌^◌, ◌≤◌, get_or}
use Rattle.thiele_search.specs.Steps.Columns.{total, shared}
use Rattle.thiele_search.proofs.columns.given_by.Given as goal

-- what the voters with fewer hits give is added
abbrev pub invariant-loop-h : goal.invariant-loop-h
invariant-loop-h l = record {
  summed : l.sum ≡ total (λ h. get_or l.weights h 0 * shared l.column (get_or l.words h 0)) l.h;
  most : l.sum ≤ l.h * 2 ^ 50;
}
