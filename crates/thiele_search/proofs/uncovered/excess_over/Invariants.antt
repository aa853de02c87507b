use Rattle.std.proofs.Common.{◌≡◌, ◌-◌, ◌*◌, ◌≤◌, get_or}
use Rattle.thiele_search.specs.Steps.Columns.{block_voters, total}
use Rattle.thiele_search.specs.Steps.Uncovered.{table_blocks}
use Rattle.thiele_search.proofs.uncovered.excess_over.Given as goal

-- the gains so far are added up
abbrev pub invariant-loop-n : goal.invariant-loop-n
invariant-loop-n l = record {
  summed : l.more ≡ total (λ n. get_or l.fn.gains n 0 - l.fn.threshold) l.n;
  most : l.more ≤ l.n * (table_blocks * block_voters);
}
