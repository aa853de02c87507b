use Rattle.std.proofs.Common.{◌≡◌, ◌+◌, take, drop}
use Rattle.ballot_base.specs.Lists.{IsIncreasing}
use Rattle.vote_cli.proofs.starts.committee_of.Given as goal

-- the numbers so far are increasing and were taken, and the list is increasing exactly where those after them go on so
abbrev pub invariant-loop-n : goal.invariant-loop-n
invariant-loop-n l = record {
  taken : l.committee ≡ take l.n-index l.list;
  before : IsIncreasing 1 l.last (take l.n-index l.list);
  rest : IsIncreasing 1 l.m l.list → IsIncreasing (l.last + 1) l.m (drop l.n-index l.list);
  whole : IsIncreasing (l.last + 1) l.m (drop l.n-index l.list) → IsIncreasing 1 l.m l.list;
}
