use Rattle.std.proofs.Common.{◌≡◌, ◌+◌, take, drop}
use Rattle.ballot_base.specs.Limits.{most_candidates}
use Rattle.ballot_base.specs.Lists.{IsIncreasing}
use Rattle.ballot_base.proofs.cand_set.CandSet.of_list.Given as goal

abbrev pub invariant-loop-n : goal.invariant-loop-n
invariant-loop-n l = record {
  taken : l.set ≡ take l.n-index l.numbers;
  before : IsIncreasing 1 l.last (take l.n-index l.numbers);
  rest : IsIncreasing 1 most_candidates l.numbers → IsIncreasing (l.last + 1) most_candidates (drop l.n-index l.numbers);
  whole : IsIncreasing (l.last + 1) most_candidates (drop l.n-index l.numbers) → IsIncreasing 1 most_candidates l.numbers;
}
