use Rattle.tie_walk.specs.Sequences.{sequential_winners}
use Rattle.tie_walk.specs.Winners.{winners}
use Rattle.tie_walk.proofs.LawLemmas.{winners-order}
use Rattle.tie_walk.proofs.SequenceLaws.{sequential-later}
use Rattle.tie_walk.proofs.StartLemmas.{later_than-at}
use Rattle.tie_walk.proofs.laws.starts.Goals as goal

pub returns : goal.returns
returns c = record {
  winners = λ value m k before after start is. later_than-at (winners value m k) before after start (winners-order value m k) is;
  sequential = λ rule e k before after start is. later_than-at (sequential_winners rule e k) before after start (sequential-later rule e k) is;
}
