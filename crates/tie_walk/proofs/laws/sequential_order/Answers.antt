use Rattle.tie_walk.proofs.SequenceLaws.{sequential-later, sequential-once}
use Rattle.tie_walk.proofs.laws.sequential_order.Goals as goal

pub returns : goal.returns
returns c = record { later = sequential-later; once = sequential-once }
