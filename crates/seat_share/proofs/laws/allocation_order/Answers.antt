use Rattle.seat_share.proofs.AllocationLemmas.{allocations-rise, allocations-once}
use Rattle.seat_share.proofs.laws.allocation_order.Goals as goal

pub returns : goal.returns
returns c = record { later = allocations-rise; once = allocations-once }
