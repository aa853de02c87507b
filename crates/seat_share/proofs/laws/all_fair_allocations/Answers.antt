use Rattle.seat_share.proofs.AllocationLemmas.{contains-fair, fair-from_contains}
use Rattle.seat_share.proofs.laws.all_fair_allocations.Goals as goal

pub returns : goal.returns
returns c = λ method votes seats allocation. (fair-from_contains method votes seats allocation, contains-fair method votes seats allocation)
