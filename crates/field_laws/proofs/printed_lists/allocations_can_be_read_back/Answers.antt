use Rattle.field_laws.proofs.ReadBack.{allocations-back}
use Rattle.field_laws.proofs.printed_lists.allocations_can_be_read_back.Goals as goal

pub returns : goal.returns
returns c = allocations-back
