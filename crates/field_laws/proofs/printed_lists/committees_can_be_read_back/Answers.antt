use Rattle.field_laws.proofs.ReadBack.{committees-back}
use Rattle.field_laws.proofs.printed_lists.committees_can_be_read_back.Goals as goal

pub returns : goal.returns
returns c = committees-back
