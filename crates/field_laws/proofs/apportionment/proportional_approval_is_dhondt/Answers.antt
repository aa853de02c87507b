use Rattle.field_laws.proofs.SharedSeats.{pav-shares}
use Rattle.field_laws.proofs.apportionment.proportional_approval_is_dhondt.Goals as goal

pub returns : goal.returns
returns c = pav-shares
