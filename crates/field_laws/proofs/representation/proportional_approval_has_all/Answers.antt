use Rattle.field_laws.proofs.Deserved.{pav-all}
use Rattle.field_laws.proofs.representation.proportional_approval_has_all.Goals as goal

pub returns : goal.returns
returns c = pav-all
