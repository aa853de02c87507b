use Rattle.field_laws.proofs.Deserved.{cc-justified}
use Rattle.field_laws.proofs.representation.chamberlin_courant_is_justified.Goals as goal

pub returns : goal.returns
returns c = cc-justified
