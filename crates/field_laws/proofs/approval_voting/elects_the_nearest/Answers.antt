use Rattle.field_laws.proofs.Nearest.{nearest-decide}
use Rattle.field_laws.proofs.approval_voting.elects_the_nearest.Goals as goal

pub returns : goal.returns
returns c = nearest-decide
