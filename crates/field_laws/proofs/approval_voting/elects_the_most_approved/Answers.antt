use Rattle.field_laws.proofs.Approvals.{approvals-decide}
use Rattle.field_laws.proofs.approval_voting.elects_the_most_approved.Goals as goal

pub returns : goal.returns
returns c = approvals-decide
