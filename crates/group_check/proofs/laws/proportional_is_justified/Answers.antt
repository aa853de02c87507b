use Rattle.group_check.proofs.LawLemmas.{pjr-jr}
use Rattle.group_check.proofs.laws.proportional_is_justified.Goals as goal

pub returns : goal.returns
returns c = pjr-jr
