use Rattle.group_check.proofs.LawLemmas.{ejr-pjr}
use Rattle.group_check.proofs.laws.extended_is_proportional.Goals as goal

pub returns : goal.returns
returns c = ejr-pjr
