use Rattle.group_check.proofs.LawLemmas.{ejrplus-ejr}
use Rattle.group_check.proofs.laws.extended_plus_is_extended.Goals as goal

pub returns : goal.returns
returns c = ejrplus-ejr
