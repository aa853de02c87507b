use Rattle.preflib_text.proofs.ReadLemmas.{some_outcome_is}
use Rattle.preflib_text.proofs.reader.some_outcome.Goals as goal

pub returns : goal.returns
returns c = some_outcome_is
