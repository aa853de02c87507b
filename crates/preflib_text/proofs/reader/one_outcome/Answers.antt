use Rattle.preflib_text.proofs.ReadLemmas.{outcome_is_one}
use Rattle.preflib_text.proofs.reader.one_outcome.Goals as goal

pub returns : goal.returns
returns c = outcome_is_one
