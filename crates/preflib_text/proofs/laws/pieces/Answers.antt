use Rattle.preflib_text.proofs.PieceLemmas.{told_once, told_some, told_everywhere}
use Rattle.preflib_text.proofs.ReadLemmas.{lacks_short}
use Rattle.preflib_text.proofs.laws.pieces.Goals as goal

pub returns-clause-one : goal.returns-clause-one
returns-clause-one c = told_once

pub returns-clause-every : goal.returns-clause-every
returns-clause-every c = told_everywhere

pub returns-clause-memory : goal.returns-clause-memory
returns-clause-memory c = lacks_short

pub returns-clause-some : goal.returns-clause-some
returns-clause-some c = told_some
