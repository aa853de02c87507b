use Rattle.field_laws.proofs.Greedy.{seqcc-justified}
use Rattle.field_laws.proofs.representation.sequential_chamberlin_courant_is_justified.Goals as goal

pub returns : goal.returns
returns c = seqcc-justified
