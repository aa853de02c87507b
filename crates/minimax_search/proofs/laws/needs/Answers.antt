use Rattle.minimax_search.proofs.NeedLemmas.{needs-met}
use Rattle.minimax_search.proofs.laws.needs.Goals as goal

pub returns : goal.returns
returns c m k most rows committee ballots up size = needs-met m k most rows committee ballots up size
