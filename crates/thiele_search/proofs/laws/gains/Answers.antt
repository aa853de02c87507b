use Rattle.ballot_base.specs.Increments.{increments}
use Rattle.tie_walk.specs.Values.{thiele_value}
use Rattle.tie_walk.proofs.Submodular.{thiele_rule-submodular}
use Rattle.thiele_search.proofs.WholeLemmas.{thiele-same}
use Rattle.thiele_search.proofs.GainLemmas.{node-gains}
use Rattle.thiele_search.proofs.laws.gains.Goals as goal

pub returns : goal.returns
returns c rule k rows m set free left committee size is_node whole =
    node-gains (thiele_value (increments rule k) rows) (thiele_rule-submodular rule k rows size) (thiele-same (increments rule k) rows) m set free left committee is_node whole
