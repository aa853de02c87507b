use Rattle.thiele_search.proofs.GainLemmas.{valued-small}
use Rattle.thiele_search.proofs.search.ThieleSearchNarrowing.whole_value.Goals as goal

pub returns-clause-value : goal.returns-clause-value
returns-clause-value g c = c.requires.valued.value_is

pub returns-clause-small : goal.returns-clause-small
returns-clause-small g c = valued-small c.args.self.now c.args._node.now.set c.args.value c.requires.valued
