use Rattle.thiele_search.proofs.search.ThieleSearchNarrowing.root_value.Goals as goal

pub value-requires : goal.value-requires
value-requires g c = rw c.self.view_is c.requires.is_node.set_within
