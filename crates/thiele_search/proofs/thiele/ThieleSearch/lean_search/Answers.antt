use Rattle.std.proofs.Common.{◌∙◌}
use Rattle.thiele_search.proofs.thiele.ThieleSearch.lean_search.Goals as goal

pub refutes-requires-clause-valid : goal.refutes-requires-clause-valid
refutes-requires-clause-valid g c = rw (c.in-Some-of.ensures.0 ∙ c.profile.ensures, c.self.view_is) c.requires.valued.election

pub refutes-requires-clause-is_node : goal.refutes-requires-clause-is_node
refutes-requires-clause-is_node g c = rw (c.in-Some-of.ensures.0 ∙ c.profile.ensures, c.self.view_is, c.in-Some-of.ensures.1, c.in-Some-of.ensures.2) c.requires.is_node
