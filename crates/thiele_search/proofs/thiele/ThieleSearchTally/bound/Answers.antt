use Rattle.std.proofs.Common.{ap, ◌∙◌}
use Rattle.tie_walk.specs.Ceilings.{ceiling}
use Rattle.tie_walk.specs.Values.{Thiele, tally_value}
use Rattle.thiele_search.proofs.thiele.ThieleSearchTally.bound.Goals as goal

pub returns-clause-value : goal.returns-clause-value
returns-clause-value g c = c.bound.ensures.value ∙ ap (λ (x : Thiele). ceiling (tally_value x) x.election.m c.args.c c.args.set c.args.left) c.self.view_is
