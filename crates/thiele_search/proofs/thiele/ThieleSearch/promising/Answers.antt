use Rattle.thiele_search.proofs.GainLemmas.{gain-same, gains-narrow}
use Rattle.thiele_search.proofs.thiele.ThieleSearch.promising.Goals as goal

pub returns : goal.returns
returns g c =
    let tally = c.args.self.now in
    let node = c.args.node.now in
    let high = gain-same tally node.set node.free c.args.gains.now c.requires.valued.election c.requires.is_node c.requires.gains in
    gains-narrow tally node.set node.free node.left c.args.least c.args.value c.args.gains.now c.requires.valued c.requires.is_node high c.saturating_sub.result c.saturating_sub.ensures c.members_for.result c.members_for.ensures
