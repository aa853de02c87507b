use Rattle.vote_cli.proofs.RestLaws.{rest_fetched}
use Rattle.vote_cli.proofs.laws.rest.Goals as goal

pub returns : goal.returns
returns c = rest_fetched
