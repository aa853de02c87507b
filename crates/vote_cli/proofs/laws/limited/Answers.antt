use Rattle.vote_cli.proofs.PageLaws.{limited}
use Rattle.vote_cli.proofs.laws.limited.Goals as goal

pub returns : goal.returns
returns c = limited
