use Rattle.vote_cli.proofs.PageLaws.{paged}
use Rattle.vote_cli.proofs.laws.paged.Goals as goal

pub returns : goal.returns
returns c = paged
