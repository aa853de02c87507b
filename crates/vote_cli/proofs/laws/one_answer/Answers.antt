use Rattle.vote_cli.proofs.AnswerLaws.{one_answer}
use Rattle.vote_cli.proofs.laws.one_answer.Goals as goal

pub returns : goal.returns
returns c = one_answer
