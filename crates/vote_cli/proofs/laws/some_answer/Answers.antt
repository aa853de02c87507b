use Rattle.vote_cli.proofs.AnswerLaws.{some_answer}
use Rattle.vote_cli.proofs.laws.some_answer.Goals as goal

pub returns : goal.returns
returns c = some_answer
