use Rattle.std.proofs.Common.{rules}
use Rattle.vote_cli.proofs.answers.answer_share.Goals as goal

pub returns-in_err-write_shares-clause-wrote : goal.returns-in_err-write_shares-clause-wrote
returns-in_err-write_shares-clause-wrote g c = search rules

pub returns-clause-wrote : goal.returns-clause-wrote
returns-clause-wrote g c = search rules
