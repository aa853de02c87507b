use Rattle.preflib_text.proofs.BallotLines.{one_cast}
use Rattle.preflib_text.proofs.ballot.one_ballot_line.Goals as goal

pub returns : goal.returns
returns c = one_cast
