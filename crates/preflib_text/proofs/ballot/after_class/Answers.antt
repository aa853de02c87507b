use Rattle.preflib_text.proofs.ListedNumbers.{comma_passed}
use Rattle.preflib_text.proofs.ballot.after_class.Goals as goal

pub returns-in-Some-clause-order : goal.returns-in-Some-clause-order
returns-in-Some-clause-order c = comma_passed c.args.text.now c.in-Some.rest.now c.in-Some.ensures
