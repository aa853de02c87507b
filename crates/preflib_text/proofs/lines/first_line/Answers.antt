use Rattle.preflib_text.proofs.CutLemmas.{cut_at, cut_nowhere}
use Rattle.preflib_text.proofs.lines.first_line.Goals as goal

pub returns-in-Some-clause-line : goal.returns-in-Some-clause-line
returns-in-Some-clause-line c = (_, cut_at c.args.text.now c.in-Some.at c.in-Some.ensures.0.high c.in-Some.ensures.1 c.in-Some.ensures.0.before, c.without_return.ensures)

pub returns-in-None-clause-line : goal.returns-in-None-clause-line
returns-in-None-clause-line c = (_, cut_nowhere c.args.text.now c.requires c.in-None.ensures, c.without_return-in-None.ensures)
