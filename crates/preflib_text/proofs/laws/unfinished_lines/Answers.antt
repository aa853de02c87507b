use Rattle.preflib_text.specs.Pieces.{unfinished_line}
use Rattle.preflib_text.proofs.PieceLemmas.{lines_all, one_line, lines_next, fits}
use Rattle.preflib_text.proofs.laws.unfinished_lines.Goals as goal

pub returns-clause-all : goal.returns-clause-all
returns-clause-all c = lines_all

pub returns-clause-one : goal.returns-clause-one
returns-clause-one c = one_line

pub returns-clause-next : goal.returns-clause-next
returns-clause-next c = lines_next

pub returns-clause-fits : goal.returns-clause-fits
returns-clause-fits c bytes = fits (unfinished_line bytes)
