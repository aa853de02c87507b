use Rattle.std.proofs.Common.{rules}
use Rattle.text_output.proofs.printing.Printer.send.Goals as goal

pub returns-in_err-write_whole-clause-printed : goal.returns-in_err-write_whole-clause-printed
returns-in_err-write_whole-clause-printed g c = search rules

pub returns-clause-printed : goal.returns-clause-printed
returns-clause-printed g c = search rules
