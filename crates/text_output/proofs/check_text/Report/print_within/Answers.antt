use Rattle.std.proofs.Common.{sym}
use Rattle.text_output.proofs.PrintingLemmas.{Prints-as, Prints-nothing}
use Rattle.text_output.proofs.ReportLemmas.{no_within}
use Rattle.text_output.proofs.check_text.Report.print_within.Goals as goal

pub returns-in-Jr : goal.returns-in-Jr
returns-in-Jr g c = Prints-as (sym (no_within c.args.self.now.names c.args.self.now.violation.now.property c.args.self.now.violation.now.within c.in-Jr.is)) (Prints-nothing _)
