use Rattle.text_output.specs.Steps.Printing.{calls_of}
use Rattle.text_output.specs.CheckText.{group_text}
use Rattle.text_output.proofs.PrintingLemmas.{Underway}
use Rattle.text_output.proofs.check_text.Report.print_group.Given as goal

-- the rows so far were printed
abbrev pub invariant-loop-ballot : goal.invariant-loop-ballot
invariant-loop-ballot g l = Underway g.W.Sink.contents (calls_of g.W.Device.has_failed g.W.Sink.flushes) l.initial.printer l.printer
    (group_text l.fn.self.names l.fn.self.violation.now l.ballot-iterator) (group_text l.fn.self.names l.fn.self.violation.now l.fn.self.profile.now.rows)
