use Rattle.text_output.specs.Steps.Printing.{calls_of}
use Rattle.text_output.specs.Names.{names_text}
use Rattle.text_output.specs.Steps.Names.{listed_names, names_in}
use Rattle.text_output.proofs.PrintingLemmas.{Underway}
use Rattle.text_output.proofs.names.print_member_names.Given as goal

-- the names of the members so far were printed
abbrev pub invariant-loop-member : goal.invariant-loop-member
invariant-loop-member g l = Underway g.W.Sink.contents (calls_of g.W.Device.has_failed g.W.Sink.flushes) l.initial.printer l.printer
    (listed_names l.is_first (names_in l.fn.names) l.member-iterator) (names_text (names_in l.fn.names) l.fn.set)
