use Rattle.text_output.specs.Steps.Printing.{calls_of}
use Rattle.text_output.specs.Names.{names_text, seated_parties}
use Rattle.text_output.specs.Steps.Names.{listed_names, names_in}
use Rattle.text_output.proofs.NameLemmas.{seated_from}
use Rattle.text_output.proofs.PrintingLemmas.{Underway}
use Rattle.text_output.proofs.names.print_seated_names.Given as goal

-- the names of the parties so far were printed
abbrev pub invariant-loop-i : goal.invariant-loop-i
invariant-loop-i g l = Underway g.W.Sink.contents (calls_of g.W.Device.has_failed g.W.Sink.flushes) l.initial.printer l.printer
    (listed_names l.is_first (names_in l.fn.names) (seated_from l.fn.seats l.i)) (names_text (names_in l.fn.names) (seated_parties l.fn.seats))
