use Rattle.std.proofs.Common.{drop}
use Rattle.text_output.specs.Steps.Printing.{calls_of}
use Rattle.text_output.specs.Steps.Numbers.{following_text}
use Rattle.text_output.proofs.PrintingLemmas.{Underway}
use Rattle.text_output.proofs.numbers.print_other_seats.Given as goal

-- the seats so far were printed
abbrev pub invariant-loop-n : goal.invariant-loop-n
invariant-loop-n g l = Underway g.W.Sink.contents (calls_of g.W.Device.has_failed g.W.Sink.flushes) l.initial.printer l.printer (following_text (drop l.n-index l.fn.seats)) (following_text l.fn.seats)
