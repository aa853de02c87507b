use Rattle.text_output.specs.Steps.Printing.{calls_of}
use Rattle.text_output.specs.Steps.Numbers.{following_text}
use Rattle.text_output.proofs.PrintingLemmas.{Underway}
use Rattle.text_output.proofs.numbers.print_other_members.Given as goal

-- the members so far were printed
abbrev pub invariant-loop-member : goal.invariant-loop-member
invariant-loop-member g l = Underway g.W.Sink.contents (calls_of g.W.Device.has_failed g.W.Sink.flushes) l.initial.printer l.printer (following_text l.member-iterator) (following_text l.fn.set)
