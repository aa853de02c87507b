use Rattle.std.proofs.Common.{drop}
use Rattle.std.specs.Prelude.{flat_map}
use Rattle.text_output.specs.Steps.Printing.{calls_of}
use Rattle.text_output.proofs.PrintingLemmas.{Underway}
use Rattle.text_output.proofs.printing.Printer.print_all.Given as goal

-- the pieces so far were printed
abbrev pub invariant-loop-piece : goal.invariant-loop-piece
invariant-loop-piece g l = Underway g.W.Sink.contents (calls_of g.W.Device.has_failed g.W.Sink.flushes) l.initial.self l.self
    (flat_map (λ piece. piece.now) (drop l.piece-index l.fn.pieces)) (flat_map (λ piece. piece.now) l.fn.pieces)
