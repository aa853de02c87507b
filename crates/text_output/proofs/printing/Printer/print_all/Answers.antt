use Rattle.std.proofs.Common.{[]}
use Rattle.std.proofs.lemmas.List.{at_drop_all}
use Rattle.std.specs.Prelude.{flat_map}
use Rattle.text_output.proofs.PrintingLemmas.{ends_with, flat_map-drop, next, passes_on, stops, Prints-nothing}
use Rattle.text_output.proofs.printing.Printer.print_all.Goals as goal

pub returns-in_err-print : goal.returns-in_err-print
returns-in_err-print g c =
    stops _ c.loop-piece.invariant (flat_map-drop (λ piece. piece.now) c.args.pieces.now c.loop-piece.piece-index (record { ref_ptr = (0, 0); now = [] }) c.loop-piece-test.true)
    c.print.result _ c.from_residual.result c.in_err-print.was c.from_residual.ensures.0 c.print.ensures

pub loop-piece-preserved : goal.loop-piece-preserved
loop-piece-preserved g c =
    next c.loop-piece.invariant (flat_map-drop (λ piece. piece.now) c.args.pieces.now c.loop-piece.piece-index (record { ref_ptr = (0, 0); now = [] }) c.loop-piece-test.true)
    c.print.result _ c.in_ok-print.was c.print.ensures

pub returns : goal.returns
returns g c = ends_with (passes_on (at_drop_all (flat_map (λ piece. piece.now)) c.args.pieces.now c.loop-piece.piece-index c.loop-piece-test.false) c.loop-piece.invariant) (Prints-nothing _)
