use Rattle.std.proofs.Common.{◌∷◌}
use Rattle.std.proofs.lemmas.List.{at_drop_all}
use Rattle.std.specs.Prelude.{decimal, flat_map}
use Rattle.text_output.proofs.PrintingLemmas.{ends_with, flat_map-drop, next, passes_on, stops, Prints-nothing}
use Rattle.text_output.proofs.numbers.print_other_seats.Goals as goal

pub returns-in_err-print_next : goal.returns-in_err-print_next
returns-in_err-print_next g c =
    stops _ c.loop-n.invariant (flat_map-drop (λ n. 44 ∷ decimal n) c.args.seats.now c.loop-n.n-index 0 c.loop-n-test.true)
    c.print_next.result _ c.from_residual.result c.in_err-print_next.was c.from_residual.ensures.0 c.print_next.ensures

pub loop-n-preserved : goal.loop-n-preserved
loop-n-preserved g c =
    next c.loop-n.invariant (flat_map-drop (λ n. 44 ∷ decimal n) c.args.seats.now c.loop-n.n-index 0 c.loop-n-test.true) c.print_next.result _ c.in_ok-print_next.was c.print_next.ensures

pub returns : goal.returns
returns g c = ends_with (passes_on (at_drop_all (flat_map (λ n. 44 ∷ decimal n)) c.args.seats.now c.loop-n.n-index c.loop-n-test.false) c.loop-n.invariant) (Prints-nothing _)
