use Rattle.std.proofs.Common.{◌∙◌, ap, sym, [], ◌∷◌, ◌++◌, append_assoc}
use Rattle.text_output.specs.Names.{beside, seated_parties}
use Rattle.text_output.specs.Text.{numbers_text}
use Rattle.vote_cli.specs.Listing.{allocation_line}
use Rattle.text_output.proofs.PrintingLemmas.{breaks_off, breaks_off_after, goes_on_after, Prints-ok, Prints-last}
use Rattle.vote_cli.proofs.listing.AllocationAnswer.print_line.Goals as goal

pub returns-in_err-print_seats : goal.returns-in_err-print_seats
returns-in_err-print_seats g c =
    let seats = c.seats-seats.result.now in
    let names = beside c.args.names.now (seated_parties seats) in
    breaks_off (names ++ 10 ∷ []) c.print_seats.result _ c.from_residual.result c.in_err-print_seats.was c.from_residual.ensures.0
    (ap (allocation_line c.args.names.now) (sym c.seats-seats.ensures) ∙ append_assoc (numbers_text seats) names (10 ∷ [])) c.print_seats.ensures

pub returns-in_err-print_beside_seats : goal.returns-in_err-print_beside_seats
returns-in_err-print_beside_seats g c =
    let seats = c.seats-seats.result.now in
    let names = beside c.args.names.now (seated_parties seats) in
    breaks_off_after (10 ∷ []) c.print_beside_seats.result _ c.from_residual-in_err-print_beside_seats.result c.in_err-print_beside_seats.was c.from_residual-in_err-print_beside_seats.ensures.0
    (sym (append_assoc (numbers_text seats) names (10 ∷ [])) ∙ ap (allocation_line c.args.names.now) c.seats-seats.ensures)
    (Prints-ok c.print_seats.result _ c.in_ok-print_seats.was c.print_seats.ensures) c.print_beside_seats.ensures

pub returns : goal.returns
returns g c =
    let numbers = Prints-ok c.print_seats.result _ c.in_ok-print_seats.was c.print_seats.ensures in
    Prints-last (ap (allocation_line c.args.names.now) (sym c.seats-seats.ensures))
    (goes_on_after c.print_beside_seats.result _ c.in_ok-print_beside_seats.was numbers c.print_beside_seats.ensures) c.print.ensures
