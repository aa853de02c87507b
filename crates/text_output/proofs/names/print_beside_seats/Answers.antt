use Rattle.std.proofs.Common.{sym, ◌∙◌}
use Rattle.text_output.specs.Names.{names_text, seated_parties}
use Rattle.text_output.specs.Steps.Names.{names_in}
use Rattle.text_output.proofs.NameLemmas.{beside-unwanted, beside-wanted}
use Rattle.text_output.proofs.PrintingLemmas.{breaks_off, goes_on, Prints-as, Prints-nothing}
use Rattle.text_output.proofs.names.print_beside_seats.Goals as goal

pub returns-then-not-are_wanted : goal.returns-then-not-are_wanted
returns-then-not-are_wanted g c =
    Prints-as (sym (beside-unwanted c.args.names.now (seated_parties c.args.seats.now) (sym c.are_wanted.ensures ∙ c.if-not-are_wanted.true))) (Prints-nothing _)

pub returns-in_err-print : goal.returns-in_err-print
returns-in_err-print g c =
    breaks_off (names_text (names_in c.args.names.now) (seated_parties c.args.seats.now)) c.print.result _ c.from_residual.result c.in_err-print.was c.from_residual.ensures.0
    (beside-wanted c.args.names.now (seated_parties c.args.seats.now) (sym c.are_wanted.ensures ∙ c.if-not-are_wanted.false)) c.print.ensures

pub returns : goal.returns
returns g c =
    goes_on c.print.result _ c.in_ok-print.was (beside-wanted c.args.names.now (seated_parties c.args.seats.now) (sym c.are_wanted.ensures ∙ c.if-not-are_wanted.false))
    c.print.ensures c.print_seated_names.ensures
