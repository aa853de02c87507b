use Rattle.std.proofs.Common.{ap}
use Rattle.text_output.specs.Names.{called}
use Rattle.text_output.specs.Steps.Names.{listed_name, names_in}
use Rattle.text_output.proofs.PrintingLemmas.{breaks_off, goes_on}
use Rattle.text_output.proofs.names.print_listed_name.Goals as goal

pub returns-in_err-print : goal.returns-in_err-print
returns-in_err-print g c =
    let names = names_in c.args.names.now in
    breaks_off (called names c.args.n) c.print.result _ c.from_residual.result c.in_err-print.was c.from_residual.ensures.0
    (ap (λ b. listed_name b names c.args.n) c.if-is_first.false) c.print.ensures

pub returns : goal.returns
returns g c =
    let names = names_in c.args.names.now in
    goes_on c.print.result _ c.in_ok-print.was (ap (λ b. listed_name b names c.args.n) c.if-is_first.false) c.print.ensures c.print_name-2.ensures
