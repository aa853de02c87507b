use Rattle.std.proofs.Common.{refl, rules}
use Rattle.text_output.proofs.PrintingLemmas.{breaks_off, goes_on_all, SendsAll-by, SendsAll-cut}
use Rattle.vote_cli.proofs.elect_text.Listing.write_best.Goals as goal

pub returns-in_err-print_best : goal.returns-in_err-print_best
returns-in_err-print_best g c =
    SendsAll-cut c.new-printer.ensures.writer c.new-printer.ensures.nothing _ c.from_residual.ensures.0 (search rules)
    (breaks_off _ c.print_best.result _ c.from_residual.result c.in_err-print_best.was c.from_residual.ensures.0 refl c.print_best.ensures)

pub returns : goal.returns
returns g c =
    SendsAll-by c.new-printer.ensures.writer c.new-printer.ensures.nothing c.print.ensures.nothing (search rules)
    (goes_on_all c.print_best.result _ c.in_ok-print_best.was refl c.print_best.ensures (rw (c.page.ensures.names, c.page.ensures.limit) at c.print.ensures.printed))
