use Rattle.std.proofs.Common.{refl, rules}
use Rattle.text_output.proofs.PrintingLemmas.{breaks_off, goes_on_all, SendsAll-by, SendsAll-cut}
use Rattle.vote_cli.proofs.share_text.write_shares.Goals as goal

pub returns-in_err-print_header : goal.returns-in_err-print_header
returns-in_err-print_header g c =
    SendsAll-cut c.new-printer.ensures.writer c.new-printer.ensures.nothing _ c.from_residual.ensures.0 (search rules)
    (breaks_off _ c.print_header.result _ c.from_residual.result c.in_err-print_header.was c.from_residual.ensures.0 refl c.print_header.ensures)

pub returns : goal.returns
returns g c =
    SendsAll-by c.new-printer.ensures.writer c.new-printer.ensures.nothing c.print.ensures.nothing (search rules)
    (goes_on_all c.print_header.result _ c.in_ok-print_header.was refl c.print_header.ensures c.print.ensures.printed)
