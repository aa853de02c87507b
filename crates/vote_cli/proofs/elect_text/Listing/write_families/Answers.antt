use Rattle.std.proofs.Common.{rules}
use Rattle.text_output.proofs.PrintingLemmas.{SendsAll-by}
use Rattle.vote_cli.proofs.elect_text.Listing.write_families.Goals as goal

pub returns : goal.returns
returns g c =
    SendsAll-by c.new-printer.ensures.writer c.new-printer.ensures.nothing c.print.ensures.nothing (search rules)
    (rw (c.page.ensures.names, c.page.ensures.limit, c.new-winners.ensures, c.new-families.ensures) at c.print.ensures.printed)
