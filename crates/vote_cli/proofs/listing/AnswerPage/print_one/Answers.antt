use Rattle.std.proofs.Common.{sym, append-nil}
use Rattle.text_output.proofs.PrintingLemmas.{goes_on}
use Rattle.vote_cli.proofs.listing.AnswerPage.print_one.Goals as goal

pub returns-then-is_sent_after : goal.returns-then-is_sent_after
returns-then-is_sent_after g c = goes_on c.print_line.result _ c.in_ok-print_line.was (sym (append-nil _)) c.print_line.ensures c.send.ensures.printed
