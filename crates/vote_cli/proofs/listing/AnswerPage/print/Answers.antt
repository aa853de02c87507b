use Rattle.std.proofs.Common.{refl, sym, append-nil, []}
use Rattle.vote_cli.specs.Listing.{answers_text}
use Rattle.text_output.proofs.PrintingLemmas.{breaks_off, breaks_off_after, goes_on_after, PrintsAll-broken, PrintsAll-last, Prints-ok}
use Rattle.vote_cli.proofs.listing.AnswerPage.print.Goals as goal

pub returns-in_err-send-clause-printed : goal.returns-in_err-send-clause-printed
returns-in_err-send-clause-printed g c =
    PrintsAll-broken c.from_residual.result c.from_residual.ensures.0
    (breaks_off (answers_text (g.A.Answer.Answer.line_of c.args.self.now.names.now) c.args.self.now.limit (g.A.Answers.left c.args.answers.now)) c.send.result _ c.from_residual.result c.in_err-send.was c.from_residual.ensures.0
    refl c.send.ensures.printed)

pub returns-in_err-print_all-clause-printed : goal.returns-in_err-print_all-clause-printed
returns-in_err-print_all-clause-printed g c =
    let sent = Prints-ok c.send.result _ c.in_ok-send.was c.send.ensures.printed in
    PrintsAll-broken c.from_residual-in_err-print_all.result c.from_residual-in_err-print_all.ensures.0
    (breaks_off_after [] c.print_all.result _ c.from_residual-in_err-print_all.result c.in_err-print_all.was c.from_residual-in_err-print_all.ensures.0
    (append-nil _) sent c.print_all.ensures)

pub returns-clause-printed : goal.returns-clause-printed
returns-clause-printed g c =
    let sent = Prints-ok c.send.result _ c.in_ok-send.was c.send.ensures.printed in
    let listed = goes_on_after c.print_all.result _ c.in_ok-print_all.was sent c.print_all.ensures in
    PrintsAll-last (sym (append-nil _)) listed c.finish.ensures.printed
