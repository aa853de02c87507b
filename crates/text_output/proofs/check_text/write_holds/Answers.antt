use Rattle.std.proofs.Common.{rules, sym, append-nil}
use Rattle.text_output.specs.CheckText.{holds_text}
use Rattle.text_output.proofs.PrintingLemmas.{Prints-ok, PrintsAll-last, SendsAll-by}
use Rattle.text_output.proofs.check_text.write_holds.Goals as goal

pub returns : goal.returns
returns g c =
    let all = Prints-ok c.print.result _ c.in_ok-print.was c.print.ensures in
    SendsAll-by c.new-printer.ensures.writer c.new-printer.ensures.nothing c.finish.ensures.nothing (search rules) (PrintsAll-last (sym (append-nil holds_text)) all c.finish.ensures.printed)
