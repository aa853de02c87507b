use Rattle.std.proofs.Common.{rules, sym, append-nil}
use Rattle.std.specs.Prelude.{flat_map}
use Rattle.text_output.proofs.PrintingLemmas.{Prints-last, Prints-ok, Sends-by}
use Rattle.text_output.proofs.printing.write_pieces.Goals as goal

pub returns : goal.returns
returns g c =
    let all = Prints-ok c.print_all.result _ c.in_ok-print_all.was c.print_all.ensures in
    let text = flat_map (λ piece. piece.now) c.args.pieces.now in
    Sends-by c.new-printer.ensures.writer c.new-printer.ensures.nothing c.send.ensures.nothing (search rules)
    (Prints-last (sym (append-nil text)) all c.send.ensures.printed)
