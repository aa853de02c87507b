use Rattle.std.proofs.Common.{sym, ap, ◌∙◌, ◌++◌}
use Rattle.std.specs.Prelude.{codes}
use Rattle.text_output.specs.Names.{candidates_text}
use Rattle.text_output.specs.Text.{line}
use Rattle.text_output.proofs.PrintingLemmas.{breaks_off, goes_on}
use Rattle.text_output.proofs.ReportLemmas.{row_parts}
use Rattle.text_output.proofs.check_text.Report.print_ballot.Goals as goal

pub returns-in_err-print : goal.returns-in_err-print
returns-in_err-print g c =
    let list = line (codes ": " ++ candidates_text c.args.self.now.names c.args.ballot) in
    breaks_off list c.print.result _ c.from_residual.result c.in_err-print.was c.from_residual.ensures.0
    (row_parts c.args.self.now.names c.args.ballot c.args.count ∙ ap (λ digits. digits ++ list) (sym (c.as_bytes.ensures.value ∙ c.format.ensures.text))) c.print.ensures

pub returns : goal.returns
returns g c =
    let list = line (codes ": " ++ candidates_text c.args.self.now.names c.args.ballot) in
    goes_on c.print.result _ c.in_ok-print.was (row_parts c.args.self.now.names c.args.ballot c.args.count ∙ ap (λ digits. digits ++ list) (sym (c.as_bytes.ensures.value ∙ c.format.ensures.text)))
    c.print.ensures c.print_set.ensures
