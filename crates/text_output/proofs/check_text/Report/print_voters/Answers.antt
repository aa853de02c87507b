use Rattle.std.proofs.Common.{◌∙◌, ap}
use Rattle.std.specs.Prelude.{decimal}
use Rattle.text_output.proofs.PrintingLemmas.{Prints-as}
use Rattle.text_output.proofs.ReportLemmas.{voters_parts}
use Rattle.text_output.proofs.check_text.Report.print_voters.Goals as goal

pub returns : goal.returns
returns g c =
    Prints-as
    (voters_parts c.as_slice.result.now c.as_bytes.result.now c.as_bytes-2.result.now _ _ c.as_slice.ensures
    (c.as_bytes.ensures.value ∙ c.format.ensures.text) (c.as_bytes-2.ensures.value ∙ c.format-2.ensures.text ∙ ap decimal c.voters.ensures.value)) c.print_all.ensures
