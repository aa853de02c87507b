use Rattle.std.proofs.Common.{◌∙◌, ap}
use Rattle.text_output.specs.Steps.Numbers.{following_text}
use Rattle.text_output.specs.Text.{numbers_text}
use Rattle.text_output.proofs.NumberLemmas.{numbers_text-cons}
use Rattle.text_output.proofs.PrintingLemmas.{breaks_off, goes_on}
use Rattle.text_output.proofs.numbers.print_members.Goals as goal

pub returns-in_err-print_number : goal.returns-in_err-print_number
returns-in_err-print_number g c =
    breaks_off (following_text c.in-Some.parts.1) c.print_number.result _ c.from_residual.result c.in_err-print_number.was c.from_residual.ensures.0
    (ap numbers_text c.in-Some.ensures ∙ numbers_text-cons c.in-Some.parts.0 c.in-Some.parts.1) c.print_number.ensures

pub returns : goal.returns
returns g c =
    goes_on c.print_number.result _ c.in_ok-print_number.was (ap numbers_text c.in-Some.ensures ∙ numbers_text-cons c.in-Some.parts.0 c.in-Some.parts.1)
    c.print_number.ensures c.print_other_members.ensures
