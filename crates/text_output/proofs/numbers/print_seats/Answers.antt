use Rattle.std.proofs.Common.{◌-◌, ◌∙◌, ap, length, get_or, take, drop}
use Rattle.text_output.specs.Steps.Numbers.{following_text}
use Rattle.text_output.specs.Text.{numbers_text}
use Rattle.text_output.proofs.NumberLemmas.{first_and_others, numbers_text-cons}
use Rattle.text_output.proofs.PrintingLemmas.{breaks_off, goes_on}
use Rattle.text_output.proofs.numbers.print_seats.Goals as goal

pub returns-in_err-print_number : goal.returns-in_err-print_number
returns-in_err-print_number g c =
    let seats = c.args.seats.now in
    let others = take (length seats - 1) (drop 1 seats) in
    breaks_off (following_text others) c.print_number.result _ c.from_residual.result c.in_err-print_number.was c.from_residual.ensures.0
    (ap numbers_text (first_and_others seats c.in-len1-up.len_at_least) ∙ numbers_text-cons (get_or seats 0 0) others) c.print_number.ensures

pub returns : goal.returns
returns g c =
    let seats = c.args.seats.now in
    let others = take (length seats - 1) (drop 1 seats) in
    goes_on c.print_number.result _ c.in_ok-print_number.was
    (ap numbers_text (first_and_others seats c.in-len1-up.len_at_least) ∙ numbers_text-cons (get_or seats 0 0) others)
    c.print_number.ensures c.print_other_seats.ensures
