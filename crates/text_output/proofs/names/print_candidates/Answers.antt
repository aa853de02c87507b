use Rattle.std.proofs.Common.{ap, append_assoc, append-nil, refl, sym, [], ◌∷◌, ◌++◌, ◌∙◌}
use Rattle.text_output.specs.Names.{beside, names_text}
use Rattle.text_output.specs.Steps.Names.{names_in}
use Rattle.text_output.specs.Text.{numbers_text}
use Rattle.text_output.proofs.NameLemmas.{beside-unwanted, beside-wanted}
use Rattle.text_output.proofs.PrintingLemmas.{breaks_off, breaks_off_after, goes_on_after, Prints-as, Prints-last, Prints-ok}
use Rattle.text_output.proofs.names.print_candidates.Goals as goal

pub returns-in_err-print_members : goal.returns-in_err-print_members
returns-in_err-print_members g c =
    breaks_off (beside c.args.names.now c.args.members) c.print_members.result _ c.from_residual.result c.in_err-print_members.was c.from_residual.ensures.0 refl c.print_members.ensures

pub returns-then-not-are_wanted : goal.returns-then-not-are_wanted
returns-then-not-are_wanted g c =
    let none = beside-unwanted c.args.names.now c.args.members (sym c.are_wanted.ensures ∙ c.if-not-are_wanted.true) in
    Prints-as (sym (append-nil _) ∙ ap (λ l. numbers_text c.args.members ++ l) (sym none))
    (Prints-ok c.print_members.result _ c.in_ok-print_members.was c.print_members.ensures)

pub returns-in_err-print : goal.returns-in_err-print
returns-in_err-print g c =
    let some = beside-wanted c.args.names.now c.args.members (sym c.are_wanted.ensures ∙ c.if-not-are_wanted.false) in
    breaks_off_after (names_text (names_in c.args.names.now) c.args.members) c.print.result _ c.from_residual-in_err-print.result c.in_err-print.was c.from_residual-in_err-print.ensures.0
    (ap (λ l. numbers_text c.args.members ++ l) (sym some))
    (Prints-ok c.print_members.result _ c.in_ok-print_members.was c.print_members.ensures) c.print.ensures

pub returns : goal.returns
returns g c =
    let some = beside-wanted c.args.names.now c.args.members (sym c.are_wanted.ensures ∙ c.if-not-are_wanted.false) in
    let numbers = Prints-ok c.print_members.result _ c.in_ok-print_members.was c.print_members.ensures in
    Prints-last
    (ap (λ l. numbers_text c.args.members ++ l) some
    ∙ sym (append_assoc (numbers_text c.args.members) (9 ∷ []) (names_text (names_in c.args.names.now) c.args.members)))
    (goes_on_after c.print.result _ c.in_ok-print.was numbers c.print.ensures) c.print_member_names.ensures
