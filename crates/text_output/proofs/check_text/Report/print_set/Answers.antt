use Rattle.std.proofs.Common.{sym, refl, ◌++◌, ◌∷◌, [], append_assoc}
use Rattle.text_output.specs.Names.{candidates_text}
use Rattle.text_output.proofs.PrintingLemmas.{breaks_off, breaks_off_after, goes_on_after, Prints-ok, Prints-last}
use Rattle.text_output.proofs.check_text.Report.print_set.Goals as goal

pub returns-in_err-print : goal.returns-in_err-print
returns-in_err-print g c =
    breaks_off (candidates_text c.args.self.now.names c.args.candidates ++ 10 ∷ []) c.print.result _ c.from_residual.result c.in_err-print.was c.from_residual.ensures.0
    (append_assoc c.args.words.now (candidates_text c.args.self.now.names c.args.candidates) (10 ∷ [])) c.print.ensures

pub returns-in_err-print_candidates : goal.returns-in_err-print_candidates
returns-in_err-print_candidates g c =
    breaks_off_after (10 ∷ []) c.print_candidates.result _ c.from_residual-in_err-print_candidates.result c.in_err-print_candidates.was c.from_residual-in_err-print_candidates.ensures.0
    (sym (append_assoc c.args.words.now (candidates_text c.args.self.now.names c.args.candidates) (10 ∷ [])))
    (Prints-ok c.print.result _ c.in_ok-print.was c.print.ensures) c.print_candidates.ensures

pub returns : goal.returns
returns g c =
    let words = Prints-ok c.print.result _ c.in_ok-print.was c.print.ensures in
    Prints-last refl (goes_on_after c.print_candidates.result _ c.in_ok-print_candidates.was words c.print_candidates.ensures) c.print-2.ensures
