use Rattle.std.proofs.Common.{sym, refl, ◌++◌, append_assoc}
use Rattle.std.specs.Prelude.{codes}
use Rattle.text_output.specs.Names.{candidates_text}
use Rattle.text_output.specs.Text.{line}
use Rattle.text_output.specs.CheckText.{level_text, within_text}
use Rattle.text_output.proofs.PrintingLemmas.{breaks_off, breaks_off_after, goes_on_after, Prints-ok, Prints-last}
use Rattle.text_output.proofs.check_text.Report.print_claim.Goals as goal

pub returns-in_err-print_level : goal.returns-in_err-print_level
returns-in_err-print_level g c =
    let v = c.args.self.now.violation.now in
    breaks_off (line (codes "candidates " ++ candidates_text c.args.self.now.names v.shared) ++ within_text c.args.self.now.names v.property v.within) c.print_level.result _ c.from_residual.result c.in_err-print_level.was c.from_residual.ensures.0
    (append_assoc (level_text v.property v.level) (line (codes "candidates " ++ candidates_text c.args.self.now.names v.shared)) (within_text c.args.self.now.names v.property v.within)) c.print_level.ensures

pub returns-in_err-print_set : goal.returns-in_err-print_set
returns-in_err-print_set g c =
    let v = c.args.self.now.violation.now in
    breaks_off_after (within_text c.args.self.now.names v.property v.within) c.print_set.result _ c.from_residual-in_err-print_set.result c.in_err-print_set.was c.from_residual-in_err-print_set.ensures.0
    (sym (append_assoc (level_text v.property v.level) (line (codes "candidates " ++ candidates_text c.args.self.now.names v.shared)) (within_text c.args.self.now.names v.property v.within)))
    (Prints-ok c.print_level.result _ c.in_ok-print_level.was c.print_level.ensures) c.print_set.ensures

pub returns : goal.returns
returns g c =
    let level = Prints-ok c.print_level.result _ c.in_ok-print_level.was c.print_level.ensures in
    Prints-last refl (goes_on_after c.print_set.result _ c.in_ok-print_set.was level c.print_set.ensures) c.print_within.ensures
