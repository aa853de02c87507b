use Rattle.std.proofs.Common.{rules, ap, [], ◌++◌, append_assoc, append-nil, sym}
use Rattle.ballot_base.specs.Ballots.{voter_count}
use Rattle.text_output.specs.CheckText.{claim_text, voters_text, group_text}
use Rattle.text_output.proofs.PrintingLemmas.{breaks_off, breaks_off_after, goes_on_after, Prints-ok, PrintsAll-last, SendsAll-by, SendsAll-cut}
use Rattle.text_output.proofs.check_text.Report.write.Goals as goal

pub returns-in_err-print_claim : goal.returns-in_err-print_claim
returns-in_err-print_claim g c =
    let s = c.args.self.now in
    let v = s.violation.now in
    let rows = s.profile.now.rows in
    SendsAll-cut c.new-printer.ensures.writer c.new-printer.ensures.nothing _ c.from_residual.ensures.0 (search rules)
    (breaks_off _ c.print_claim.result _ c.from_residual.result c.in_err-print_claim.was c.from_residual.ensures.0
    (append_assoc (claim_text s.names v) (voters_text v.voters (voter_count rows)) (group_text s.names v rows)) c.print_claim.ensures)

pub returns-in_err-print_voters : goal.returns-in_err-print_voters
returns-in_err-print_voters g c =
    let s = c.args.self.now in
    let v = s.violation.now in
    let rows = s.profile.now.rows in
    let claim = Prints-ok c.print_claim.result _ c.in_ok-print_claim.was c.print_claim.ensures in
    SendsAll-cut c.new-printer.ensures.writer c.new-printer.ensures.nothing _ c.from_residual-in_err-print_voters.ensures.0 (search rules)
    (breaks_off_after (group_text s.names v rows) c.print_voters.result _ c.from_residual-in_err-print_voters.result c.in_err-print_voters.was c.from_residual-in_err-print_voters.ensures.0
    (sym (append_assoc (claim_text s.names v) (voters_text v.voters (voter_count rows)) (group_text s.names v rows))) claim c.print_voters.ensures)

pub returns-in_err-print_group : goal.returns-in_err-print_group
returns-in_err-print_group g c =
    let s = c.args.self.now in
    let v = s.violation.now in
    let claim = Prints-ok c.print_claim.result _ c.in_ok-print_claim.was c.print_claim.ensures in
    let voters = goes_on_after c.print_voters.result _ c.in_ok-print_voters.was claim c.print_voters.ensures in
    SendsAll-cut c.new-printer.ensures.writer c.new-printer.ensures.nothing _ c.from_residual-in_err-print_group.ensures.0 (search rules)
    (breaks_off_after [] c.print_group.result _ c.from_residual-in_err-print_group.result c.in_err-print_group.was c.from_residual-in_err-print_group.ensures.0
    (ap (λ l. (claim_text s.names v ++ voters_text v.voters (voter_count s.profile.now.rows)) ++ l) (append-nil _)) voters c.print_group.ensures)

pub returns : goal.returns
returns g c =
    let claim = Prints-ok c.print_claim.result _ c.in_ok-print_claim.was c.print_claim.ensures in
    let voters = goes_on_after c.print_voters.result _ c.in_ok-print_voters.was claim c.print_voters.ensures in
    let all = goes_on_after c.print_group.result _ c.in_ok-print_group.was voters c.print_group.ensures in
    SendsAll-by c.new-printer.ensures.writer c.new-printer.ensures.nothing c.finish.ensures.nothing (search rules)
    (PrintsAll-last (sym (append-nil _)) all c.finish.ensures.printed)
