use Rattle.std.proofs.Common.{ap, sym, ◌∙◌}
use Rattle.ballot_base.specs.Ballots.{Row}
use Rattle.text_output.specs.CheckText.{group_text}
use Rattle.text_output.proofs.PrintingLemmas.{next, passes_on, starts, stops}
use Rattle.text_output.proofs.ReportLemmas.{group_text-in, group_text-out}
use Rattle.text_output.proofs.check_text.Report.print_group.Goals as goal

pub loop-ballot-init : goal.loop-ballot-init
loop-ballot-init g c =
    let s = c.args.self.now in
    starts _ (ap (group_text s.names s.violation.now) (c.into_iter-ballot-iterator.ensures.into_iter_gives ∙ c.ballots-ballot-items.ensures.rows))

pub returns-in_err-print_ballot : goal.returns-in_err-print_ballot
returns-in_err-print_ballot g c =
    let s = c.args.self.now in
    let row : Row = (c.in-Some.ballot, c.in-Some.count) in
    stops _ c.loop-ballot.invariant (group_text-in s.names s.violation.now _ row _ c.in-Some.ensures.steps (sym c.contains.ensures ∙ c.if-not-contains.false))
    c.print_ballot.result _ c.from_residual.result c.in_err-print_ballot.was c.from_residual.ensures.0 c.print_ballot.ensures

pub loop-ballot-preserved : goal.loop-ballot-preserved
loop-ballot-preserved g c =
    let s = c.args.self.now in
    let row : Row = (c.in-Some.ballot, c.in-Some.count) in
    next c.loop-ballot.invariant (group_text-in s.names s.violation.now _ row _ c.in-Some.ensures.steps (sym c.contains.ensures ∙ c.if-not-contains.false))
    c.print_ballot.result _ c.in_ok-print_ballot.was c.print_ballot.ensures

pub loop-ballot-preserved-then-not-contains : goal.loop-ballot-preserved-then-not-contains
loop-ballot-preserved-then-not-contains g c =
    let s = c.args.self.now in
    let row : Row = (c.in-Some.ballot, c.in-Some.count) in
    passes_on (group_text-out s.names s.violation.now _ row _ c.in-Some.ensures.steps (sym c.contains.ensures ∙ c.if-not-contains.true)) c.loop-ballot.invariant
