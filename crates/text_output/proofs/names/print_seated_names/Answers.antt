use Rattle.std.proofs.Common.{ap}
use Rattle.text_output.specs.Steps.Names.{listed_names, names_in}
use Rattle.text_output.specs.Names.{seated_parties}
use Rattle.text_output.proofs.NameLemmas.{listed_all, seated_here, seated_past, seated_end}
use Rattle.text_output.proofs.PrintingLemmas.{ends_with, next, passes_on, starts, stops, Prints-nothing}
use Rattle.text_output.proofs.names.print_seated_names.Goals as goal

pub loop-i-init : goal.loop-i-init
loop-i-init g c = starts _ (listed_all (names_in c.args.names.now) (seated_parties c.args.seats.now))

pub returns-in_err-print_listed_name : goal.returns-in_err-print_listed_name
returns-in_err-print_listed_name g c =
    stops _ c.loop-i.invariant (seated_here c.loop-i.is_first (names_in c.args.names.now) c.args.seats.now c.loop-i.i c.loop-i-test.true c.if-seats-i-eq0.false)
    c.print_listed_name.result _ c.from_residual.result c.in_err-print_listed_name.was c.from_residual.ensures.0 c.print_listed_name.ensures

pub loop-i-preserved : goal.loop-i-preserved
loop-i-preserved g c =
    next c.loop-i.invariant (seated_here c.loop-i.is_first (names_in c.args.names.now) c.args.seats.now c.loop-i.i c.loop-i-test.true c.if-seats-i-eq0.false)
    c.print_listed_name.result _ c.in_ok-print_listed_name.was c.print_listed_name.ensures

pub loop-i-preserved-then-seats-i-eq0 : goal.loop-i-preserved-then-seats-i-eq0
loop-i-preserved-then-seats-i-eq0 g c =
    passes_on (ap (listed_names c.loop-i.is_first (names_in c.args.names.now)) (seated_past c.args.seats.now c.loop-i.i c.loop-i-test.true c.if-seats-i-eq0.true)) c.loop-i.invariant

pub returns : goal.returns
returns g c =
    ends_with (passes_on (seated_end c.loop-i.is_first (names_in c.args.names.now) c.args.seats.now c.loop-i.i c.loop-i-test.false) c.loop-i.invariant) (Prints-nothing _)
