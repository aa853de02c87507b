use Rattle.std.proofs.Common.{ap, ◌∙◌, true}
use Rattle.text_output.specs.Steps.Names.{listed_names, names_in}
use Rattle.text_output.proofs.NameLemmas.{listed_all, listed_first}
use Rattle.text_output.proofs.PrintingLemmas.{next, starts, stops}
use Rattle.text_output.proofs.names.print_member_names.Goals as goal

pub loop-member-init : goal.loop-member-init
loop-member-init g c =
    starts _ (ap (listed_names true (names_in c.args.names.now)) (c.into_iter-member-iterator.ensures.into_iter_gives ∙ c.members-member-items.ensures.items) ∙ listed_all (names_in c.args.names.now) c.args.set)

pub returns-in_err-print_listed_name : goal.returns-in_err-print_listed_name
returns-in_err-print_listed_name g c =
    stops _ c.loop-member.invariant (listed_first c.loop-member.is_first (names_in c.args.names.now) c.from.result c.in-Some.member c.loop-member.member-iterator c.next.new.self c.in-Some.ensures.steps c.from.ensures)
    c.print_listed_name.result _ c.from_residual.result c.in_err-print_listed_name.was c.from_residual.ensures.0 c.print_listed_name.ensures

pub loop-member-preserved : goal.loop-member-preserved
loop-member-preserved g c =
    next c.loop-member.invariant (listed_first c.loop-member.is_first (names_in c.args.names.now) c.from.result c.in-Some.member c.loop-member.member-iterator c.next.new.self c.in-Some.ensures.steps c.from.ensures)
    c.print_listed_name.result _ c.in_ok-print_listed_name.was c.print_listed_name.ensures
