use Rattle.std.proofs.Common.{ap, ◌∙◌}
use Rattle.text_output.specs.Steps.Numbers.{following_text}
use Rattle.text_output.proofs.PrintingLemmas.{next, starts, stops}
use Rattle.text_output.proofs.numbers.print_other_members.Goals as goal

pub loop-member-init : goal.loop-member-init
loop-member-init g c = starts _ (ap following_text (c.into_iter-member-iterator.ensures.into_iter_gives ∙ c.members-member-items.ensures.items))

pub returns-in_err-print_next : goal.returns-in_err-print_next
returns-in_err-print_next g c =
    stops _ c.loop-member.invariant (ap following_text c.in-Some.ensures.steps) c.print_next.result _ c.from_residual.result c.in_err-print_next.was c.from_residual.ensures.0 c.print_next.ensures

pub loop-member-preserved : goal.loop-member-preserved
loop-member-preserved g c = next c.loop-member.invariant (ap following_text c.in-Some.ensures.steps) c.print_next.result _ c.in_ok-print_next.was c.print_next.ensures
