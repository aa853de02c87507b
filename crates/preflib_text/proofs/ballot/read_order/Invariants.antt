use Rattle.std.proofs.Common.{length}
use Rattle.preflib_text.specs.Steps.Marks.{no_marks, IsReadOn}
use Rattle.preflib_text.specs.declared.ballot.OrderPlace.TheVariants.{Order}
use Rattle.preflib_text.proofs.ballot.read_order.Given as goal

abbrev pub invariant-loop-n : goal.invariant-loop-n
invariant-loop-n l = IsReadOn l.terms.m l.terms.taking Order l.text no_marks l.place l.rest l.marks

abbrev pub decreases-loop-n : goal.decreases-loop-n
decreases-loop-n l = length l.rest
