use Rattle.std.proofs.Common.{◌≡◌, true, length}
use Rattle.preflib_text.specs.Steps.Marks.{is_past, IsReadOn}
use Rattle.preflib_text.specs.declared.ballot.OrderPlace.TheVariants.{Class}
use Rattle.preflib_text.proofs.ballot.read_singles.Given as goal

abbrev pub invariant-loop-n : goal.invariant-loop-n
invariant-loop-n l = record {
  read : IsReadOn l.terms.m l.fn.terms.taking Class l.text l.fn.marks Class l.rest l.marks;
  past : is_past l.fn.terms.taking l.marks.classes l.marks.before ≡ true;
}

abbrev pub decreases-loop-n : goal.decreases-loop-n
decreases-loop-n l = length l.rest
