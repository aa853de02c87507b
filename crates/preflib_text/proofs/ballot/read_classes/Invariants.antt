use Rattle.std.proofs.Common.{◌≡◌, true, length}
use Rattle.preflib_text.specs.Steps.Marks.{is_past, IsReadOn}
use Rattle.preflib_text.specs.declared.ballot.OrderPlace.TheVariants.{Class}
use Rattle.preflib_text.proofs.ballot.read_classes.Given as goal

abbrev pub invariant-loop-inside : goal.invariant-loop-inside
invariant-loop-inside l = record {
  at : l.place ≡ Class;
  read : IsReadOn l.terms.m l.fn.terms.taking Class l.text l.fn.marks Class l.rest l.read;
  past : is_past l.fn.terms.taking l.read.classes l.read.before ≡ true;
}

abbrev pub decreases-loop-inside : goal.decreases-loop-inside
decreases-loop-inside l = length l.rest
