use Rattle.std.proofs.Common.{◌≡◌, ◌+◌, ◌≤◌, length, Some}
use Rattle.preflib_text.specs.Steps.Tokens.{next_place}
use Rattle.preflib_text.specs.Steps.Marks.{takes, IsReadOn}
use Rattle.preflib_text.specs.declared.approvals.Taking.{Taking}
use Rattle.preflib_text.specs.declared.ballot.Token.TheVariants.{Number}
use Rattle.preflib_text.specs.declared.ballot.OrderPlace.TheVariants.{Listed}
use Rattle.preflib_text.proofs.ballot.OrderPlace.read_members.Given as goal

abbrev pub invariant-loop-n : goal.invariant-loop-n
invariant-loop-n l = record {
  read : (taking : Taking) → l.taken ≡ takes taking l.fn.marks.classes l.fn.marks.before
      → (l.taken ≡ takes taking l.marks.classes l.marks.before) × IsReadOn l.m taking l.fn.self l.fn.text l.fn.marks l.place l.rest l.marks;
  classes-more : l.fn.marks.classes ≤ l.marks.classes;
  before-more : l.fn.marks.before ≤ l.marks.before;
  classes : l.marks.classes + length l.rest ≤ l.fn.marks.classes + length l.fn.text;
  numbers : l.marks.before + l.marks.numbers + length l.rest ≤ l.fn.marks.before + l.fn.marks.numbers + length l.fn.text;
  inside : next_place l.place (Number 0) ≡ Some Listed;
}

abbrev pub decreases-loop-n : goal.decreases-loop-n
decreases-loop-n l = length l.rest
