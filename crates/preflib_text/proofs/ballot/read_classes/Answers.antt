use Rattle.std.proofs.Common.{◌≡◌, ℕ, ◌≤◌, ◌∷◌, List, false, true, subst, arith}
use Rattle.ballot_base.specs.Limits.{most_candidates}
use Rattle.preflib_text.specs.Steps.Marks.{takes, is_past, IsReadOn}
use Rattle.preflib_text.specs.declared.approvals.Taking.{Taking}
use Rattle.preflib_text.specs.declared.approvals.Marks.{Marks}
use Rattle.preflib_text.specs.declared.ballot.OrderPlace.{OrderPlace}
use Rattle.preflib_text.specs.declared.ballot.OrderPlace.TheVariants.{Class, Opened}
use Rattle.preflib_text.proofs.BallotSteps.{read_then, braces_read, past_takes, past_later}
use Rattle.preflib_text.proofs.ballot.read_classes.Goals as goal
use Rattle.preflib_text.proofs.ballot.read_classes.Goals.{in-Some+in_default-place, in_default}

-- a class in braces, of which nothing is taken
next_read : (m : ℕ) (taking : Taking) (place : OrderPlace) (text rest inside left : List ℕ) (first marks after : Marks) → m ≤ most_candidates
    → IsReadOn m taking Class text first Class rest marks → rest ≡ 123 ∷ inside → is_past taking marks.classes marks.before ≡ true
    → ((way : Taking) → false ≡ takes way marks.classes marks.before → IsReadOn m way Opened inside marks place left after)
    → IsReadOn m taking Class text first place left after
next_read m taking place text rest inside left first marks after h read brace past braces =
    read_then m taking Class Class place text rest left first marks after read
    (braces_read m taking place rest inside left marks after h brace (braces taking (past_takes taking marks.classes marks.before past)))

pub read_singles-rest-requires-in-Some-clause-room : goal.read_singles-rest-requires-in-Some-clause-room
read_singles-rest-requires-in-Some-clause-room c =
    let read = next_read c.args.terms.m c.args.terms.taking c.read_members.result.place c.args.text.now c.loop-inside.rest.now c.in-Some.inside.now c.read_members.result.rest.now c.args.marks.now c.loop-inside.read c.read_members.new.marks
    c.args.terms.few c.loop-inside.invariant.read c.in-Some.ensures c.loop-inside.invariant.past c.read_members.ensures.read in
    (omega (arith, read.classes, c.requires.0), omega (arith, read.numbers, c.requires.1))

pub loop-inside-preserved : goal.loop-inside-preserved
loop-inside-preserved c =
    let m = c.args.terms.m in
    let taking = c.args.terms.taking in
    let text = c.args.text.now in
    let first = c.args.marks.now in
    let left = c.read_members.result.rest.now in
    let after = c.read_members.new.marks in
    let read = next_read m taking c.read_members.result.place text c.loop-inside.rest.now c.in-Some.inside.now left first c.loop-inside.read after
    c.args.terms.few c.loop-inside.invariant.read c.in-Some.ensures c.loop-inside.invariant.past c.read_members.ensures.read in
    record {
      at = c.in-Class.is;
      read = read_then m taking Class Class Class text left c.read_singles-rest-in-Some.result.now first after c.read_singles-rest-in-Some.new.marks
          (subst (λ p. IsReadOn m taking Class text first p left after) c.in-Class.is read) c.read_singles-rest-in-Some.ensures.read;
      past = c.read_singles-rest-in-Some.ensures.past;
    }

pub read_singles-rest-requires-in-Some-clause-past : goal.read_singles-rest-requires-in-Some-clause-past
read_singles-rest-requires-in-Some-clause-past c =
    let marks = c.loop-inside.read in
    let after = c.read_members.new.marks in
    past_later c.args.terms.taking marks.classes marks.before after.classes after.before c.read_members.ensures.classes c.read_members.ensures.before c.loop-inside.invariant.past

pub returns : goal.returns
returns c =
    elim c.match-after_byte.branch [
      | in-Some+in_default-place w ↦ rw (w.place-is, w.rest-is, w.read-is)
          (next_read c.args.terms.m c.args.terms.taking w.read_members.result.place c.args.text.now c.loop-inside.rest.now w.in-Some.inside.now w.read_members.result.rest.now c.args.marks.now c.loop-inside.read w.read_members.new.marks
          c.args.terms.few c.loop-inside.invariant.read w.in-Some.ensures c.loop-inside.invariant.past w.read_members.ensures.read)
      | in_default w ↦ rw (w.place-is, w.rest-is, w.read-is, c.loop-inside.invariant.at) c.loop-inside.invariant.read
    ]
