-- The reading of a ballot line against the shape of a ballot line.
use Rattle.std.proofs.Common.{◌≡◌, ℕ, List, Option, Some, None, refl, sym, ap, subst, ◌∙◌, arith, inl, inr}
use Rattle.std.specs.Prelude.{MatchOption}
use Rattle.ballot_base.specs.Lists.{IsIncreasing}
use Rattle.preflib_text.specs.declared.fault.FaultName.{FaultName}
use Rattle.preflib_text.specs.declared.fault.FaultName.TheVariants.{BadBallot}
use Rattle.preflib_text.specs.declared.pick.Kind.{Kind}
use Rattle.preflib_text.specs.declared.pick.Way.{Way}
use Rattle.preflib_text.specs.declared.approvals.Marks.{Marks}
use Rattle.preflib_text.specs.Ballot.{IsBallotLine}
use Rattle.preflib_text.specs.Approvals.{HasNumber, set_of, approved}
use Rattle.preflib_text.specs.Reading.{Cast, IsReading, ballot_fault}
use Rattle.preflib_text.specs.Steps.Tokens.{ballot_of}
use Rattle.preflib_text.specs.Steps.Marks.{no_marks, taking_of, with_classes, fault_of}
use Rattle.preflib_text.specs.Steps.Answers.{HasMarks, IsGoodBallot, IsBallotFault}
use Rattle.preflib_text.proofs.BallotWritten.{line_read}
use Rattle.preflib_text.proofs.BallotRead.{line_is, some_is}
use Rattle.preflib_text.proofs.BallotTaken.{taken_is}
use Rattle.preflib_text.proofs.BallotFaults.{approved_increasing, fault_is, good_ballot}

-- a line has one count and one list of classes
pub one_cast : (line : List ℕ) (c d : ℕ) (cs ds : List (List ℕ)) → IsBallotLine line c cs → IsBallotLine line d ds → (c ≡ d) × (cs ≡ ds)
one_cast line c d cs ds p q =
    let first : Cast = record { count = c; classes = cs } in
    let second : Cast = record { count = d; classes = ds } in
    let same : first ≡ second = some_is first second (sym (line_read line c cs p) ∙ line_read line d ds q) in
    (ap (λ (cast : Cast). cast.count) same, ap (λ (cast : Cast). cast.classes) same)

no_line : (line : List ℕ) → ballot_of line ≡ None → (count : ℕ) (classes : List (List ℕ)) → IsBallotLine line count classes → ⊥
no_line line e count classes p = let h = line_read line count classes p in cc

-- ballot_of reads ballot lines as their shape says
pub ballot_of_reads : IsReading ballot_of
ballot_of_reads line = by (ballot_of line) refl
  where
    by : (o : Option Cast) → ballot_of line ≡ o → MatchOption o ((count : ℕ) (classes : List (List ℕ)) → IsBallotLine line count classes → ⊥) (λ cast. IsBallotLine line cast.count cast.classes)
    by None e = no_line line e
    by (Some cast) e = line_is line cast.count cast.classes e

-- and so does no other function
reading_is : (read : List ℕ → Option Cast) → IsReading read → (line : List ℕ) → read line ≡ ballot_of line
reading_is read reads line = by (read line) (reads line)
  where
    none_is : (o : Option Cast) → ballot_of line ≡ o → ((count : ℕ) (classes : List (List ℕ)) → IsBallotLine line count classes → ⊥) → None ≡ o
    none_is None e none = refl
    none_is (Some cast) e none = absurd (none cast.count cast.classes (line_is line cast.count cast.classes e))

    by : (o : Option Cast) → MatchOption o ((count : ℕ) (classes : List (List ℕ)) → IsBallotLine line count classes → ⊥) (λ cast. IsBallotLine line cast.count cast.classes) → o ≡ ballot_of line
    by None none = none_is (ballot_of line) refl none
    by (Some cast) is = sym (line_read line cast.count cast.classes is)

pub one_reading : (read other : List ℕ → Option Cast) → IsReading read → IsReading other → (line : List ℕ) → read line ≡ other line
one_reading read other r o line = reading_is read r line ∙ sym (reading_is other o line)

-- the same, of what the reading of a line answers
pub good_cast : (kind : Kind) (m : ℕ) (categories : Option ℕ) (way : Way) (line : List ℕ) (n : ℕ) (set : List ℕ) → IsGoodBallot line kind m categories way n set → (cs : List (List ℕ)) × (ballot_of line ≡ Some (record { count = n; classes = cs })) × (ballot_fault kind m categories n cs ≡ None) × (set ≡ approved kind way cs)
good_cast kind m categories way line n set (cs, is, good, taken) = (cs, line_read line n cs is, good, taken)

pub fault_cast : (kind : Kind) (m : ℕ) (categories : Option ℕ) (line : List ℕ) (fault : FaultName) → IsBallotFault line kind m categories fault → MatchOption (ballot_of line) (fault ≡ BadBallot) (λ cast. ballot_fault kind m categories cast.count cast.classes ≡ Some fault)
fault_cast kind m categories line fault (inl (bad, none)) = by (ballot_of line) refl
  where
    by : (o : Option Cast) → ballot_of line ≡ o → MatchOption o (fault ≡ BadBallot) (λ cast. ballot_fault kind m categories cast.count cast.classes ≡ Some fault)
    by None e = bad
    by (Some cast) e = absurd (none cast.count cast.classes (line_is line cast.count cast.classes e))
fault_cast kind m categories line fault (inr (n, cs, is, e)) = rw (line_read line n cs is) e

-- ---- what is answered

module _ (kind : Kind) (m : ℕ) (categories : Option ℕ) (way : Way) (line : List ℕ) where
  pub none_read : ballot_of line ≡ None → IsBallotFault line kind m categories BadBallot
  none_read e = inl (refl, no_line line e)

  pub fault_read : (read : ℕ) (marks : Marks) (fault : FaultName) → HasMarks m (taking_of kind way) line read marks → fault_of kind m categories read marks ≡ Some fault → IsBallotFault line kind m categories fault
  fault_read read marks fault (count, classes, is, number, same) e =
      inr (count, classes, line_is line count classes is, sym (fault_is m (taking_of kind way) kind categories count classes) ∙ ap (λ (k : ℕ). fault_of kind m categories k (with_classes m (taking_of kind way) no_marks classes)) (sym number) ∙ ap (fault_of kind m categories read) (sym same) ∙ e)

  pub good_read : (read : ℕ) (marks : Marks) → HasNumber way → HasMarks m (taking_of kind way) line read marks → fault_of kind m categories read marks ≡ None → IsGoodBallot line kind m categories way read marks.approved
  good_read read marks h (count, classes, is, number, same) e =
      let good : ballot_fault kind m categories count classes ≡ None = sym (fault_is m (taking_of kind way) kind categories count classes) ∙ ap (λ (k : ℕ). fault_of kind m categories k (with_classes m (taking_of kind way) no_marks classes)) (sym number) ∙ ap (fault_of kind m categories read) (sym same) ∙ e in
      let g = good_ballot m (taking_of kind way) kind categories count classes good in
      let whole : count ≡ read = omega (arith, number, g.most) in
      (classes, subst (λ (k : ℕ). IsBallotLine line k classes) whole (line_is line count classes is), ap (λ (k : ℕ). ballot_fault kind m categories k classes) (sym whole) ∙ good, ap (λ (after : Marks). after.approved) same ∙ g.is ∙ ap set_of (taken_is kind way classes h))

  pub set_read : (read : ℕ) (marks : Marks) → HasMarks m (taking_of kind way) line read marks → IsIncreasing 1 m marks.approved
  set_read read marks (count, classes, is, number, same) =
      subst (λ (after : Marks). IsIncreasing 1 m after.approved) (sym same) (approved_increasing m (taking_of kind way) classes)
