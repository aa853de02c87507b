-- What a metadata line does to the notes.
use Rattle.std.proofs.Common.{◌≡◌, ℕ, ◌≤◌, ◌&&◌, Bool, true, false, cond, List, [], ◌∷◌, map, ◌==◌, refl, sym, ap, subst, ◌∙◌, arith, length, Option, Some, None, IfSome, unwrap_or, MatchOption, MatchResult, Result, Ok, Err, not}
use Rattle.std.specs.Prelude.{nat_lt, nat_le}
use Rattle.std.specs.Bool.{then_some}
use Rattle.ballot_base.specs.Limits.{most_candidates}
use Rattle.preflib_text.specs.Limits.{most_line_bytes}
use Rattle.preflib_text.specs.declared.pick.Kind.{Kind}
use Rattle.preflib_text.specs.declared.pick.Pick.{Pick}
use Rattle.preflib_text.specs.declared.fault.FaultName.{FaultName}
use Rattle.preflib_text.specs.declared.fault.FaultName.TheVariants.{LongLine, BadBallot, PickMisfit}
use Rattle.preflib_text.specs.declared.notes.Notes.{Notes}
use Rattle.preflib_text.specs.declared.notes.Effect as rust
use Rattle.preflib_text.specs.Lines.{is_ballot_line, pieces_of, without_return}
use Rattle.preflib_text.specs.Metadata.{Fact, NameIs, told_of}
use Rattle.preflib_text.specs.Steps.Tokens.{capped}
use Rattle.preflib_text.specs.Steps.Tells.{capped_told}
use Rattle.preflib_text.specs.Reading.{Cast, or_else, fault_if, is_fitting, ballot_fault, kind_or_usual}
use Rattle.preflib_text.specs.Steps.Tokens.{ballot_of}
use Rattle.ballot_base.specs.Lists.{IsIncreasing}
use Rattle.ballot_base.specs.Ballots.{Election}
use Rattle.preflib_text.specs.Approvals.{approved}
use Rattle.preflib_text.specs.Steps.Answers.{IsGoodBallot, IsBallotFault}
use Rattle.preflib_text.proofs.BallotLines.{good_cast, fault_cast}
use Rattle.preflib_text.specs.Steps.Notes.{Effect, Names, NoEffect, Casts, cast_error, kind_error, alternatives_error, effect_of, IsProper, IsSound, MayCome, told_error, told_notes, told_effect, ballot_error, cast_effect, line_error, line_notes, line_effect}

-- ---- numbers above 2^32 are all alike

pub told_error-capped : (notes : Notes) (told : Fact) → told_error notes (capped_told told) ≡ told_error notes told
told_error-capped notes (NameIs n value) = refl
told_error-capped notes told = refl

pub told_notes-capped : (pick : Pick) (notes : Notes) (told : Fact) → told_notes pick notes (capped_told told) ≡ told_notes pick notes told
told_notes-capped pick notes (NameIs n value) = refl
told_notes-capped pick notes told = refl

-- the numbers that a candidate may have are few
few : (alternatives : Option ℕ) → IfSome alternatives (λ m. (1 ≤ m) × (m ≤ most_candidates)) → unwrap_or alternatives most_candidates ≤ most_candidates
few None sound = omega arith
few (Some m) sound = sound.1

pub within_most : (notes : Notes) (n : ℕ) → IsSound notes → n ≤ unwrap_or notes.alternatives most_candidates → n ≤ most_candidates
within_most notes n sound within = omega (arith, within, few notes.alternatives sound)

capped_name : (most n : ℕ) (value : List ℕ) → most ≤ most_candidates
    → cond (nat_le 1 (capped n) && nat_le (capped n) most) (Names (capped n) value) NoEffect ≡ cond (nat_le 1 n && nat_le n most) (Names n value) NoEffect
capped_name most n value small = ap (λ t. cond t (Names (capped n) value) NoEffect) test ∙ by (nat_le 1 n && nat_le n most) refl
  where
    test : (nat_le 1 (capped n) && nat_le (capped n) most) ≡ (nat_le 1 n && nat_le n most)
    test = grind arith

    same : n ≤ most → capped n ≡ n
    same h = omega (arith, small)

    within : (nat_le 1 n && nat_le n most) ≡ true → n ≤ most
    within h = grind arith

    by : (t : Bool) → (nat_le 1 n && nat_le n most) ≡ t → cond t (Names (capped n) value) NoEffect ≡ cond t (Names n value) NoEffect
    by true e = ap (λ k. Names k value) (same (within e))
    by false e = refl

pub told_effect-capped : (notes : Notes) (told : Fact) → IsSound notes → told_effect notes (capped_told told) ≡ told_effect notes told
told_effect-capped notes (NameIs n value) sound = capped_name (unwrap_or notes.alternatives most_candidates) n value (few notes.alternatives sound)
told_effect-capped notes told sound = refl

-- ---- a metadata line before the first ballot

pub metadata_line : (pick : Pick) (notes after : Notes) (line : List ℕ) (told : Fact) (r : Result rust.Effect FaultName)
    → told ≡ capped_told (told_of line) → nat_lt most_line_bytes (length line) ≡ false → is_ballot_line line ≡ false → notes.has_ballot ≡ false → IsSound notes
    → MatchResult r (λ step. (told_error notes told ≡ None) × (after ≡ told_notes pick notes told) × (effect_of step ≡ told_effect notes told)) (λ name. told_error notes told ≡ Some name)
    → MatchResult r (λ step. (line_error pick notes line ≡ None) × (after ≡ line_notes pick notes line) × (effect_of step ≡ line_effect pick notes line)) (λ name. line_error pick notes line ≡ Some name)
metadata_line pick notes after line told r is short other none sound taken = by r taken
  where
    of_told : told_error notes told ≡ line_error pick notes line
    of_told = ap (told_error notes) is ∙ told_error-capped notes (told_of line)
        ∙ sym (ap (λ t. or_else (fault_if t LongLine) (cond (is_ballot_line line) (ballot_error pick notes (ballot_of line)) (cond notes.has_ballot None (told_error notes (told_of line))))) short
        ∙ ap (λ t. cond t (ballot_error pick notes (ballot_of line)) (cond notes.has_ballot None (told_error notes (told_of line)))) other
        ∙ ap (λ t. cond t None (told_error notes (told_of line))) none)

    of_notes : told_notes pick notes told ≡ line_notes pick notes line
    of_notes = ap (told_notes pick notes) is ∙ told_notes-capped pick notes (told_of line)
        ∙ sym (ap (λ t. cond t (record notes { has_ballot = true }) (cond notes.has_ballot notes (told_notes pick notes (told_of line)))) other
        ∙ ap (λ t. cond t notes (told_notes pick notes (told_of line))) none)

    of_effect : told_effect notes told ≡ line_effect pick notes line
    of_effect = ap (told_effect notes) is ∙ told_effect-capped notes (told_of line) sound
        ∙ sym (ap (λ t. cond t (cast_effect pick notes (ballot_of line)) (cond notes.has_ballot NoEffect (told_effect notes (told_of line)))) other
        ∙ ap (λ t. cond t NoEffect (told_effect notes (told_of line))) none)

    by : (q : Result rust.Effect FaultName)
        → MatchResult q (λ step. (told_error notes told ≡ None) × (after ≡ told_notes pick notes told) × (effect_of step ≡ told_effect notes told)) (λ name. told_error notes told ≡ Some name)
        → MatchResult q (λ step. (line_error pick notes line ≡ None) × (after ≡ line_notes pick notes line) × (effect_of step ≡ line_effect pick notes line)) (λ name. line_error pick notes line ≡ Some name)
    by (Ok step) (e, n, f) = (sym of_told ∙ e, n ∙ of_notes, f ∙ of_effect)
    by (Err name) e = sym of_told ∙ e

-- ---- a ballot line

cast_error-fault : (kind : Kind) (m : ℕ) (categories : Option ℕ) (cast : Option Cast) (fault : FaultName) → MatchOption cast (fault ≡ BadBallot) (λ c. ballot_fault kind m categories c.count c.classes ≡ Some fault) → cast_error kind m categories cast ≡ Some fault
cast_error-fault kind m categories None fault is = ap Some (sym is)
cast_error-fault kind m categories (Some cast) fault is = is

ballot_error-fits : (pick : Pick) (notes : Notes) (m : ℕ) (kind : Kind) (cast : Option Cast) → notes.alternatives ≡ Some m → notes.kind ≡ Ok kind → is_fitting kind notes.categories pick.way ≡ true
    → ballot_error pick notes cast ≡ cast_error kind m notes.categories cast
ballot_error-fits pick notes m kind cast alternatives known fits =
    ap (alternatives_error pick notes cast) alternatives ∙ ap (kind_error pick notes m cast) known
    ∙ ap (λ t. or_else (fault_if (not t) PickMisfit) (cast_error kind m notes.categories cast)) fits

pub ballot-refused : (pick : Pick) (notes : Notes) (m : ℕ) (kind : Kind) (line : List ℕ) (fault : FaultName) → notes.alternatives ≡ Some m → notes.kind ≡ Ok kind → is_fitting kind notes.categories pick.way ≡ true
    → IsBallotFault line kind m notes.categories fault → ballot_error pick notes (ballot_of line) ≡ Some fault
ballot-refused pick notes m kind line fault alternatives known fits is =
    ballot_error-fits pick notes m kind (ballot_of line) alternatives known fits
    ∙ cast_error-fault kind m notes.categories (ballot_of line) fault (fault_cast kind m notes.categories line fault is)

first_if : (t : Bool) (m : ℕ) → then_some (not t) m ≡ cond t None (Some m)
first_if true m = refl
first_if false m = refl

pub ballot-taken : (pick : Pick) (notes : Notes) (m : ℕ) (kind : Kind) (line : List ℕ) (count : ℕ) (set : List ℕ) (first : Option ℕ) → first ≡ then_some (not notes.has_ballot) m → notes.alternatives ≡ Some m → notes.kind ≡ Ok kind → is_fitting kind notes.categories pick.way ≡ true
    → IsGoodBallot line kind m notes.categories pick.way count set
    → (ballot_error pick notes (ballot_of line) ≡ None) × (Casts first set count ≡ cast_effect pick notes (ballot_of line))
ballot-taken pick notes m kind line count set first is alternatives known fits good =
    let (classes, read, fine, taken) = good_cast kind m notes.categories pick.way line count set good in
    let set_is : set ≡ approved (kind_or_usual notes.kind) pick.way classes = taken ∙ ap (λ k. approved (kind_or_usual k) pick.way classes) (sym known) in (
      ballot_error-fits pick notes m kind (ballot_of line) alternatives known fits ∙ ap (cast_error kind m notes.categories) read ∙ fine,
      ap (λ f. Casts f set count) (is ∙ first_if notes.has_ballot m) ∙ ap (λ s. Casts (cond notes.has_ballot None (Some m)) s count) set_is ∙ ap (λ a. Casts (cond notes.has_ballot None a) (approved (kind_or_usual notes.kind) pick.way classes) count) (sym alternatives)
          ∙ ap (cast_effect pick notes) (sym read),
    )

-- ---- what a line does may come

-- where the notes fit the profile
pub may_come : (notes : Notes) (e : Election) (effect : Effect) → IsSound notes → (notes.has_ballot ≡ false → (e.m ≡ most_candidates) × (e.rows ≡ [])) → (notes.has_ballot ≡ true → notes.alternatives ≡ Some e.m)
    → IsProper notes effect → MayCome e effect
may_come notes e NoEffect sound opened begun proper = tt
may_come notes e (Names n name) sound opened begun (none, low, high) = (low, subst (λ m. n ≤ m) (sym (opened none).0) (within_most notes n sound high))
may_come notes e (Casts None set count) sound opened begun (some, within, voters) = (subst (λ o. IfSome o (λ m. IsIncreasing 1 m set)) (begun some) within, voters)
may_come notes e (Casts (Some m) set count) sound opened begun (none, is, within, voters) =
    let (low, high) = subst (λ o. IfSome o (λ k. (1 ≤ k) × (k ≤ most_candidates))) is sound in
    (low, subst (λ k. m ≤ k) (sym (opened none).0) high, (opened none).1, within, voters)

-- ---- the first line

pub no_lines : (text : List ℕ) (line : List ℕ) (lines : List (List ℕ)) {X : Type 0} → (length text == 0) ≡ true → map without_return (pieces_of text) ≡ line ∷ lines → X
unfolding pieces_of
no_lines [] line lines none is = absurd (cc)
no_lines (b ∷ text) line lines none is = absurd (grind arith)
