-- The notes and the profile after some lines, and after one more.
use Rattle.preflib_text.proofs.BallotFaults.{or_else-parts, or_else-assoc, or_else-none}
use Rattle.std.proofs.Math.Bool.{or-false}
use Rattle.std.proofs.Common.{◌==◌, ◌<◌, ◌≡◌, ◌≢◌, ℕ, zero, suc, ◌+◌, ◌-◌, ◌≤◌, ◌&&◌, ◌||◌, Bool, true, false, not, cond, List, [], ◌∷◌, ◌++◌, refl, sym, ap, subst, ◌∙◌, arith, length, map, take, sum_by, Option, Some, None, option_map, unwrap_or, is_some, Result, Ok, Err, replicate}
use Rattle.std.specs.Prelude.{nat_lt, slice_set}
use Rattle.std.proofs.lemmas.List.{append_assoc, append-nil, take-take}
use Rattle.std.proofs.lemmas.Bool.{lt-ltb, or_left, or_right, not-true}
use Rattle.std.proofs.lemmas.List.FromFn.{take-map-range_with_len}
use Rattle.ballot_base.specs.Ballots.{Election, Row, election, has_ballot, with_votes, voter_count}
use Rattle.ballot_base.specs.Limits.{most_candidates, most_voters}
use Rattle.ballot_base.proofs.RowLemmas.{voter_count-with_votes}
use Rattle.preflib_text.specs.Limits.{most_line_bytes, most_categories}
use Rattle.preflib_text.specs.declared.pick.Kind.{Kind}
use Rattle.preflib_text.specs.declared.pick.Pick.{Pick}
use Rattle.preflib_text.specs.declared.fault.FaultName.{FaultName}
use Rattle.preflib_text.specs.declared.fault.FaultName.TheVariants.{LongLine, BadNumber, TooManyCandidates, NoAlternatives, NoKind, NoVoters, PickMisfit, TooManyVoters}
use Rattle.preflib_text.specs.declared.notes.Notes.{Notes}
use Rattle.preflib_text.specs.Lines.{is_ballot_line, lines_of, pieces_of, without_return}
use Rattle.preflib_text.specs.Metadata.{Fact, AlternativesAre, CategoriesAre, NameIs, told_of, written_number}
use Rattle.preflib_text.specs.Approvals.{approved}
use Rattle.preflib_text.specs.Steps.Tokens.{ballot_of}
use Rattle.preflib_text.specs.Reading.{Cast, or_else, fault_if, told_before, kind_or_usual, is_fitting, ballot_fault, alternatives_in, categories_in, casts_in, rows_in, election_in, line_fault, told_fault, first_fault, first_faulty_line, FaultyLine, faulty_line, fault_of_line, end_fault, at_end, is_empty, may_be_candidate, is_name, is_growth, kind_in, cast_fault, kind_fault, ballot_line_fault, number_fault, kind_or, kind_by}
use Rattle.preflib_text.specs.Steps.Notes.{Effect, NoEffect, Names, Casts, fresh_notes, first_kind, told_error, told_notes, told_effect, cast_error, kind_error, alternatives_error, ballot_error, cast_effect, line_error, line_notes, line_effect, effect_error, with_effect, end_error, effect_takes, IsSound}
use Rattle.preflib_text.specs.Steps.After.{IsTold, last_name, last_names, cast_rows, has_ballot_line, HoldsNames, IsAfter, IsFine}
use Rattle.preflib_text.proofs.ToldSteps.{number_within, told-step, told_before-kept, told_before-more}
use Rattle.preflib_text.proofs.ProfileSteps.{last_names-told, last_names-kept, name_value-other, casts_in-other, casts_in-ballot, casts_in-none, votes_in-ballot, cast_rows-push, with_votes-some, length-with_votes}

-- ---- before the first line

pub is_after-none : (pick : Pick) → IsAfter pick [] (fresh_notes pick) (election most_candidates (replicate most_candidates []) [])
is_after-none pick = record {
  told = record { alternatives = refl; categories = refl; kind = by pick.kind pick.ending; no_alternatives = λ h. refl; no_categories = λ h. refl; sound = tt };
  ballots = refl;
  opened = λ h. (refl, refl, refl);
  begun = λ h. absurd (cc);
  votes = refl;
}
  where
    by : (kind ending : Option Kind) → kind_or NoKind (first_kind kind ending) ≡ kind_by kind None ending
    by (Some kind) ending = refl
    by None ending = refl

-- ---- the faults of a line

cast_error-is : (pick : Pick) (before : List (List ℕ)) (kind : Kind) (m : ℕ) (notes : Notes) (e : Election) (cast : Option Cast) → IsAfter pick before notes e
    → or_else (cast_error kind m notes.categories cast) (effect_error e (cast_effect pick notes cast)) ≡ cast_fault pick ballot_of before kind m cast
cast_error-is pick before kind m notes e None is = refl
cast_error-is pick before kind m notes e (Some cast) is =
    ap (λ c. or_else (ballot_fault kind m c cast.count cast.classes) (fault_if (nat_lt most_voters (voter_count e.rows + cast.count)) TooManyVoters)) is.told.categories
    ∙ ap (λ n. or_else (ballot_fault kind m (categories_in before) cast.count cast.classes) (fault_if (nat_lt most_voters (n + cast.count)) TooManyVoters)) is.votes

kind_error-is : (pick : Pick) (before : List (List ℕ)) (line : List ℕ) (m : ℕ) (notes : Notes) (e : Election) (kind : Result Kind FaultName) → IsAfter pick before notes e
    → or_else (kind_error pick notes m (ballot_of line) kind) (effect_error e (cast_effect pick notes (ballot_of line))) ≡ kind_fault pick ballot_of before m line kind
kind_error-is pick before line m notes e (Err name) is = refl
kind_error-is pick before line m notes e (Ok kind) is =
    or_else-assoc (fault_if (not (is_fitting kind notes.categories pick.way)) PickMisfit) (cast_error kind m notes.categories (ballot_of line)) (effect_error e (cast_effect pick notes (ballot_of line)))
    ∙ ap (or_else (fault_if (not (is_fitting kind notes.categories pick.way)) PickMisfit)) (cast_error-is pick before kind m notes e (ballot_of line) is)
    ∙ ap (λ c. or_else (fault_if (not (is_fitting kind c pick.way)) PickMisfit) (cast_fault pick ballot_of before kind m (ballot_of line))) is.told.categories

ballot_error-is : (pick : Pick) (before : List (List ℕ)) (line : List ℕ) (notes : Notes) (e : Election) → IsAfter pick before notes e
    → or_else (ballot_error pick notes (ballot_of line)) (effect_error e (cast_effect pick notes (ballot_of line))) ≡ ballot_line_fault pick ballot_of before line (alternatives_in before)
ballot_error-is pick before line notes e is = by notes.alternatives ∙ ap (ballot_line_fault pick ballot_of before line) is.told.alternatives
  where
    by : (m : Option ℕ) → or_else (alternatives_error pick notes (ballot_of line) m) (effect_error e (cast_effect pick notes (ballot_of line))) ≡ ballot_line_fault pick ballot_of before line m
    by None = refl
    by (Some m) = kind_error-is pick before line m notes e notes.kind is ∙ ap (kind_fault pick ballot_of before m line) is.told.kind

told_error-is : (pick : Pick) (before : List (List ℕ)) (notes : Notes) (e : Election) (told : Fact) → IsAfter pick before notes e → told_error notes told ≡ told_fault before told
told_error-is pick before notes e (AlternativesAre value) is = ap (λ o. number_fault (Some TooManyCandidates) most_candidates o (written_number value)) is.told.alternatives
told_error-is pick before notes e (CategoriesAre value) is = ap (λ o. number_fault (Some BadNumber) most_categories o (written_number value)) is.told.categories
told_error-is pick before notes e told is = refl

pub told_effect-fine : (e : Election) (notes : Notes) (told : Fact) → effect_error e (told_effect notes told) ≡ None
told_effect-fine e notes (NameIs n value) = by (may_be_candidate notes.alternatives n)
  where
    by : (t : Bool) → effect_error e (cond t (Names n value) NoEffect) ≡ None
    by true = refl
    by false = refl
told_effect-fine e notes told = refl

-- the refusals are the faults
pub line_error-is : (pick : Pick) (before : List (List ℕ)) (line : List ℕ) (notes : Notes) (e : Election) → IsAfter pick before notes e
    → or_else (line_error pick notes line) (effect_error e (line_effect pick notes line)) ≡ line_fault pick ballot_of before line
line_error-is pick before line notes e is =
    or_else-assoc (fault_if (nat_lt most_line_bytes (length line)) LongLine) _ (effect_error e (line_effect pick notes line))
    ∙ ap (or_else (fault_if (nat_lt most_line_bytes (length line)) LongLine)) (by (is_ballot_line line) ∙ by_ballots)
  where
    other : (t : Bool) → or_else (cond t None (told_error notes (told_of line))) (effect_error e (cond t NoEffect (told_effect notes (told_of line)))) ≡ cond t None (told_fault before (told_of line))
    other true = refl
    other false = ap (or_else (told_error notes (told_of line))) (told_effect-fine e notes (told_of line)) ∙ or_else-none (told_error notes (told_of line)) ∙ told_error-is pick before notes e (told_of line) is

    by : (t : Bool) → or_else (cond t (ballot_error pick notes (ballot_of line)) (cond notes.has_ballot None (told_error notes (told_of line)))) (effect_error e (cond t (cast_effect pick notes (ballot_of line)) (cond notes.has_ballot NoEffect (told_effect notes (told_of line)))))
        ≡ cond t (ballot_line_fault pick ballot_of before line (alternatives_in before)) (cond notes.has_ballot None (told_fault before (told_of line)))
    by true = ballot_error-is pick before line notes e is
    by false = other notes.has_ballot

    by_ballots : cond (is_ballot_line line) (ballot_line_fault pick ballot_of before line (alternatives_in before)) (cond notes.has_ballot None (told_fault before (told_of line)))
        ≡ cond (is_ballot_line line) (ballot_line_fault pick ballot_of before line (alternatives_in before)) (cond (has_ballot_line before) None (told_fault before (told_of line)))
    by_ballots = ap (λ t. cond (is_ballot_line line) (ballot_line_fault pick ballot_of before line (alternatives_in before)) (cond t None (told_fault before (told_of line)))) is.ballots

-- ---- a line more

-- whether a ballot is among them then
has_ballot_line-more : (before : List (List ℕ)) (line : List ℕ) → has_ballot_line (before ++ line ∷ []) ≡ (has_ballot_line before || is_ballot_line line)
has_ballot_line-more [] line = or-false (is_ballot_line line)
has_ballot_line-more (first ∷ before) line = ap (λ t. is_ballot_line first || t) (has_ballot_line-more before line) ∙ by (is_ballot_line first)
  where
    by : (t : Bool) → (t || (has_ballot_line before || is_ballot_line line)) ≡ ((t || has_ballot_line before) || is_ballot_line line)
    by true = refl
    by false = refl

-- the notes with a ballot are otherwise the same
told-ballot : (pick : Pick) (tolds : List Fact) (notes : Notes) → IsTold pick tolds notes → IsTold pick tolds (record notes { has_ballot = true })
told-ballot pick tolds notes is = record { alternatives = is.alternatives; categories = is.categories; kind = is.kind; no_alternatives = is.no_alternatives; no_categories = is.no_categories; sound = is.sound }

take-set : (most at : ℕ) (names : List (List ℕ)) (value : List ℕ) → take most (slice_set names at value) ≡ slice_set (take most names) at value
take-set zero at names value = refl
take-set (suc most) at [] value = refl
take-set (suc most) zero (x ∷ names) value = refl
take-set (suc most) (suc at) (x ∷ names) value = ap (λ l. x ∷ l) (take-set most at names value)

fewer_names : (tolds : List Fact) (names : List (List ℕ)) (most fewer : ℕ) → fewer ≤ most → take most names ≡ last_names tolds most → take fewer names ≡ last_names tolds fewer
fewer_names tolds names most fewer h is =
    sym (take-take fewer most names h) ∙ ap (take fewer) is ∙ take-map-range_with_len (last_name tolds) 1 most fewer h

-- a number that is told again is the same
told_again : (noted : Option ℕ) (n : ℕ) → n ≤ most_candidates → (unwrap_or noted n == n) ≡ true → n ≤ unwrap_or noted most_candidates
told_again None n most same = most
told_again (Some k) n most same = let equal : k ≡ n = grind arith in omega arith

-- the names that a line before the first ballot leaves
names_told : (pick : Pick) (tolds : List Fact) (notes : Notes) (told : Fact) (e : Election) → IsSound notes → told_error notes told ≡ None → HoldsNames tolds notes e
    → HoldsNames (tolds ++ told ∷ []) (told_notes pick notes told) (with_effect e (told_effect notes told))
names_told pick tolds notes (AlternativesAre value) e sound fine (m_is, empty, names) =
    let (n, is, low, high, same) = number_within TooManyCandidates most_candidates notes.alternatives (written_number value) fine in
    let kept : take n e.names ≡ last_names (tolds ++ AlternativesAre value ∷ []) n =
    fewer_names tolds e.names (unwrap_or notes.alternatives most_candidates) n (told_again notes.alternatives n high same) names
    ∙ last_names-kept tolds (AlternativesAre value) n (λ k low high. refl) in
    (m_is, empty, subst (λ o. take (unwrap_or o most_candidates) e.names ≡ last_names (tolds ++ AlternativesAre value ∷ []) (unwrap_or o most_candidates)) (sym is) kept)
names_told pick tolds notes (NameIs n value) e sound fine (m_is, empty, names) = by (may_be_candidate notes.alternatives n) refl
  where
    most : ℕ
    most = unwrap_or notes.alternatives most_candidates

    by : (t : Bool) → may_be_candidate notes.alternatives n ≡ t → HoldsNames (tolds ++ NameIs n value ∷ []) notes (with_effect e (cond t (Names n value) NoEffect))
    by true within = (m_is, empty, take-set most (n - 1) e.names value ∙ ap (λ l. slice_set l (n - 1) value) names ∙ last_names-told tolds n most value (grind arith) (grind arith))
    by false outside = (m_is, empty, names ∙ last_names-kept tolds (NameIs n value) most (λ k low high. name_value-other n k value (λ same. absurd (grind arith))))
names_told pick tolds notes told e sound fine (m_is, empty, names) =
    (m_is, empty, names ∙ last_names-kept tolds told (unwrap_or notes.alternatives most_candidates) (λ k low high. refl))

-- what is told leaves the ballots
told_notes-ballots : (pick : Pick) (notes : Notes) (told : Fact) → (told_notes pick notes told).has_ballot ≡ notes.has_ballot
told_notes-ballots pick notes (NameIs n value) = refl
told_notes-ballots pick notes told = refl

told_effect-rows : (e : Election) (notes : Notes) (told : Fact) → (with_effect e (told_effect notes told)).rows ≡ e.rows
told_effect-rows e notes (NameIs n value) = by (may_be_candidate notes.alternatives n)
  where
    by : (t : Bool) → (with_effect e (cond t (Names n value) NoEffect)).rows ≡ e.rows
    by true = refl
    by false = refl
told_effect-rows e notes told = refl

-- no ballot, before the first ballot
after-told : (pick : Pick) (before : List (List ℕ)) (line : List ℕ) (notes : Notes) (e : Election) → IsAfter pick before notes e → notes.has_ballot ≡ false → is_ballot_line line ≡ false
    → told_error notes (told_of line) ≡ None → IsAfter pick (before ++ line ∷ []) (told_notes pick notes (told_of line)) (with_effect e (told_effect notes (told_of line)))
after-told pick before line notes e is none other fine =
    let no_ballot : has_ballot_line before ≡ false = sym is.ballots ∙ none in
    let tolds : told_before before ++ told_of line ∷ [] ≡ told_before (before ++ line ∷ []) = sym (told_before-more before line no_ballot other) in
    let still : (told_notes pick notes (told_of line)).has_ballot ≡ false = told_notes-ballots pick notes (told_of line) ∙ none in
    let none_yet : has_ballot_line (before ++ line ∷ []) ≡ false = has_ballot_line-more before line ∙ ap (λ t. t || is_ballot_line line) no_ballot ∙ other in
    record {
      told = subst (λ t. IsTold pick t (told_notes pick notes (told_of line))) tolds (told-step pick (told_before before) notes (told_of line) is.told fine);
      ballots = still ∙ sym none_yet;
      opened = λ h. subst (λ t. HoldsNames t (told_notes pick notes (told_of line)) (with_effect e (told_effect notes (told_of line)))) tolds (names_told pick (told_before before) notes (told_of line) e is.told.sound fine (is.opened none));
      begun = λ h. absurd (cc (still, h));
      votes = ap voter_count (told_effect-rows e notes (told_of line)) ∙ is.votes ∙ sym (ap (λ c. sum_by (λ (x : Cast). x.count) c) (casts_in-other pick ballot_of before line other));
    }

-- no ballot, after the first ballot
after-skipped : (pick : Pick) (before : List (List ℕ)) (line : List ℕ) (notes : Notes) (e : Election) → IsAfter pick before notes e → notes.has_ballot ≡ true → is_ballot_line line ≡ false
    → IsAfter pick (before ++ line ∷ []) notes e
after-skipped pick before line notes e is some other =
    let ballot : has_ballot_line before ≡ true = sym is.ballots ∙ some in
    let more : (has_ballot_line before || is_ballot_line line) ≡ true = ap (λ t. t || is_ballot_line line) ballot in
    let tolds : told_before before ≡ told_before (before ++ line ∷ []) = sym (told_before-kept before line more) in
    let casts : casts_in pick ballot_of before ≡ casts_in pick ballot_of (before ++ line ∷ []) = sym (casts_in-other pick ballot_of before line other) in
    let (m, alternatives, profile, rows) = is.begun some in
    record {
      told = subst (λ t. IsTold pick t notes) tolds is.told;
      ballots = some ∙ sym (has_ballot_line-more before line ∙ more);
      opened = λ h. absurd (cc (some, h));
      begun = λ h. (
        m,
        alternatives,
        profile ∙ ap (λ t. election m (last_names t m) (cast_rows (kind_or_usual notes.kind) pick.way (casts_in pick ballot_of before))) tolds
            ∙ ap (λ c. election m (last_names (told_before (before ++ line ∷ [])) m) (cast_rows (kind_or_usual notes.kind) pick.way c)) casts,
        rows,
      );
      votes = is.votes ∙ ap (λ c. sum_by (λ (x : Cast). x.count) c) casts;
    }

-- what a ballot line without a fault is
abbrev pub IsCast : Pick → List (List ℕ) → List ℕ → Notes → Type 0
IsCast pick before line notes = (m : ℕ) × (kind : Kind) × (cast : Cast) × (notes.alternatives ≡ Some m) × (notes.kind ≡ Ok kind) × (ballot_of line ≡ Some cast) × (ballot_fault kind m notes.categories cast.count cast.classes ≡ None)

is_cast : (pick : Pick) (before : List (List ℕ)) (line : List ℕ) (notes : Notes) → ballot_error pick notes (ballot_of line) ≡ None → IsCast pick before line notes
is_cast pick before line notes fine = of_number notes.alternatives refl fine
  where
    of_cast : (m : ℕ) (kind : Kind) (cast : Option Cast) → notes.alternatives ≡ Some m → notes.kind ≡ Ok kind → ballot_of line ≡ cast → (t : Bool)
        → or_else (cond (not t) (Some PickMisfit) None) (cast_error kind m notes.categories cast) ≡ None → IsCast pick before line notes
    of_cast m kind cast a k c false h = absurd (cc)
    of_cast m kind None a k c true h = absurd (cc)
    of_cast m kind (Some cast) a k c true h = (m, kind, cast, a, k, c, h)

    of_kind : (m : ℕ) (kind : Result Kind FaultName) → notes.alternatives ≡ Some m → notes.kind ≡ kind → kind_error pick notes m (ballot_of line) kind ≡ None → IsCast pick before line notes
    of_kind m (Err name) a k h = absurd (cc)
    of_kind m (Ok kind) a k h = of_cast m kind (ballot_of line) a k refl (is_fitting kind notes.categories pick.way) h

    of_number : (number : Option ℕ) → notes.alternatives ≡ number → alternatives_error pick notes (ballot_of line) number ≡ None → IsCast pick before line notes
    of_number None a h = absurd (cc)
    of_number (Some m) a h = of_kind m notes.kind a refl h

cast_effect-is : (pick : Pick) (line : List ℕ) (notes : Notes) (cast : Cast) → ballot_of line ≡ Some cast → cast_effect pick notes (ballot_of line) ≡ cast_effect pick notes (Some cast)
cast_effect-is pick line notes cast is = ap (cast_effect pick notes) is

-- the first ballot
after-first : (pick : Pick) (before : List (List ℕ)) (line : List ℕ) (notes : Notes) (e : Election) → IsAfter pick before notes e → notes.has_ballot ≡ false → is_ballot_line line ≡ true → IsCast pick before line notes
    → IsAfter pick (before ++ line ∷ []) (record notes { has_ballot = true }) (with_effect e (cast_effect pick notes (ballot_of line)))
after-first pick before line notes e is none ballot (m, kind, cast, alternatives, known, read, fine) =
    let no_ballot : has_ballot_line before ≡ false = sym is.ballots ∙ none in
    let more : (has_ballot_line before || is_ballot_line line) ≡ true = ap (λ t. t || is_ballot_line line) no_ballot ∙ ballot in
    let tolds : told_before before ≡ told_before (before ++ line ∷ []) = sym (told_before-kept before line more) in
    let noted = kind_or_usual notes.kind in
    let casts : casts_in pick ballot_of (before ++ line ∷ []) ≡ cast ∷ [] = casts_in-ballot pick ballot_of before line cast ballot read ∙ ap (λ c. c ++ cast ∷ []) (casts_in-none pick ballot_of before no_ballot) in
    let rows : with_votes [] (approved noted pick.way cast.classes) cast.count ≡ cast_rows noted pick.way (casts_in pick ballot_of (before ++ line ∷ [])) = sym (ap (cast_rows noted pick.way) casts) in
    let effect : with_effect e (cast_effect pick notes (ballot_of line)) ≡ election m (last_names (told_before before) m) (with_votes [] (approved noted pick.way cast.classes) cast.count) =
    ap (with_effect e) (cast_effect-is pick line notes cast read ∙ ap (λ t. Casts (cond t None notes.alternatives) (approved noted pick.way cast.classes) cast.count) none ∙ ap (λ o. Casts o (approved noted pick.way cast.classes) cast.count) alternatives)
    ∙ ap (λ l. election m l (with_votes [] (approved noted pick.way cast.classes) cast.count)) (subst (λ o. take (unwrap_or o most_candidates) e.names ≡ last_names (told_before before) (unwrap_or o most_candidates)) alternatives (is.opened none).2) in
    record {
      told = subst (λ t. IsTold pick t (record notes { has_ballot = true })) tolds (told-ballot pick (told_before before) notes is.told);
      ballots = sym (has_ballot_line-more before line ∙ more);
      opened = λ h. absurd (cc);
      begun = λ h. (
        m,
        alternatives,
        effect ∙ ap (λ t. election m (last_names t m) (with_votes [] (approved noted pick.way cast.classes) cast.count)) tolds ∙ ap (election m (last_names (told_before (before ++ line ∷ [])) m)) rows,
        λ empty. with_votes-some [] (approved noted pick.way cast.classes) cast.count (sym (ap (λ (f : Election). f.rows) effect) ∙ empty),
      );
      votes = ap (λ (f : Election). voter_count f.rows) effect ∙ sym (ap (λ c. sum_by (λ (x : Cast). x.count) c) casts);
    }

-- a ballot after others
after-ballot : (pick : Pick) (before : List (List ℕ)) (line : List ℕ) (notes : Notes) (e : Election) → IsAfter pick before notes e → notes.has_ballot ≡ true → is_ballot_line line ≡ true → IsCast pick before line notes
    → IsAfter pick (before ++ line ∷ []) (record notes { has_ballot = true }) (with_effect e (cast_effect pick notes (ballot_of line)))
after-ballot pick before line notes e is some ballot (m, kind, cast, alternatives, known, read, fine) =
    let (count, number, profile, rows) = is.begun some in
    let more : (has_ballot_line before || is_ballot_line line) ≡ true = ap (λ t. t || is_ballot_line line) (sym is.ballots ∙ some) in
    let tolds : told_before before ≡ told_before (before ++ line ∷ []) = sym (told_before-kept before line more) in
    let noted = kind_or_usual notes.kind in
    let casts : casts_in pick ballot_of (before ++ line ∷ []) ≡ casts_in pick ballot_of before ++ cast ∷ [] = casts_in-ballot pick ballot_of before line cast ballot read in
    let pushed : with_votes (cast_rows noted pick.way (casts_in pick ballot_of before)) (approved noted pick.way cast.classes) cast.count ≡ cast_rows noted pick.way (casts_in pick ballot_of (before ++ line ∷ [])) =
    sym (cast_rows-push noted pick.way (casts_in pick ballot_of before) cast) ∙ ap (cast_rows noted pick.way) (sym casts) in
    let effect : with_effect e (cast_effect pick notes (ballot_of line)) ≡ record e { rows = with_votes e.rows (approved noted pick.way cast.classes) cast.count } =
    ap (with_effect e) (cast_effect-is pick line notes cast read ∙ ap (λ t. Casts (cond t None notes.alternatives) (approved noted pick.way cast.classes) cast.count) some) in
    record {
      told = subst (λ t. IsTold pick t (record notes { has_ballot = true })) tolds (told-ballot pick (told_before before) notes is.told);
      ballots = sym (has_ballot_line-more before line ∙ more);
      opened = λ h. absurd (cc);
      begun = λ h. (
        count,
        number,
        effect ∙ ap (λ (f : Election). record f { rows = with_votes f.rows (approved noted pick.way cast.classes) cast.count }) profile
            ∙ ap (λ t. election count (last_names t count) (with_votes (cast_rows noted pick.way (casts_in pick ballot_of before)) (approved noted pick.way cast.classes) cast.count)) tolds
            ∙ ap (election count (last_names (told_before (before ++ line ∷ [])) count)) pushed,
        λ empty. with_votes-some e.rows (approved noted pick.way cast.classes) cast.count (sym (ap (λ (f : Election). f.rows) effect) ∙ empty),
      );
      votes = ap (λ (f : Election). voter_count f.rows) effect ∙ voter_count-with_votes e.rows (approved noted pick.way cast.classes) cast.count ∙ ap (λ n. n + cast.count) is.votes
          ∙ sym (votes_in-ballot pick ballot_of before line cast ballot read);
    }

-- the rows are those of the lines
rows_are : (pick : Pick) (before : List (List ℕ)) (notes : Notes) (e : Election) → IsAfter pick before notes e → e.rows ≡ rows_in pick ballot_of before
rows_are pick before notes e is = by notes.has_ballot refl
  where
    by : (t : Bool) → notes.has_ballot ≡ t → e.rows ≡ rows_in pick ballot_of before
    by true h =
        let (m, number, profile, rows) = is.begun h in
        ap (λ (f : Election). f.rows) profile ∙ ap (λ k. cast_rows (kind_or_usual k) pick.way (casts_in pick ballot_of before)) is.told.kind
    by false h =
        (is.opened h).1
        ∙ sym (ap (cast_rows (kind_or_usual (kind_in pick before)) pick.way) (casts_in-none pick ballot_of before (sym is.ballots ∙ h)))

-- a line without a fault
pub after-line : (pick : Pick) (before : List (List ℕ)) (line : List ℕ) (notes : Notes) (e : Election) → IsAfter pick before notes e → line_error pick notes line ≡ None
    → IsAfter pick (before ++ line ∷ []) (line_notes pick notes line) (with_effect e (line_effect pick notes line))
after-line pick before line notes e is fine = by (is_ballot_line line) notes.has_ballot refl refl (or_else-parts (fault_if (nat_lt most_line_bytes (length line)) LongLine) _ fine).1
  where
    by : (b s : Bool) → is_ballot_line line ≡ b → notes.has_ballot ≡ s → cond b (ballot_error pick notes (ballot_of line)) (cond s None (told_error notes (told_of line))) ≡ None
        → IsAfter pick (before ++ line ∷ []) (cond b (record notes { has_ballot = true }) (cond s notes (told_notes pick notes (told_of line)))) (with_effect e (cond b (cast_effect pick notes (ballot_of line)) (cond s NoEffect (told_effect notes (told_of line)))))
    by true false f g h = after-first pick before line notes e is g f (is_cast pick before line notes h)
    by true true f g h = after-ballot pick before line notes e is g f (is_cast pick before line notes h)
    by false true f g h = after-skipped pick before line notes e is g f
    by false false f g h = after-told pick before line notes e is g f h

-- ---- a line that takes memory

-- a name of a candidate, which has bytes
takes_name : (before : List (List ℕ)) (notes : Notes) (e : Election) (told : Fact) → notes.alternatives ≡ alternatives_in before → effect_takes e (told_effect notes told) ≡ true → is_name before told ≡ true
takes_name before notes e (NameIs n value) is h = ap (λ o. may_be_candidate o n && not (is_empty value)) (sym is) ∙ by (may_be_candidate notes.alternatives n) h
  where
    by : (t : Bool) → effect_takes e (cond t (Names n value) NoEffect) ≡ true → (t && not (is_empty value)) ≡ true
    by true g = g
    by false g = absurd (cc)
takes_name before notes e told is h = absurd (cc)

-- a ballot that makes a new row
takes_row : (e : Election) (has : Bool) (alternatives : Option ℕ) (m : ℕ) (set : List ℕ) (count : ℕ) → alternatives ≡ Some m → (has ≡ false → e.rows ≡ [])
    → effect_takes e (Casts (cond has None alternatives) set count) ≡ true → length e.rows < length (with_effect e (Casts (cond has None alternatives) set count)).rows
takes_row e true alternatives m set count is empty h = length-with_votes e.rows set count (not-true (has_ballot e.rows set) h)
takes_row e false None m set count is empty h = absurd (cc)
takes_row e false (Some k) m set count is empty h = omega (arith, ap length (empty refl))

-- what takes memory is a growth
pub is_growth-is : (pick : Pick) (before : List (List ℕ)) (line : List ℕ) (notes : Notes) (e : Election) → IsAfter pick before notes e → line_error pick notes line ≡ None
    → effect_takes e (line_effect pick notes line) ≡ true → is_growth pick ballot_of before line ≡ true
is_growth-is pick before line notes e is fine takes =
    by (is_ballot_line line) notes.has_ballot refl refl (or_else-parts (fault_if (nat_lt most_line_bytes (length line)) LongLine) _ fine).1 takes
  where
    name : Bool
    name = not (has_ballot_line before) && is_name before (told_of line)

    row : Bool
    row = nat_lt (length (rows_in pick ballot_of before)) (length (rows_in pick ballot_of (before ++ line ∷ [])))

    next : rows_in pick ballot_of (before ++ line ∷ []) ≡ (with_effect e (line_effect pick notes line)).rows
    next = sym (rows_are pick (before ++ line ∷ []) (line_notes pick notes line) (with_effect e (line_effect pick notes line)) (after-line pick before line notes e is fine))

    grown : (effect : Effect) → line_effect pick notes line ≡ effect → length e.rows < length (with_effect e effect).rows → row ≡ true
    grown effect same more =
        ap (λ l. nat_lt (length l) (length (rows_in pick ballot_of (before ++ line ∷ [])))) (sym (rows_are pick before notes e is))
        ∙ ap (λ l. nat_lt (length e.rows) (length l)) (next ∙ ap (λ f. (with_effect e f).rows) same)
        ∙ lt-ltb (length e.rows) (length (with_effect e effect).rows) more

    of_ballot : is_ballot_line line ≡ true → IsCast pick before line notes → effect_takes e (cast_effect pick notes (ballot_of line)) ≡ true → row ≡ true
    of_ballot f (m, kind, cast, alternatives, known, read, good) h =
        let effect = cast_effect-is pick line notes cast read in
        let line_is : line_effect pick notes line ≡ cast_effect pick notes (Some cast) = ap (λ t. cond t (cast_effect pick notes (ballot_of line)) (cond notes.has_ballot NoEffect (told_effect notes (told_of line)))) f ∙ effect in
        grown (cast_effect pick notes (Some cast)) line_is
        (takes_row e notes.has_ballot notes.alternatives m (approved (kind_or_usual notes.kind) pick.way cast.classes) cast.count alternatives (λ none. (is.opened none).1) (sym (ap (effect_takes e) effect) ∙ h))

    by : (b s : Bool) → is_ballot_line line ≡ b → notes.has_ballot ≡ s → cond b (ballot_error pick notes (ballot_of line)) (cond s None (told_error notes (told_of line))) ≡ None
        → effect_takes e (cond b (cast_effect pick notes (ballot_of line)) (cond s NoEffect (told_effect notes (told_of line)))) ≡ true → (name || row) ≡ true
    by true s f g h t = or_right name row (of_ballot f (is_cast pick before line notes h) t)
    by false true f g h t = absurd (cc)
    by false false f g h t = or_left name row (ap (λ b. not b && is_name before (told_of line)) (sym is.ballots ∙ g) ∙ takes_name before notes e (told_of line) is.told.alternatives t)

-- ---- the end

pub end_error-is : (pick : Pick) (lines : List (List ℕ)) (notes : Notes) (e : Election) → IsAfter pick lines notes e → end_error notes e ≡ end_fault lines
end_error-is pick lines notes e is =
    ap (λ o. or_else (fault_if (not (is_some o)) NoAlternatives) (fault_if (is_empty e.rows) NoVoters)) is.told.alternatives
    ∙ ap (λ t. or_else (fault_if (not (is_some (alternatives_in lines))) NoAlternatives) (fault_if t NoVoters)) (by notes.has_ballot refl)
  where
    none : (rows : List Row) → rows ≡ [] → is_empty rows ≡ true
    none [] h = refl
    none (row ∷ rows) h = absurd (cc)

    some : (rows : List Row) → rows ≢ [] → is_empty rows ≡ false
    some [] h = absurd (h refl)
    some (row ∷ rows) h = refl

    by : (t : Bool) → notes.has_ballot ≡ t → is_empty e.rows ≡ not (has_ballot_line lines)
    by true h = some e.rows ((is.begun h).3) ∙ sym (ap not (sym is.ballots ∙ h))
    by false h = none e.rows (is.opened h).1 ∙ sym (ap not (sym is.ballots ∙ h))

-- where a ballot was read the profile is that of the lines
pub election_in-is : (pick : Pick) (lines : List (List ℕ)) (notes : Notes) (e : Election) → IsAfter pick lines notes e → end_error notes e ≡ None → e ≡ election_in pick ballot_of lines
election_in-is pick lines notes e is fine = by notes.has_ballot refl
  where
    by : (t : Bool) → notes.has_ballot ≡ t → e ≡ election_in pick ballot_of lines
    by true h =
        let (m, number, profile, rows) = is.begun h in
        profile ∙ ap (λ k. election m (last_names (told_before lines) m) (cast_rows (kind_or_usual k) pick.way (casts_in pick ballot_of lines))) is.told.kind
        ∙ ap (λ n. election n (last_names (told_before lines) n) (rows_in pick ballot_of lines)) (ap (λ o. unwrap_or o 0) (sym number ∙ is.told.alternatives))
    by false h =
        let empty : e.rows ≡ [] = (is.opened h).1 in
        absurd (no_voters e.rows empty (or_else-parts (fault_if (not (is_some notes.alternatives)) NoAlternatives) (fault_if (is_empty e.rows) NoVoters) fine).1)
      where
        no_voters : (rows : List Row) → rows ≡ [] → fault_if (is_empty rows) NoVoters ≡ None → ⊥
        no_voters [] g i = absurd (cc)
        no_voters (row ∷ rows) g i = absurd (cc)

-- ---- all lines

pub is_fine-none : (pick : Pick) → IsFine pick []
is_fine-none pick more = refl

pub is_fine-more : (pick : Pick) (before : List (List ℕ)) (line : List ℕ) → IsFine pick before → line_fault pick ballot_of before line ≡ None → IsFine pick (before ++ line ∷ [])
is_fine-more pick before line fine none more =
    ap (first_faulty_line pick ballot_of []) (append_assoc before (line ∷ []) more) ∙ fine (line ∷ more)
    ∙ ap (λ o. or_else (option_map (faulty_line (length before + 1)) o) (first_faulty_line pick ballot_of (before ++ line ∷ []) more)) none

-- among them no line has a fault
pub none_faulty : (pick : Pick) (before : List (List ℕ)) → IsFine pick before → first_faulty_line pick ballot_of [] before ≡ None
none_faulty pick before fine = ap (first_faulty_line pick ballot_of []) (sym (append-nil before)) ∙ fine []

fault_of_lines : (pick : Pick) (lines : List (List ℕ)) (faulty : Option FaultyLine) → first_faulty_line pick ballot_of [] lines ≡ faulty
    → first_fault pick ballot_of lines ≡ or_else (option_map fault_of_line faulty) (option_map at_end (end_fault lines))
fault_of_lines pick lines faulty is = ap (λ o. or_else (option_map fault_of_line o) (option_map at_end (end_fault lines))) is

-- the fault of the end
pub fault_at_end : (pick : Pick) (lines : List (List ℕ)) → IsFine pick lines → first_fault pick ballot_of lines ≡ option_map at_end (end_fault lines)
fault_at_end pick lines fine = fault_of_lines pick lines None (none_faulty pick lines fine)

-- the first line with a fault
pub faulty_at : (pick : Pick) (before : List (List ℕ)) (line : List ℕ) (more : List (List ℕ)) (name : FaultName) → IsFine pick before → line_fault pick ballot_of before line ≡ Some name
    → first_faulty_line pick ballot_of [] (before ++ line ∷ more) ≡ Some (faulty_line (length before + 1) name)
faulty_at pick before line more name fine fault =
    fine (line ∷ more) ∙ ap (λ o. or_else (option_map (faulty_line (length before + 1)) o) (first_faulty_line pick ballot_of (before ++ line ∷ []) more)) fault

-- a place in an input: the lines before it, none with a fault, and what was made of them
pub record IsAt (pick : Pick) (bytes : List ℕ) (rest : List ℕ) (notes : Notes) (e : Election) (number : ℕ) : Type 0 where
  pub before : List (List ℕ)
  pub lines : lines_of bytes ≡ before ++ map without_return (pieces_of rest)
  pub fine : IsFine pick before
  pub after : IsAfter pick before notes e
  pub count : number ≡ length before
  pub room : number + length rest ≤ length bytes
