-- What the lines before the first ballot tell, line by line.
use Rattle.std.proofs.lemmas.List.Sums.{take_while-cons}
use Rattle.std.proofs.Common.{◌≡◌, ℕ, ◌≤◌, ◌==◌, ◌||◌, Bool, true, false, not, cond, List, [], ◌∷◌, ◌++◌, refl, sym, ap, ◌∙◌, arith, map, filter_map, append-nil, Option, Some, None, option_and_then, unwrap_or, Result}
use Rattle.std.specs.Prelude.{nat_lt, slice_get}
use Rattle.std.specs.List.{list_any, take_while, cons_option}
use Rattle.std.proofs.lemmas.List.{reverse-append}
use Rattle.std.proofs.lemmas.List.Elements.{filter_map-append}
use Rattle.ballot_base.specs.Limits.{most_candidates}
use Rattle.preflib_text.specs.Limits.{most_categories}
use Rattle.preflib_text.specs.declared.pick.Kind.{Kind}
use Rattle.preflib_text.specs.declared.pick.Pick.{Pick}
use Rattle.preflib_text.specs.declared.fault.FaultName.{FaultName}
use Rattle.preflib_text.specs.declared.fault.FaultName.TheVariants.{BadNumber, TooManyCandidates, ConflictingKey}
use Rattle.preflib_text.specs.declared.notes.Notes.{Notes}
use Rattle.preflib_text.specs.Lines.{is_ballot_line}
use Rattle.preflib_text.specs.Metadata.{Fact, TypeIs, AlternativesAre, CategoriesAre, told_of, written_number}
use Rattle.preflib_text.specs.Reading.{or_else, told_before, alternatives_value, categories_value, type_value, last_of, kind_by, number_fault}
use Rattle.preflib_text.specs.Steps.Notes.{kind_with, told_error, told_notes}
use Rattle.preflib_text.specs.Steps.After.{first_number, IsTold}

-- ---- what is told when a line more comes

-- a line that passes a test that no ballot line does, or does not
told_before-cons : (line : List ℕ) (lines : List (List ℕ)) → told_before (line ∷ lines) ≡ cond (is_ballot_line line) [] (told_of line ∷ told_before lines)
told_before-cons line lines = ap (map told_of) (take_while-cons (λ l. not (is_ballot_line l)) line lines) ∙ by (is_ballot_line line)
  where
    by : (t : Bool) → map told_of (cond (not t) (line ∷ take_while (λ l. not (is_ballot_line l)) lines) []) ≡ cond t [] (told_of line ∷ told_before lines)
    by true = refl
    by false = refl

told_before-ballot : (line : List ℕ) (lines : List (List ℕ)) → is_ballot_line line ≡ true → told_before (line ∷ lines) ≡ []
told_before-ballot line lines is = told_before-cons line lines ∙ ap (λ t. cond t [] (told_of line ∷ told_before lines)) is

told_before-other : (line : List ℕ) (lines : List (List ℕ)) → is_ballot_line line ≡ false → told_before (line ∷ lines) ≡ told_of line ∷ told_before lines
told_before-other line lines other = told_before-cons line lines ∙ ap (λ t. cond t [] (told_of line ∷ told_before lines)) other

-- from the first ballot on nothing is told
pub told_before-kept : (before : List (List ℕ)) (line : List ℕ) → (list_any is_ballot_line before || is_ballot_line line) ≡ true → told_before (before ++ line ∷ []) ≡ told_before before
told_before-kept [] line some = told_before-ballot line [] some
told_before-kept (first ∷ before) line some = by (is_ballot_line first) refl some (told_before-kept before line)
  where
    by : (t : Bool) → is_ballot_line first ≡ t → ((t || list_any is_ballot_line before) || is_ballot_line line) ≡ true
        → ((list_any is_ballot_line before || is_ballot_line line) ≡ true → told_before (before ++ line ∷ []) ≡ told_before before)
        → told_before (first ∷ before ++ line ∷ []) ≡ told_before (first ∷ before)
    by true e h rest = told_before-ballot first (before ++ line ∷ []) e ∙ sym (told_before-ballot first before e)
    by false e h rest = told_before-other first (before ++ line ∷ []) e ∙ ap (λ l. told_of first ∷ l) (rest h) ∙ sym (told_before-other first before e)

pub told_before-more : (before : List (List ℕ)) (line : List ℕ) → list_any is_ballot_line before ≡ false → is_ballot_line line ≡ false → told_before (before ++ line ∷ []) ≡ told_before before ++ told_of line ∷ []
told_before-more [] line none other = told_before-other line [] other
told_before-more (first ∷ before) line none other = by (is_ballot_line first) refl none (told_before-more before line)
  where
    by : (t : Bool) → is_ballot_line first ≡ t → (t || list_any is_ballot_line before) ≡ false
        → (list_any is_ballot_line before ≡ false → is_ballot_line line ≡ false → told_before (before ++ line ∷ []) ≡ told_before before ++ told_of line ∷ [])
        → told_before (first ∷ before ++ line ∷ []) ≡ told_before (first ∷ before) ++ told_of line ∷ []
    by true e h rest = absurd (cc)
    by false e h rest = told_before-other first (before ++ line ∷ []) e ∙ ap (λ l. told_of first ∷ l) (rest h other) ∙ sym (ap (λ l. l ++ told_of line ∷ []) (told_before-other first before e))

-- ---- values when one thing more is told

module _ (h : Fact → Option (List ℕ)) (tolds : List Fact) (told : Fact) where
  values-kept : h told ≡ None → filter_map h (tolds ++ told ∷ []) ≡ filter_map h tolds
  values-kept none = filter_map-append h tolds (told ∷ []) ∙ ap (λ o. filter_map h tolds ++ cons_option o []) none ∙ append-nil (filter_map h tolds)

  values-more : (value : List ℕ) → h told ≡ Some value → filter_map h (tolds ++ told ∷ []) ≡ filter_map h tolds ++ value ∷ []
  values-more value some = filter_map-append h tolds (told ∷ []) ∙ ap (λ o. filter_map h tolds ++ cons_option o []) some

last_of-push : (values : List (List ℕ)) (value : List ℕ) → last_of (values ++ value ∷ []) ≡ Some value
last_of-push values value = ap (λ l. slice_get l 0) (reverse-append values (value ∷ []))

-- a number without a fault
abbrev pub IsNumberWithin : Option ℕ → ℕ → Option ℕ → Type 0
IsNumberWithin noted most number = (n : ℕ) × (number ≡ Some n) × (1 ≤ n) × (n ≤ most) × ((unwrap_or noted n == n) ≡ true)

pub number_within : (name : FaultName) (most : ℕ) (noted number : Option ℕ) → number_fault (Some name) most noted number ≡ None → IsNumberWithin noted most number
number_within name most noted None fault = absurd (cc)
number_within name most noted (Some n) fault = by (n == 0) (nat_lt most n) (unwrap_or noted n == n) refl refl refl fault
  where
    by : (zero above same : Bool) → (n == 0) ≡ zero → nat_lt most n ≡ above → (unwrap_or noted n == n) ≡ same
        → or_else (cond zero (Some BadNumber) None) (or_else (cond above (Some name) None) (cond (not same) (Some ConflictingKey) None)) ≡ None → IsNumberWithin noted most (Some n)
    by true above same e f g h = absurd (cc)
    by false true same e f g h = absurd (cc)
    by false false false e f g h = absurd (cc)
    by false false true e f g h = (n, refl, grind arith, grind arith, g)

-- a number is told again, or for the first time
number-again : (h : Fact → Option (List ℕ)) (tolds : List Fact) (told : Fact) (value : List ℕ) (noted : Option ℕ) (most : ℕ) → h told ≡ Some value
    → noted ≡ first_number h tolds → (noted ≡ None → filter_map h tolds ≡ []) → IsNumberWithin noted most (written_number value) → written_number value ≡ first_number h (tolds ++ told ∷ [])
number-again h tolds told value noted most is first none (n, is_n, low, high, same) =
    by (filter_map h tolds) refl noted first none same ∙ sym (ap (λ l. option_and_then written_number (slice_get l 0)) (values-more h tolds told value is))
  where
    by : (values : List (List ℕ)) → filter_map h tolds ≡ values → (k : Option ℕ) → k ≡ first_number h tolds → (k ≡ None → filter_map h tolds ≡ []) → (unwrap_or k n == n) ≡ true
        → written_number value ≡ option_and_then written_number (slice_get (filter_map h tolds ++ value ∷ []) 0)
    by [] e k f g s = sym (ap (λ l. option_and_then written_number (slice_get (l ++ value ∷ []) 0)) e)
    by (v ∷ values) e None f g s = let empty = g refl in absurd (cc)
    by (v ∷ values) e (Some k) f g s =
        let equal : k ≡ n = grind arith in
        is_n ∙ ap Some (sym equal) ∙ f ∙ ap (λ l. option_and_then written_number (slice_get l 0)) e ∙ sym (ap (λ l. option_and_then written_number (slice_get (l ++ value ∷ []) 0)) e)

-- ---- the notes

-- something is told that is neither number nor type
told-other : (pick : Pick) (tolds : List Fact) (notes : Notes) (told : Fact) → IsTold pick tolds notes → alternatives_value told ≡ None → categories_value told ≡ None → type_value told ≡ None → IsTold pick (tolds ++ told ∷ []) notes
told-other pick tolds notes told is a c t = record {
  alternatives = is.alternatives ∙ ap (λ l. option_and_then written_number (slice_get l 0)) (sym (values-kept alternatives_value tolds told a));
  categories = is.categories ∙ ap (λ l. option_and_then written_number (slice_get l 0)) (sym (values-kept categories_value tolds told c));
  kind = is.kind ∙ ap (λ l. kind_by pick.kind (last_of l) pick.ending) (sym (values-kept type_value tolds told t));
  no_alternatives = λ none. values-kept alternatives_value tolds told a ∙ is.no_alternatives none;
  no_categories = λ none. values-kept categories_value tolds told c ∙ is.no_categories none;
  sound = is.sound;
}

-- the type is told again
kind-again : (given : Option Kind) (noted : Result Kind FaultName) (before : Option (List ℕ)) (ending : Option Kind) (value : List ℕ) → noted ≡ kind_by given before ending → kind_with given noted value ≡ kind_by given (Some value) ending
kind-again (Some kind) noted before ending value is = is
kind-again None noted before ending value is = refl

some_none : (n : ℕ) (o : Option ℕ) {X : Type 0} → o ≡ Some n → o ≡ None → X
some_none n o some none = absurd (cc)

-- notes without a fault hold what is told next
pub told-step : (pick : Pick) (tolds : List Fact) (notes : Notes) (told : Fact) → IsTold pick tolds notes → told_error notes told ≡ None → IsTold pick (tolds ++ told ∷ []) (told_notes pick notes told)
told-step pick tolds notes (AlternativesAre value) is fine =
    let within = number_within TooManyCandidates most_candidates notes.alternatives (written_number value) fine in
    let told = AlternativesAre value in
    record {
      alternatives = number-again alternatives_value tolds told value notes.alternatives most_candidates refl is.alternatives is.no_alternatives within;
      categories = is.categories ∙ ap (λ l. option_and_then written_number (slice_get l 0)) (sym (values-kept categories_value tolds told refl));
      kind = is.kind ∙ ap (λ l. kind_by pick.kind (last_of l) pick.ending) (sym (values-kept type_value tolds told refl));
      no_alternatives = λ none. some_none within.0 (written_number value) within.1 none;
      no_categories = λ none. values-kept categories_value tolds told refl ∙ is.no_categories none;
      sound = rw within.1 (within.2, within.3);
    }
told-step pick tolds notes (CategoriesAre value) is fine =
    let within = number_within BadNumber most_categories notes.categories (written_number value) fine in
    let told = CategoriesAre value in
    record {
      alternatives = is.alternatives ∙ ap (λ l. option_and_then written_number (slice_get l 0)) (sym (values-kept alternatives_value tolds told refl));
      categories = number-again categories_value tolds told value notes.categories most_categories refl is.categories is.no_categories within;
      kind = is.kind ∙ ap (λ l. kind_by pick.kind (last_of l) pick.ending) (sym (values-kept type_value tolds told refl));
      no_alternatives = λ none. values-kept alternatives_value tolds told refl ∙ is.no_alternatives none;
      no_categories = λ none. some_none within.0 (written_number value) within.1 none;
      sound = is.sound;
    }
told-step pick tolds notes (TypeIs value) is fine =
    let told = TypeIs value in
    record {
      alternatives = is.alternatives ∙ ap (λ l. option_and_then written_number (slice_get l 0)) (sym (values-kept alternatives_value tolds told refl));
      categories = is.categories ∙ ap (λ l. option_and_then written_number (slice_get l 0)) (sym (values-kept categories_value tolds told refl));
      kind = kind-again pick.kind notes.kind (last_of (filter_map type_value tolds)) pick.ending value is.kind
          ∙ ap (λ o. kind_by pick.kind o pick.ending) (sym (ap last_of (values-more type_value tolds told value refl) ∙ last_of-push (filter_map type_value tolds) value));
      no_alternatives = λ none. values-kept alternatives_value tolds told refl ∙ is.no_alternatives none;
      no_categories = λ none. values-kept categories_value tolds told refl ∙ is.no_categories none;
      sound = is.sound;
    }
told-step pick tolds notes told is fine = told-other pick tolds notes told is refl refl refl
