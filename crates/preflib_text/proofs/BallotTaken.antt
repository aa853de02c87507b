-- The numbers that are taken, class by class.
use Rattle.std.proofs.Common.{◌≡◌, ℕ, zero, suc, ◌+◌, ◌-◌, ◌≤◌, cond, List, [], ◌∷◌, ◌++◌, length, take, refl, ap, ◌∙◌, arith, inl, inr}
use Rattle.std.specs.Prelude.{flat_map, unwrap_or, slice_get}
use Rattle.std.proofs.lemmas.Bool.{cases_lt, lt-ltb, le-ltb, le-leb, lt-leb, eq-eqb, ne_eqb}
use Rattle.std.proofs.lemmas.List.{append-nil}
use Rattle.preflib_text.specs.declared.approvals.Taking.{Taking}
use Rattle.preflib_text.specs.declared.approvals.Taking.TheVariants.{Category, SetSize, Classes}
use Rattle.preflib_text.specs.declared.pick.Way.{Way}
use Rattle.preflib_text.specs.declared.pick.Way.TheVariants as given
use Rattle.preflib_text.specs.declared.pick.Kind.{Kind}
use Rattle.preflib_text.specs.declared.pick.Kind.TheVariants.{Cat}
use Rattle.preflib_text.specs.Approvals.{HasNumber, usual_numbers, first_numbers, taken_numbers}
use Rattle.preflib_text.specs.Steps.Marks.{usual_taking, taking_of, takes}

-- the numbers that are taken of classes that stand after so many others with so many numbers
abbrev pub taken_from : Taking → ℕ → ℕ → List (List ℕ) → List ℕ
taken_from way k b [] = []
taken_from way k b (class ∷ classes) = cond (takes way k b) class [] ++ taken_from way (k + 1) (b + length class) classes

-- ---- a category

category_past : (n k b : ℕ) (classes : List (List ℕ)) → n ≤ k → taken_from (Category n) k b classes ≡ []
category_past n k b [] h = refl
category_past n k b (class ∷ classes) h =
    rw (ne_eqb (k + 1) n (λ e. omega (arith, e))) (category_past n (k + 1) (b + length class) classes (omega arith))

category_at : (n k b j : ℕ) (classes : List (List ℕ)) → n ≡ k + 1 + j → taken_from (Category n) k b classes ≡ unwrap_or (slice_get classes j) []
category_at n k b j [] e = refl
category_at n k b zero (class ∷ classes) e =
    rw (eq-eqb (k + 1) n (omega arith)) (ap (λ (t : List ℕ). class ++ t) (category_past n (k + 1) (b + length class) classes (omega arith)) ∙ append-nil class)
category_at n k b (suc j) (class ∷ classes) e =
    rw (ne_eqb (k + 1) n (λ d. omega (arith, d))) (category_at n (k + 1) (b + length class) j classes (omega arith))

-- ---- first classes with so many numbers

size_past : (n k b : ℕ) (classes : List (List ℕ)) → n ≤ b → taken_from (SetSize n) k b classes ≡ []
size_past n k b [] h = refl
size_past n k b (class ∷ classes) h =
    rw (le-ltb b n h) (size_past n (k + 1) (b + length class) classes (omega arith))

size_at : (n k b r : ℕ) (classes : List (List ℕ)) → n ≡ b + r → 1 ≤ r → taken_from (SetSize n) k b classes ≡ first_numbers r classes
size_at n k b r [] e some = refl
size_at n k b r (class ∷ classes) e some =
    elim (cases_lt (length class) r) [
      | inl few ↦ rw (lt-ltb b n (omega arith), lt-leb r (length class) few) (ap (λ (t : List ℕ). class ++ t) (size_at n (k + 1) (b + length class) (r - length class) classes (omega arith) (omega arith)))
      | inr all ↦ rw (lt-ltb b n (omega arith), le-leb r (length class) all) (ap (λ (t : List ℕ). class ++ t) (size_past n (k + 1) (b + length class) classes (omega arith)) ∙ append-nil class)
    ]

-- ---- so many classes

classes_past : (n k b : ℕ) (classes : List (List ℕ)) → n ≤ k → taken_from (Classes n) k b classes ≡ []
classes_past n k b [] h = refl
classes_past n k b (class ∷ classes) h =
    rw (le-ltb k n h) (classes_past n (k + 1) (b + length class) classes (omega arith))

classes_at : (n k b r : ℕ) (classes : List (List ℕ)) → n ≡ k + r → taken_from (Classes n) k b classes ≡ flat_map (λ class. class) (take r classes)
classes_at n k b zero classes e = classes_past n k b classes (omega arith)
classes_at n k b (suc r) [] e = refl
classes_at n k b (suc r) (class ∷ classes) e =
    rw (lt-ltb k n (omega arith)) (ap (λ (t : List ℕ). class ++ t) (classes_at n (k + 1) (b + length class) r classes (omega arith)))

-- the numbers that a way takes in a file of this type
category_is : (n : ℕ) (classes : List (List ℕ)) → 1 ≤ n → taken_from (Category n) 0 0 classes ≡ unwrap_or (slice_get classes (n - 1)) []
category_is n classes h = category_at n 0 0 (n - 1) classes (omega arith)

size_is : (n : ℕ) (classes : List (List ℕ)) → 1 ≤ n → taken_from (SetSize n) 0 0 classes ≡ first_numbers n classes
size_is n classes h = size_at n 0 0 n classes (omega arith) h

usual_is : (kind : Kind) (classes : List (List ℕ)) → taken_from (usual_taking kind) 0 0 classes ≡ usual_numbers kind classes
usual_is Cat classes = category_is 1 classes (omega arith)
usual_is kind classes = size_is 1 classes (omega arith)

pub taken_is : (kind : Kind) (way : Way) (classes : List (List ℕ)) → HasNumber way → taken_from (taking_of kind way) 0 0 classes ≡ taken_numbers kind way classes
taken_is kind given.Usual classes h = usual_is kind classes
taken_is kind (given.Category n) classes h = category_is n classes h
taken_is kind (given.SetSize n) classes h = size_is n classes h
taken_is kind (given.Classes n) classes h = classes_at n 0 0 n classes (omega arith)
