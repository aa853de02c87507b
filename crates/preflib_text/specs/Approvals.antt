-- Which candidates a ballot approves. That a class of a ballot is an approval is this project's reading.
use Rattle.std.specs.Prelude.{⊤, ℕ, ◌-◌, ◌≤◌, List, [], ◌∷◌, ◌++◌, length, take, fold, flat_map, unwrap_or}
use Rattle.std.specs.Prelude.{slice_get, nat_le, if◌then◌else◌}
use Rattle.ballot_base.specs.CandSet.{with_member}
use Rattle.preflib_text.specs.declared.pick.Kind.{Kind}
use Rattle.preflib_text.specs.declared.pick.Kind.TheVariants.{Cat}
use Rattle.preflib_text.specs.declared.pick.Way.{Way}
use Rattle.preflib_text.specs.declared.pick.Way.TheVariants.{Usual, Category, SetSize, Classes}

-- the number of a way is at least 1
abbrev pub HasNumber : Way → Type 0
HasNumber (Category n) = 1 ≤ n
HasNumber (SetSize n) = 1 ≤ n
HasNumber (Classes n) = 1 ≤ n
HasNumber Usual = ⊤

-- the set of numbers, as the increasing list of its members
abbrev pub set_of : List ℕ → List ℕ
set_of numbers = fold with_member [] numbers

-- the numbers of the top classes, as many as it takes to reach n numbers, or of all classes
abbrev pub first_numbers : ℕ → List (List ℕ) → List ℕ
first_numbers n [] = []
first_numbers n (class ∷ classes) =
    if nat_le n (length class) then class else class ++ first_numbers (n - length class) classes

-- the numbers that the usual way takes: those of the first category, or those of the first class of a ranking that has
-- a number
abbrev pub usual_numbers : Kind → List (List ℕ) → List ℕ
usual_numbers Cat classes = unwrap_or (slice_get classes 0) []
usual_numbers kind classes = first_numbers 1 classes

-- the numbers that are taken in a file of this type
abbrev pub taken_numbers : Kind → Way → List (List ℕ) → List ℕ
taken_numbers kind Usual classes = usual_numbers kind classes
taken_numbers kind (Category n) classes = unwrap_or (slice_get classes (n - 1)) []
taken_numbers kind (SetSize n) classes = first_numbers n classes
taken_numbers kind (Classes n) classes = flat_map (λ class. class) (take n classes)

-- the candidates that are approved
abbrev pub approved : Kind → Way → List (List ℕ) → List ℕ
approved kind way classes = set_of (taken_numbers kind way classes)
