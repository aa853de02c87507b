-- What a ballot line is (PrefLib data format), as a relation between its bytes, its count and its classes.
use Rattle.std.specs.Prelude.{◌≡◌, ◌⊎◌, ℕ, ◌<◌, List, [], ◌∷◌, ◌++◌, length, true}
use Rattle.std.specs.List.{list_all}
use Rattle.std.specs.Str.{all_ascii_digits}
use Rattle.std.specs.Str.Parse.{digits_value}
use Rattle.preflib_text.specs.Lines.{is_blank}

-- only blanks, or nothing
abbrev pub IsBlanks : List ℕ → Type 0
IsBlanks bytes = list_all is_blank bytes ≡ true

-- one or more digits that stand for this number; zeros may come first
abbrev pub IsDigits : List ℕ → ℕ → Type 0
IsDigits bytes n = (0 < length bytes) × (all_ascii_digits bytes ≡ true) × (n ≡ digits_value 10 bytes)

-- a text with blanks before it and after it
abbrev pub IsPadded : (List ℕ → Type 0) → List ℕ → Type 0
IsPadded IsText bytes = (before text after : List ℕ) × (bytes ≡ before ++ text ++ after)
    × IsBlanks before × IsText text × IsBlanks after

-- a number
abbrev pub IsNumber : List ℕ → ℕ → Type 0
IsNumber bytes n = IsPadded (λ text. IsDigits text n) bytes

-- one or more items, with a comma between each two
abbrev pub IsJoined : {X : Type 0} → (List ℕ → X → Type 0) → List ℕ → List X → Type 0
IsJoined IsItem bytes [] = ⊥
IsJoined IsItem bytes (x ∷ []) = IsItem bytes x
IsJoined IsItem bytes (x ∷ y ∷ xs) =
    (front rest : List ℕ) × (bytes ≡ front ++ 44 ∷ rest) × IsItem front x × IsJoined IsItem rest (y ∷ xs)

-- numbers between braces, or none
abbrev pub IsBraced : List ℕ → List ℕ → Type 0
IsBraced text numbers = (inside : List ℕ) × (text ≡ 123 ∷ inside ++ 125 ∷ [])
    × (((numbers ≡ []) × IsBlanks inside) ⊎ IsJoined IsNumber inside numbers)

-- a class: a number, or numbers between braces
abbrev pub IsClass : List ℕ → List ℕ → Type 0
IsClass bytes numbers =
    ((n : ℕ) × (numbers ≡ n ∷ []) × IsNumber bytes n) ⊎ IsPadded (λ text. IsBraced text numbers) bytes

-- an order: classes, or nothing
abbrev pub IsOrder : List ℕ → List (List ℕ) → Type 0
IsOrder bytes classes = ((classes ≡ []) × IsBlanks bytes) ⊎ IsJoined IsClass bytes classes

-- a ballot line: a count, a colon and an order
abbrev pub IsBallotLine : List ℕ → ℕ → List (List ℕ) → Type 0
IsBallotLine bytes count classes =
    (front rest : List ℕ) × (bytes ≡ front ++ 58 ∷ rest) × IsNumber front count × IsOrder rest classes
