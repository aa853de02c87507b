-- How names are printed.
use Rattle.std.specs.Prelude.{◌≡◌, ℕ, Bool, true, false, List, [], ◌∷◌, ◌++◌, Option, Some, None, codes, decimal}
use Rattle.std.specs.Borrow.{Bor}
use Rattle.text_output.specs.Names.{Names, called}
use Rattle.text_output.specs.declared.names.NameSource.{NameSource}
use Rattle.text_output.specs.declared.names.NameSource.TheVariants.{Unwanted, Numbers, Of}

-- the names that a source gives
abbrev pub names_of : {A : Type 0} → NameSource A → Names
names_of Unwanted = None
names_of Numbers = Some []
names_of (Of profile) = Some profile.now.names

-- the names, or none if they are not wanted
abbrev pub names_in : Names → List (List ℕ)
names_in None = []
names_in (Some names) = names

-- a name, with `; ` before it if it is not the first
abbrev pub listed_name : Bool → List (List ℕ) → ℕ → List ℕ
listed_name true names n = called names n
listed_name false names n = codes "; " ++ called names n

-- names, one after the other: the first of them is the first of all, or not
abbrev pub listed_names : Bool → List (List ℕ) → List ℕ → List ℕ
listed_names is_first names [] = []
listed_names is_first names (n ∷ rest) = listed_name is_first names n ++ listed_names false names rest

-- the name of a candidate, if there is one
abbrev pub IsName : List (List ℕ) → ℕ → Option (Bor (List ℕ)) → Type 0
IsName names n None = called names n ≡ decimal n
IsName names n (Some name) = called names n ≡ name.now
