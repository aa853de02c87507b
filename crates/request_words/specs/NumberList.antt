-- A list of numbers in a word of the command line.
use Rattle.std.specs.Prelude.{◌&&◌, ◌==◌, ◌^◌, ℕ, List, [], ◌∷◌, Option, Some, None, if◌then◌else◌, length, map, nat_lt, option_and_then, option_map}
use Rattle.std.specs.List.{slice_split}
use Rattle.std.specs.Str.{all_ascii_digits}
use Rattle.std.specs.Str.Parse.{digits_value}

-- the number that one or more digits stand for, if it is below 2^64
abbrev pub entry_of : List ℕ → Option ℕ
entry_of text = if nat_lt 0 (length text) && all_ascii_digits text && nat_lt (digits_value 10 text) (2 ^ 64)
    then Some (digits_value 10 text) else None

-- all values; none if one is missing
abbrev pub all_there : List (Option ℕ) → Option (List ℕ)
all_there [] = Some []
all_there (value ∷ values) = option_and_then (λ n. option_map (λ ns. n ∷ ns) (all_there values)) value

-- the numbers between commas, if each is one
abbrev pub list_of : List ℕ → Option (List ℕ)
list_of text = all_there (map entry_of (slice_split (λ b. b == 44) text))
