-- The metadata of a ballot file (PrefLib data format).
use Rattle.std.specs.Prelude.{ℕ, ◌==◌, ◌&&◌, Bool, true, false, List, [], ◌∷◌, drop, reverse, length, codes, Option}
use Rattle.std.specs.Prelude.{Some, None, nat_lt, if◌then◌else◌}
use Rattle.std.specs.List.{list_any, before_first, after_first}
use Rattle.std.specs.Str.{all_ascii_digits, str_eq_ignore_ascii_case}
use Rattle.std.specs.Str.Parse.{digits_value}
use Rattle.preflib_text.specs.Lines.{is_blank, onto_first, trim_start, is_metadata_line}

-- without blanks at either end
abbrev pub trimmed : List ℕ → List ℕ
trimmed bytes = reverse (trim_start (reverse (trim_start bytes)))

-- whether a blank or nothing comes first
abbrev pub begins_blank : List ℕ → Bool
begins_blank [] = true
begins_blank (b ∷ bytes) = is_blank b

-- the words between blanks
unfoldable pub words_of : List ℕ → List (List ℕ)
words_of [] = []
words_of (b ∷ bytes) = if is_blank b then words_of bytes
    else (if begins_blank bytes then (b ∷ []) ∷ words_of bytes else onto_first b (words_of bytes))

-- a metadata line: the words of its key, and its value
pub record Entry : Type 0 where
  pub key : List (List ℕ)
  pub value : List ℕ

-- the entry of a metadata line: the text after its `#`, cut at the first colon; none without a colon
abbrev pub key_and_value : List ℕ → Option Entry
key_and_value line =
    let text = drop 1 (trim_start line) in
    if is_metadata_line line && list_any (λ b. b == 58) text
    then Some (record {
      key = words_of (before_first (λ b. b == 58) text);
      value = trimmed (after_first (λ b. b == 58) text);
    })
    else None

-- whether the words are equal except for the case of their letters
abbrev pub same_words : List (List ℕ) → List (List ℕ) → Bool
same_words [] [] = true
same_words (a ∷ as') (b ∷ bs) = str_eq_ignore_ascii_case a b && same_words as' bs
same_words [] (b ∷ bs) = false
same_words (a ∷ as') [] = false

-- the number that one or more digits stand for
abbrev pub written_number : List ℕ → Option ℕ
written_number bytes =
    if nat_lt 0 (length bytes) && all_ascii_digits bytes then Some (digits_value 10 bytes) else None

-- the fact that a metadata line states
pub data Fact : Type 0 where
  TypeIs : List ℕ → Fact
  AlternativesAre : List ℕ → Fact
  CategoriesAre : List ℕ → Fact
  NameIs : ℕ → List ℕ → Fact
  Nothing : Fact

-- the name of a candidate, if the last word of its key is a number
abbrev pub name_told : List (List ℕ) → List ℕ → Fact
name_told (a ∷ b ∷ n ∷ []) value =
    if same_words (a ∷ b ∷ []) (codes "ALTERNATIVE" ∷ codes "NAME" ∷ []) then told_name (written_number n) value
    else Nothing
  where
    told_name : Option ℕ → List ℕ → Fact
    told_name None value = Nothing
    told_name (Some n) value = NameIs n value
name_told key value = Nothing

abbrev pub told_by : Entry → Fact
told_by e = if same_words e.key (codes "DATA" ∷ codes "TYPE" ∷ []) then TypeIs e.value
    else (if same_words e.key (codes "NUMBER" ∷ codes "ALTERNATIVES" ∷ []) then AlternativesAre e.value
    else (if same_words e.key (codes "NUMBER" ∷ codes "CATEGORIES" ∷ []) then CategoriesAre e.value
    else name_told e.key e.value))

-- the fact that a line states
abbrev pub told_in : Option Entry → Fact
told_in None = Nothing
told_in (Some e) = told_by e

abbrev pub told_of : List ℕ → Fact
told_of line = told_in (key_and_value line)
