-- What the reader keeps of a metadata line.
use Rattle.std.specs.Prelude.{ℕ, ◌+◌, ◌-◌, ◌*◌, List, [], ◌∷◌, Option, Some, None, if◌then◌else◌}
use Rattle.std.specs.Char.{is_ascii_digit}
use Rattle.preflib_text.specs.declared.metadata.Fact as rust
use Rattle.preflib_text.specs.declared.metadata.Fact.TheVariants as told
use Rattle.preflib_text.specs.Steps.Tokens.{capped}
use Rattle.preflib_text.specs.Metadata.{Fact, TypeIs, AlternativesAre, CategoriesAre, NameIs, Nothing}

-- the number `n`, continued with these digits
unfoldable pub digits_after : ℕ → List ℕ → Option ℕ
digits_after n [] = Some n
digits_after n (b ∷ bytes) = if is_ascii_digit b then digits_after (capped (10 * n + (b - 48))) bytes else None

-- a word before others, if it has bytes
abbrev pub words_with : List ℕ → List (List ℕ) → List (List ℕ)
words_with [] words = words
words_with (b ∷ bytes) words = (b ∷ bytes) ∷ words

-- the fact, with its number capped
abbrev pub capped_told : Fact → Fact
capped_told (NameIs n value) = NameIs (capped n) value
capped_told told = told

-- the fact that the reader's value stands for
abbrev pub meant : rust.Fact → Fact
meant (told.Type value) = TypeIs value.now
meant (told.Alternatives value) = AlternativesAre value.now
meant (told.Categories value) = CategoriesAre value.now
meant (told.Name n value) = NameIs n value.now
meant told.Nothing = Nothing
