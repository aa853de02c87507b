-- What is read of a list of numbers.
use Rattle.std.proofs.Common.{◌≡◌, ◌∙◌, ◌≢◌, ◌&&◌, ◌++◌, ◌<◌, ◌^◌, ℕ, Bool, List, [], ◌∷◌, length, map, refl, sym, ap, subst, true, false, true≢false, Some, None, Ok, Err, arith}
use Rattle.std.specs.Prelude.{Option, Result, ◌==◌, nat_lt, option_and_then, option_map, slice_index, if◌then◌else◌}
use Rattle.std.specs.Iterator.{AlwaysYields}
use Rattle.std.specs.List.{onto_first, slice_split}
use Rattle.std.specs.Result.{result_ok}
use Rattle.std.specs.Borrow.{Bor}
use Rattle.std.specs.Str.{all_ascii_digits}
use Rattle.std.specs.Str.Iter.{split_steps}
use Rattle.std.specs.Str.Pattern.{FindsChar}
use Rattle.std.specs.declared.str.Split.{Split}
use Rattle.std.specs.Str.Parse.{IsNumeral, ParsesUnsigned, digits_value, without_leading_plus}
use Rattle.std.proofs.lemmas.Bool.{ltb-true, lt-ltb, eqb-true}
use Rattle.std.proofs.lemmas.List.{append_assoc, append-nil}
use Rattle.std.proofs.lemmas.Str.Parse.{IsNumeralModel, numerals_by_value, tells_all_ascii_digits}
use Rattle.clap.proofs.WalkLemmas.{both}
use Rattle.request_words.specs.NumberList.{all_there, entry_of, list_of}

-- ---- one number

own : IsNumeralModel (λ ds. all_ascii_digits ds ≡ true) (digits_value 10)
own = numerals_by_value (λ ds. all_ascii_digits ds ≡ true) tells_all_ascii_digits

is_entry : (text : List ℕ) → IsNumeral 10 text × (digits_value 10 text < 2 ^ 64)
    → (nat_lt 0 (length text) && all_ascii_digits text && nat_lt (digits_value 10 text) (2 ^ 64)) ≡ true
is_entry text is = rw (lt-ltb 0 (length text) is.0.0, own.from text is.0.1, lt-ltb (digits_value 10 text) (2 ^ 64) is.1) refl

entry_is : (text : List ℕ) → (nat_lt 0 (length text) && all_ascii_digits text && nat_lt (digits_value 10 text) (2 ^ 64)) ≡ true
    → IsNumeral 10 text × (digits_value 10 text < 2 ^ 64)
entry_is text is =
    let parts = both (nat_lt 0 (length text) && all_ascii_digits text) _ is in
    let digits = both (nat_lt 0 (length text)) _ parts.0 in
    ((ltb-true 0 (length text) digits.0, own.to text digits.1), ltb-true (digits_value 10 text) (2 ^ 64) parts.1)

parsed : {E : Type 0} (text : List ℕ) (r : Result ℕ E) (t : Bool) → (nat_lt 0 (length text) && all_ascii_digits text && nat_lt (digits_value 10 text) (2 ^ 64)) ≡ t
    → without_leading_plus text ≡ text → ParsesUnsigned 64 10 text r → result_ok r ≡ (if t then Some (digits_value 10 text) else None)
parsed text (Ok n) true is plain reads = ap Some (reads.1 ∙ ap (digits_value 10) plain)
parsed text (Ok n) false is plain reads =
    absurd (true≢false (sym (is_entry text (subst (λ ds. IsNumeral 10 ds × (digits_value 10 ds < 2 ^ 64)) plain reads.0)) ∙ is))
parsed text (Err e) true is plain reads =
    absurd (reads (subst (λ ds. IsNumeral 10 ds × (digits_value 10 ds < 2 ^ 64)) (sym plain) (entry_is text is)))
parsed text (Err e) false is plain reads = refl

-- a text without a plus, as `parse` reads it
pub entry_parsed : {E : Type 0} (text : List ℕ) (r : Result ℕ E) → (slice_index text 0 == 43) ≡ false → ParsesUnsigned 64 10 text r → result_ok r ≡ entry_of text
entry_parsed text r other reads =
    let plain : without_leading_plus text ≡ text = rw other refl in
    parsed text r _ refl plain reads

-- a text with a plus is no number
pub entry_with_plus : (text : List ℕ) → (slice_index text 0 == 43) ≡ true → entry_of text ≡ None
entry_with_plus [] is = refl
entry_with_plus (c ∷ cs) is =
    let plus : c ≡ 43 = eqb-true c 43 is in
    let some : 0 < length (c ∷ cs) = omega arith in
    rw (lt-ltb 0 (length (c ∷ cs)) some, plus) refl

-- ---- the words of an iterator

-- the words that are to come
abbrev pub Coming : Split ℕ → List (List ℕ) → Type 0
Coming s words = AlwaysYields (split_steps FindsChar (λ a b. b ≡ a)) (λ x. x.now) s words

-- the word that came was the first of those to come
pub word_taken : (s t : Split ℕ) (x : Bor (List ℕ)) (rest : List (List ℕ)) → Coming s rest → split_steps FindsChar (λ a b. b ≡ a) s (Some x) t
    → (words : List (List ℕ)) × (rest ≡ x.now ∷ words) × Coming t words
word_taken s t x [] coming step = absurd (coming x t step)
word_taken s t x (word ∷ words) coming step =
    let came = coming.1 x t step in
    (words, ap (λ w. w ∷ words) (sym came.0), came.1)

-- no word came, and none is left
pub none_left : (s t : Split ℕ) (rest : List (List ℕ)) → Coming s rest → split_steps FindsChar (λ a b. b ≡ a) s None t → rest ≡ []
none_left s t [] coming step = refl
none_left s t (word ∷ words) coming step = absurd (coming.0 t step)

-- ---- all of them

-- the numbers so far, and those of the words to come
abbrev pub with_front : List ℕ → Option (List ℕ) → Option (List ℕ)
with_front front rest = option_map (λ ns. front ++ ns) rest

front_nil : (rest : Option (List ℕ)) → rest ≡ with_front [] rest
front_nil None = refl
front_nil (Some ns) = refl

-- before the first word
pub begun : (text : List ℕ) → list_of text ≡ with_front [] (list_of text)
begun text = front_nil (list_of text)

-- one more number
pub gone_on : (front : List ℕ) (n : ℕ) (word : List ℕ) (words : List (List ℕ)) → entry_of word ≡ Some n
    → with_front front (all_there (map entry_of (word ∷ words))) ≡ with_front (front ++ (n ∷ [])) (all_there (map entry_of words))
gone_on front n word words is = rw is (go (all_there (map entry_of words)))
  where
    go : (rest : Option (List ℕ)) → with_front front (option_map (λ ns. n ∷ ns) rest) ≡ with_front (front ++ (n ∷ [])) rest
    go None = refl
    go (Some ns) = ap Some (sym (append_assoc front (n ∷ []) ns))

-- a word that is no number
pub broken_off : (front word : List ℕ) (words : List (List ℕ)) → entry_of word ≡ None → with_front front (all_there (map entry_of (word ∷ words))) ≡ None
broken_off front word words is = rw is refl

-- after the last word
pub ended : (front : List ℕ) → with_front front (Some []) ≡ Some front
ended front = ap Some (append-nil front)

-- ---- no list is empty

some_part : (parts : List (List ℕ)) (b : ℕ) (t : Bool) → parts ≢ [] → (if t then [] ∷ parts else onto_first b parts) ≢ []
some_part [] b t some = absurd (some refl)
some_part (part ∷ parts) b true some = λ e. cc
some_part (part ∷ parts) b false some = λ e. cc

some_parts : (text : List ℕ) → slice_split (λ b. b == 44) text ≢ []
some_parts [] = λ e. cc
some_parts (b ∷ text) = some_part (slice_split (λ c. c == 44) text) b (b == 44) (some_parts text)

-- a list has a number
pub list_has_number : (text ns : List ℕ) → list_of text ≡ Some ns → ns ≢ []
list_has_number text ns is = go (slice_split (λ b. b == 44) text) (some_parts text) is
  where
    one : (value : Option ℕ) (rest : Option (List ℕ)) → option_and_then (λ n. option_map (λ ms. n ∷ ms) rest) value ≡ Some ns → ns ≢ []
    one None rest e = λ none. cc
    one (Some n) None e = λ none. cc
    one (Some n) (Some ms) e = λ none.
        let same : Some (n ∷ ms) ≡ Some [] = e ∙ ap Some none in
        cc

    go : (words : List (List ℕ)) → words ≢ [] → all_there (map entry_of words) ≡ Some ns → ns ≢ []
    go [] some e = absurd (some refl)
    go (word ∷ words) some e = one (entry_of word) (all_there (map entry_of words)) e
