-- Words, numbers and keys of metadata lines.
use Rattle.std.proofs.lemmas.Bool.{false_from_ne_true}
use Rattle.std.proofs.Common.{◌≡◌, ℕ, zero, suc, ◌+◌, ◌-◌, ◌*◌, ◌<◌, ◌≤◌, ◌==◌, ◌||◌, ◌&&◌, Bool, true, false, cond, List, [], ◌∷◌, refl, sym, ap, subst, ◌∙◌, arith, length, take, drop, get_or, true≢false, Some, None, option_map}
use Rattle.std.specs.Prelude.{nat_lt, codes}
use Rattle.std.specs.List.{list_any, before_first, after_first, position_or_len}
use Rattle.std.specs.Char.{is_ascii_digit, digit_value}
use Rattle.std.specs.Int.{IsInRange}
use Rattle.std.specs.Str.{all_ascii_digits, str_eq_ignore_ascii_case}
use Rattle.std.specs.Str.Parse.{digits_value, digits_value_after}
use Rattle.std.proofs.lemmas.List.{take_rest}
use Rattle.std.proofs.lemmas.List.Sums.{position_or_len_is}
use Rattle.std.proofs.lemmas.List.Folds.{list_any_at}
use Rattle.std.proofs.lemmas.Str.{digit_value_digit}
use Rattle.bstr.specs.Bytes.{is_in}
use Rattle.preflib_text.specs.Lines.{onto_first, is_blank, trim_start}
use Rattle.preflib_text.specs.Metadata.{words_of, begins_blank, written_number, TypeIs, AlternativesAre, CategoriesAre, Nothing, told_by}
use Rattle.preflib_text.specs.Steps.Tokens.{capped}
use Rattle.preflib_text.specs.Steps.Tells.{words_with, digits_after, capped_told}

-- ---- the first colon

pub colon_at : (bytes : List ℕ) (at : ℕ) → at < length bytes → (get_or bytes at 0 == 58) ≡ true → ((k : ℕ) → 0 ≤ k → k < at → (get_or bytes k 0 == 58) ≡ true → ⊥)
    → (list_any (λ b. b == 58) bytes ≡ true) × (take at bytes ≡ before_first (λ b. b == 58) bytes) × (take (length bytes - (at + 1)) (drop (at + 1) bytes) ≡ after_first (λ b. b == 58) bytes)
colon_at bytes at within is before =
    let place : position_or_len (λ b. b == 58) bytes ≡ at =
    position_or_len_is (λ b. b == 58) bytes at 0 (omega arith) (λ k h. false_from_ne_true (get_or bytes k 0 == 58) (before k (omega arith) h)) (λ h. is) in
    (list_any_at (λ b. b == 58) bytes at 0 within is, ap (λ n. take n bytes) (sym place), take_rest bytes (at + 1) ∙ ap (λ n. drop (n + 1) bytes) (sym place))

pub no_colon : (bytes : List ℕ) → ((k : ℕ) → 0 ≤ k → k < length bytes → (get_or bytes k 0 == 58) ≡ true → ⊥) → list_any (λ b. b == 58) bytes ≡ false
no_colon [] none = refl
no_colon (b ∷ bytes) none =
    ap (λ t. t || list_any (λ c. c == 58) bytes) (false_from_ne_true (b == 58) (none 0 (omega arith) (omega arith)))
    ∙ no_colon bytes (λ k h i. none (suc k) (omega arith) (omega arith))

-- ---- words

pub is_in-blank : (b : ℕ) → is_in (32 ∷ 9 ∷ []) b ≡ is_blank b
unfolding is_in
is_in-blank b = by (b == 32) (b == 9)
  where
    by : (s t : Bool) → (s || (t || false)) ≡ (s || t)
    by true t = refl
    by false true = refl
    by false false = refl

pub words_of-none : words_of [] ≡ []
unfolding words_of
words_of-none = refl

words_of-blank : (b : ℕ) (bytes : List ℕ) → is_blank b ≡ true → words_of (b ∷ bytes) ≡ words_of bytes
unfolding words_of
words_of-blank b bytes blank = ap (λ t. cond t (words_of bytes) (cond (begins_blank bytes) ((b ∷ []) ∷ words_of bytes) (onto_first b (words_of bytes)))) blank

words_of-byte : (b : ℕ) (bytes : List ℕ) → is_blank b ≡ false → words_of (b ∷ bytes) ≡ cond (begins_blank bytes) ((b ∷ []) ∷ words_of bytes) (onto_first b (words_of bytes))
unfolding words_of
words_of-byte b bytes other = ap (λ t. cond t (words_of bytes) (cond (begins_blank bytes) ((b ∷ []) ∷ words_of bytes) (onto_first b (words_of bytes)))) other

-- blanks before the first word
words_of-trim_start : (bytes : List ℕ) → words_of bytes ≡ words_of (trim_start bytes)
unfolding trim_start
words_of-trim_start [] = refl
words_of-trim_start (b ∷ bytes) = by (is_blank b) refl (words_of-trim_start bytes)
  where
    by : (t : Bool) → is_blank b ≡ t → words_of bytes ≡ words_of (trim_start bytes) → words_of (b ∷ bytes) ≡ words_of (cond t (trim_start bytes) (b ∷ bytes))
    by true e rest = words_of-blank b bytes e ∙ rest
    by false e rest = refl

-- what is left begins with no blank
pub trim_start-first : (bytes : List ℕ) → 0 < length (trim_start bytes) → is_blank (get_or (trim_start bytes) 0 0) ≡ false
unfolding trim_start
trim_start-first [] some = absurd (omega arith)
trim_start-first (b ∷ bytes) some = by (is_blank b) refl some (trim_start-first bytes)
  where
    by : (t : Bool) → is_blank b ≡ t → 0 < length (cond t (trim_start bytes) (b ∷ bytes)) → (0 < length (trim_start bytes) → is_blank (get_or (trim_start bytes) 0 0) ≡ false) → is_blank (get_or (cond t (trim_start bytes) (b ∷ bytes)) 0 0) ≡ false
    by true e left more = more left
    by false e left more = e

-- the first blank ends the first word
words_of-cut : (bytes : List ℕ) (at : ℕ) → at < length bytes → is_blank (get_or bytes at 0) ≡ true → ((k : ℕ) → k < at → is_blank (get_or bytes k 0) ≡ false) → words_of bytes ≡ words_with (take at bytes) (words_of (drop at bytes))
words_of-cut [] at within is before = absurd (omega arith)
words_of-cut (b ∷ bytes) zero within is before = refl
words_of-cut (b ∷ []) (suc at) within is before = absurd (omega arith)
words_of-cut (b ∷ c ∷ bytes) (suc zero) within is before =
    words_of-byte b (c ∷ bytes) (before 0 (omega arith)) ∙ ap (λ t. cond t ((b ∷ []) ∷ words_of (c ∷ bytes)) (onto_first b (words_of (c ∷ bytes)))) is
words_of-cut (b ∷ c ∷ bytes) (suc (suc at)) within is before =
    words_of-byte b (c ∷ bytes) (before 0 (omega arith))
    ∙ ap (λ t. cond t ((b ∷ []) ∷ words_of (c ∷ bytes)) (onto_first b (words_of (c ∷ bytes)))) (before 1 (omega arith))
    ∙ ap (onto_first b) (words_of-cut (c ∷ bytes) (suc at) (omega arith) is (λ k h. before (suc k) (omega arith)))

-- without a blank all is one word
words_of-whole : (bytes : List ℕ) → ((k : ℕ) → k < length bytes → is_blank (get_or bytes k 0) ≡ false) → words_of bytes ≡ words_with bytes []
unfolding words_of
words_of-whole [] none = refl
words_of-whole (b ∷ []) none = words_of-byte b [] (none 0 (omega arith))
words_of-whole (b ∷ c ∷ bytes) none =
    words_of-byte b (c ∷ bytes) (none 0 (omega arith))
    ∙ ap (λ t. cond t ((b ∷ []) ∷ words_of (c ∷ bytes)) (onto_first b (words_of (c ∷ bytes)))) (none 1 (omega arith))
    ∙ ap (onto_first b) (words_of-whole (c ∷ bytes) (λ k h. none (suc k) (omega arith)))

-- the same, as a search for a blank says it
pub word_at : (bytes text : List ℕ) (at : ℕ) → text ≡ trim_start bytes → at < length text → is_in (32 ∷ 9 ∷ []) (get_or text at 0) ≡ true → ((k : ℕ) → 0 ≤ k → k < at → is_in (32 ∷ 9 ∷ []) (get_or text k 0) ≡ true → ⊥)
    → words_of bytes ≡ words_with (take at text) (words_of (take (length text - at) (drop at text)))
word_at bytes text at trimmed within is before =
    words_of-trim_start bytes ∙ ap words_of (sym trimmed)
    ∙ words_of-cut text at within (sym (is_in-blank (get_or text at 0)) ∙ is) (λ k h. sym (is_in-blank (get_or text k 0)) ∙ false_from_ne_true (is_in (32 ∷ 9 ∷ []) (get_or text k 0)) (before k (omega arith) h))
    ∙ ap (λ l. words_with (take at text) (words_of l)) (sym (take_rest text at))

pub word_is_last : (bytes text : List ℕ) → text ≡ trim_start bytes → ((k : ℕ) → 0 ≤ k → k < length text → is_in (32 ∷ 9 ∷ []) (get_or text k 0) ≡ true → ⊥) → words_of bytes ≡ words_with text (words_of [])
word_is_last bytes text trimmed none =
    words_of-trim_start bytes ∙ ap words_of (sym trimmed)
    ∙ words_of-whole text (λ k h. sym (is_in-blank (get_or text k 0)) ∙ false_from_ne_true (is_in (32 ∷ 9 ∷ []) (get_or text k 0)) (none k (omega arith) h))
    ∙ ap (words_with text) (sym words_of-none)

-- a word has bytes where something is left
pub word_has_bytes : (bytes text : List ℕ) (at : ℕ) → text ≡ trim_start bytes → at < length text → is_in (32 ∷ 9 ∷ []) (get_or text at 0) ≡ true → take at text ≡ [] → take (length text - at) (drop at text) ≡ []
word_has_bytes bytes [] at trimmed within is none = absurd (omega arith)
word_has_bytes bytes (b ∷ text) (suc at) trimmed within is none = absurd (cc)
word_has_bytes bytes (b ∷ text) zero trimmed within is none =
    let first : is_blank b ≡ false = subst (λ l. 0 < length l → is_blank (get_or l 0 0) ≡ false) (sym trimmed) (trim_start-first bytes) (omega arith) in
    let blank : is_blank b ≡ true = sym (is_in-blank b) ∙ is in
    absurd (cc)

-- ---- numbers

capped_step : (n b d : ℕ) → d + 48 ≡ b → capped (10 * capped n + (b - 48)) ≡ capped (n * 10 + d)
capped_step n b d digit = omega arith

digit_range : (b : ℕ) → is_ascii_digit b ≡ true → IsInRange 48 57 b
digit_range b e = grind arith

digits_after-value : (n : ℕ) (bytes : List ℕ) → digits_after (capped n) bytes ≡ cond (all_ascii_digits bytes) (Some (capped (digits_value_after 10 n bytes))) None
unfolding digits_after
digits_after-value n [] = refl
digits_after-value n (b ∷ bytes) = by (is_ascii_digit b) refl (digits_after-value (n * 10 + digit_value b) bytes)
  where
    by : (t : Bool) → is_ascii_digit b ≡ t → digits_after (capped (n * 10 + digit_value b)) bytes ≡ cond (all_ascii_digits bytes) (Some (capped (digits_value_after 10 (n * 10 + digit_value b) bytes))) None
        → cond t (digits_after (capped (10 * capped n + (b - 48))) bytes) None ≡ cond (t && all_ascii_digits bytes) (Some (capped (digits_value_after 10 (n * 10 + digit_value b) bytes))) None
    by false e rest = refl
    by true e rest = ap (λ v. digits_after v bytes) (capped_step n b (digit_value b) (digit_value_digit b (digit_range b e))) ∙ rest

-- digits from the first on give the number
pub digits_after-number : (bytes : List ℕ) → 1 ≤ length bytes → digits_after 0 bytes ≡ option_map capped (written_number bytes)
digits_after-number [] some = absurd (omega arith)
digits_after-number (b ∷ bytes) some = digits_after-value 0 (b ∷ bytes) ∙ by (all_ascii_digits (b ∷ bytes)) (nat_lt 0 (length (b ∷ bytes))) (is_longer (length bytes))
  where
    is_longer : (n : ℕ) → nat_lt 0 (suc n) ≡ true
    is_longer n = grind arith

    by : (t s : Bool) → s ≡ true → cond t (Some (capped (digits_value_after 10 0 (b ∷ bytes)))) None ≡ option_map capped (cond (s && t) (Some (digits_value 10 (b ∷ bytes))) None)
    by true true is = refl
    by false true is = refl
    by t false is = absurd (cc)

-- ---- keys

empty_list : (bytes : List ℕ) → (length bytes == 0) ≡ true → bytes ≡ []
empty_list [] none = refl
empty_list (b ∷ bytes) none = absurd (grind arith)

some_bytes : (bytes : List ℕ) → (length bytes == 0) ≡ false → 0 < length bytes
some_bytes [] some = absurd (true≢false (refl ∙ some))
some_bytes (b ∷ bytes) some = omega arith

words_with-some : (word : List ℕ) (words : List (List ℕ)) → 0 < length word → words_with word words ≡ word ∷ words
words_with-some [] words some = absurd (omega arith)
words_with-some (b ∷ word) words some = refl

-- a word that another follows has bytes
words_with-more : (word rest other : List ℕ) (others : List (List ℕ)) → (word ≡ [] → rest ≡ []) → words_of rest ≡ other ∷ others → words_with word (words_of rest) ≡ word ∷ other ∷ others
words_with-more (b ∷ word) rest other others end is = ap (λ l. (b ∷ word) ∷ l) is
words_with-more [] rest other others end is =
    let none : words_of rest ≡ [] = ap words_of (end refl) ∙ words_of-none in
    absurd (cc)

-- the words of a key of three or more
pub three_words : (key first second third after_first after_second after_third : List ℕ)
    → words_of key ≡ words_with first (words_of after_first) → (first ≡ [] → after_first ≡ [])
    → words_of after_first ≡ words_with second (words_of after_second) → (second ≡ [] → after_second ≡ [])
    → words_of after_second ≡ words_with third (words_of after_third) → (length third == 0) ≡ false
    → words_of key ≡ first ∷ second ∷ third ∷ words_of after_third
three_words key first second third after_first after_second after_third is_first first_end is_second second_end is_third some =
    let of_second = is_third ∙ words_with-some third (words_of after_third) (some_bytes third some) in
    let of_first = is_second ∙ words_with-more second after_second third (words_of after_third) second_end of_second in
    is_first ∙ words_with-more first after_first second (third ∷ words_of after_third) first_end of_first

no_words : (key word after : List ℕ) → words_of key ≡ words_with word (words_of after) → (word ≡ [] → after ≡ []) → (length word == 0) ≡ true → words_of key ≡ []
no_words key word after is end short =
    let none = empty_list word short in
    is ∙ ap (λ w. words_with w (words_of after)) none ∙ ap words_of (end none) ∙ words_of-none

-- what the answers of three tests have in common
told_by-kept : (s t u : Bool) (value : List ℕ) → cond s (TypeIs value) (cond t (AlternativesAre value) (cond u (CategoriesAre value) Nothing)) ≡ capped_told (cond s (TypeIs value) (cond t (AlternativesAre value) (cond u (CategoriesAre value) Nothing)))
told_by-kept true t u value = refl
told_by-kept false true u value = refl
told_by-kept false false true value = refl
told_by-kept false false false value = refl

-- a key of at most two words tells no name
told_by-two : (first second value : List ℕ) → told_by (record { key = words_with first (words_with second []); value = value }) ≡ capped_told (told_by (record { key = words_with first (words_with second []); value = value }))
told_by-two [] [] value = refl
told_by-two [] (b ∷ second) value = told_by-kept _ _ _ value
told_by-two (a ∷ first) [] value = told_by-kept _ _ _ value
told_by-two (a ∷ first) (b ∷ second) value = told_by-kept _ _ _ value

pub told_of-two : (key first second third after_first after_second after_third value : List ℕ)
    → words_of key ≡ words_with first (words_of after_first)
    → words_of after_first ≡ words_with second (words_of after_second)
    → words_of after_second ≡ words_with third (words_of after_third) → (third ≡ [] → after_third ≡ []) → (length third == 0) ≡ true
    → told_by (record { key = words_with first (words_with second []); value = value }) ≡ capped_told (told_by (record { key = words_of key; value = value }))
told_of-two key first second third after_first after_second after_third value is_first is_second is_third end none =
    let words : words_of key ≡ words_with first (words_with second []) =
    is_first ∙ ap (words_with first) (is_second ∙ ap (words_with second) (no_words after_second third after_third is_third end none)) in
    told_by-two first second value ∙ ap (λ k. capped_told (told_by (record { key = k; value = value }))) (sym words)

neither : (s t : Bool) → (s && (t && false)) ≡ false
neither false t = refl
neither true false = refl
neither true true = refl

-- a key of four words or more tells nothing
pub told_by-more : (first second third fourth value : List ℕ) (words : List (List ℕ)) → Nothing ≡ capped_told (told_by (record { key = first ∷ second ∷ third ∷ fourth ∷ words; value = value }))
told_by-more first second third fourth value words =
    let is = str_eq_ignore_ascii_case in
    sym (all (neither (is first (codes "DATA")) (is second (codes "TYPE"))) (neither (is first (codes "NUMBER")) (is second (codes "ALTERNATIVES"))) (neither (is first (codes "NUMBER")) (is second (codes "CATEGORIES"))))
  where
    all : {s t u : Bool} → s ≡ false → t ≡ false → u ≡ false → capped_told (cond s (TypeIs value) (cond t (AlternativesAre value) (cond u (CategoriesAre value) Nothing))) ≡ Nothing
    all {s} {t} {u} e f g = ap (λ x. capped_told (cond x (TypeIs value) (cond t (AlternativesAre value) (cond u (CategoriesAre value) Nothing)))) e
        ∙ ap (λ x. capped_told (cond x (AlternativesAre value) (cond u (CategoriesAre value) Nothing))) f
        ∙ ap (λ x. capped_told (cond x (CategoriesAre value) Nothing)) g

pub told_of-three : (key first second third fourth after_first after_second after_third after_fourth value : List ℕ)
    → words_of key ≡ words_with first (words_of after_first) → (first ≡ [] → after_first ≡ [])
    → words_of after_first ≡ words_with second (words_of after_second) → (second ≡ [] → after_second ≡ [])
    → words_of after_second ≡ words_with third (words_of after_third) → (length third == 0) ≡ false
    → words_of after_third ≡ words_with fourth (words_of after_fourth) → (fourth ≡ [] → after_fourth ≡ []) → (length fourth == 0) ≡ true
    → capped_told (told_by (record { key = first ∷ second ∷ third ∷ []; value = value })) ≡ capped_told (told_by (record { key = words_of key; value = value }))
told_of-three key first second third fourth after_first after_second after_third after_fourth value is_first first_end is_second second_end is_third some is_fourth fourth_end none =
    let words = three_words key first second third after_first after_second after_third is_first first_end is_second second_end is_third some in
    let last = no_words after_third fourth after_fourth is_fourth fourth_end none in
    ap (λ k. capped_told (told_by (record { key = k; value = value }))) (sym (words ∙ ap (λ l. first ∷ second ∷ third ∷ l) last))

pub told_of-more : (key first second third fourth after_first after_second after_third after_fourth value : List ℕ)
    → words_of key ≡ words_with first (words_of after_first) → (first ≡ [] → after_first ≡ [])
    → words_of after_first ≡ words_with second (words_of after_second) → (second ≡ [] → after_second ≡ [])
    → words_of after_second ≡ words_with third (words_of after_third) → (length third == 0) ≡ false
    → words_of after_third ≡ words_with fourth (words_of after_fourth) → (length fourth == 0) ≡ false
    → Nothing ≡ capped_told (told_by (record { key = words_of key; value = value }))
told_of-more key first second third fourth after_first after_second after_third after_fourth value is_first first_end is_second second_end is_third some is_fourth more =
    let words = three_words key first second third after_first after_second after_third is_first first_end is_second second_end is_third some in
    let others = is_fourth ∙ words_with-some fourth (words_of after_fourth) (some_bytes fourth more) in
    told_by-more first second third fourth value (words_of after_fourth)
    ∙ ap (λ k. capped_told (told_by (record { key = k; value = value }))) (sym (words ∙ ap (λ l. first ∷ second ∷ third ∷ l) others))
