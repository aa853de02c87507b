-- The tokens of texts that are joined, and the text of the first token.
use Rattle.std.proofs.Common.{◌≡◌, ℕ, ◌+◌, ◌-◌, ◌*◌, ◌≤◌, ◌⊎◌, length, Bool, true, false, cond, leb, eqb, List, [], ◌∷◌, ◌++◌, Option, Some, None, refl, sym, ap, subst, ◌∙◌, arith, inl, inr}
use Rattle.std.specs.Prelude.{⊤}
use Rattle.std.specs.List.{list_all}
use Rattle.std.specs.Char.{is_ascii_digit, digit_value}
use Rattle.std.specs.Str.{all_ascii_digits}
use Rattle.std.specs.Str.Parse.{digits_value, digits_value_after}
use Rattle.std.proofs.lemmas.Bool.{and_parts, and_from, leb-true, lt-ltb, le-ltb, eqb-true, or_cases, cond_both}
use Rattle.preflib_text.specs.Lines.{is_blank, trim_start}
use Rattle.preflib_text.specs.Ballot.{IsBlanks, IsDigits, IsNumber}
use Rattle.preflib_text.specs.Steps.Tokens.{token_of, number_before, with_digit, tokens_after, tokens_of}
use Rattle.preflib_text.specs.declared.ballot.Token.{Token}
use Rattle.preflib_text.specs.declared.ballot.Token.TheVariants.{Number, Colon, Comma, Open, Close, Other}

number_before-append : (first : Option ℕ) (xs ys : List Token) → number_before first (xs ++ ys) ≡ number_before first xs ++ ys
number_before-append None xs ys = refl
number_before-append (Some n) xs ys = refl

-- a byte that is neither a digit nor a blank
abbrev pub IsMark : ℕ → Type 0
IsMark b = (is_ascii_digit b ≡ false) × (is_blank b ≡ false)

-- ---- joined texts

-- a byte that is no blank and no digit parts a text
pub tokens-mark : (first : Option ℕ) (front : List ℕ) (b : ℕ) (rest : List ℕ) → IsMark b → tokens_after first (front ++ b ∷ rest) ≡ tokens_after first front ++ token_of b ∷ tokens_of rest
unfolding tokens_after
tokens-mark first [] b rest m = rw (m.0, m.1) (number_before-append first [] (token_of b ∷ tokens_of rest))
tokens-mark first (x ∷ front) b rest m =
    elim (is_ascii_digit x) as (λ t. cond t (tokens_after (Some (with_digit first x)) (front ++ b ∷ rest)) (number_before first (cond (is_blank x) (tokens_of (front ++ b ∷ rest)) (token_of x ∷ tokens_of (front ++ b ∷ rest)))) ≡ cond t (tokens_after (Some (with_digit first x)) front) (number_before first (cond (is_blank x) (tokens_of front) (token_of x ∷ tokens_of front))) ++ token_of b ∷ tokens_of rest) [
      | true ↦ tokens-mark (Some (with_digit first x)) front b rest m
      | false ↦ elim (is_blank x) as (λ t. number_before first (cond t (tokens_of (front ++ b ∷ rest)) (token_of x ∷ tokens_of (front ++ b ∷ rest))) ≡ number_before first (cond t (tokens_of front) (token_of x ∷ tokens_of front)) ++ token_of b ∷ tokens_of rest) [
        | true ↦ ap (number_before first) (tokens-mark None front b rest m) ∙ number_before-append first (tokens_of front) (token_of b ∷ tokens_of rest)
        | false ↦ ap (λ (ts : List Token). number_before first (token_of x ∷ ts)) (tokens-mark None front b rest m) ∙ number_before-append first (token_of x ∷ tokens_of front) (token_of b ∷ tokens_of rest)
      ]
    ]

blank_no_digit : (b : ℕ) → is_blank b ≡ true → is_ascii_digit b ≡ false
blank_no_digit b e =
    elim (or_cases (eqb b 32) (eqb b 9) e) [
      | inl h ↦ rw (eqb-true b 32 h) refl
      | inr h ↦ rw (eqb-true b 9 h) refl
    ]

-- blanks before a text
pub tokens-blanks_before : (before text : List ℕ) → IsBlanks before → tokens_of (before ++ text) ≡ tokens_of text
unfolding tokens_after
tokens-blanks_before [] text blanks = refl
tokens-blanks_before (b ∷ before) text blanks =
    let both = and_parts (is_blank b) (list_all is_blank before) blanks in
    rw (blank_no_digit b both.0, both.0) (tokens-blanks_before before text both.1)

-- a text without the blanks before it
pub tokens-trim_start : (text : List ℕ) → tokens_of (trim_start text) ≡ tokens_of text
unfolding trim_start
tokens-trim_start [] = refl
tokens-trim_start (b ∷ text) = by (is_blank b) refl (tokens-trim_start text)
  where
    by : (t : Bool) → is_blank b ≡ t → tokens_of (trim_start text) ≡ tokens_of text → tokens_of (cond t (trim_start text) (b ∷ text)) ≡ tokens_of (b ∷ text)
    by true blank same = same ∙ sym (tokens-blanks_before (b ∷ []) text (rw blank refl))
    by false blank same = refl

pub trim_start-shorter : (text : List ℕ) → length (trim_start text) ≤ length text
unfolding trim_start
trim_start-shorter [] = omega arith
trim_start-shorter (b ∷ text) = by (is_blank b) (trim_start-shorter text)
  where
    by : (t : Bool) → length (trim_start text) ≤ length text → length (cond t (trim_start text) (b ∷ text)) ≤ length (b ∷ text)
    by true shorter = omega (arith, shorter)
    by false shorter = omega arith

-- blanks alone after a number
tokens-blanks : (first : Option ℕ) (behind : List ℕ) → IsBlanks behind → tokens_after first behind ≡ number_before first []
unfolding tokens_after
tokens-blanks first [] blanks = refl
tokens-blanks first (b ∷ behind) blanks =
    let both = and_parts (is_blank b) (list_all is_blank behind) blanks in
    rw (blank_no_digit b both.0, both.0) (ap (number_before first) (tokens-blanks None behind both.1))

-- blanks after a text
pub tokens-blanks_behind : (first : Option ℕ) (text behind : List ℕ) → IsBlanks behind → tokens_after first (text ++ behind) ≡ tokens_after first text
unfolding tokens_after
tokens-blanks_behind first [] behind blanks = tokens-blanks first behind blanks
tokens-blanks_behind first (x ∷ text) behind blanks =
    rw (tokens-blanks_behind (Some (with_digit first x)) text behind blanks, tokens-blanks_behind None text behind blanks) refl

pub tokens-padded : (before text behind : List ℕ) → IsBlanks before → IsBlanks behind → tokens_of (before ++ text ++ behind) ≡ tokens_of text
tokens-padded before text behind b a =
    tokens-blanks_behind None (before ++ text) behind a ∙ tokens-blanks_before before text b

-- ---- numbers

digit_value-digit : (b : ℕ) → is_ascii_digit b ≡ true → digit_value b ≡ b - 48
digit_value-digit b e =
    let both = and_parts (leb 48 b) (leb b 57) e in
    let low : 48 ≤ b = leb-true 48 b both.0 in
    let high : b ≤ 57 = leb-true b 57 both.1 in
    rw (le-ltb b 48 low, lt-ltb b 58 (omega arith)) refl

with_digit-some : (n b : ℕ) → is_ascii_digit b ≡ true → with_digit (Some n) b ≡ n * 10 + digit_value b
with_digit-some n b e = rw (digit_value-digit b e) (omega arith)

with_digit-none : (b : ℕ) → is_ascii_digit b ≡ true → with_digit None b ≡ 0 * 10 + digit_value b
with_digit-none b e = rw (digit_value-digit b e) (omega arith)

tokens-digits : (n : ℕ) (digits : List ℕ) → all_ascii_digits digits ≡ true → tokens_after (Some n) digits ≡ Number (digits_value_after 10 n digits) ∷ []
unfolding tokens_after
tokens-digits n [] all = refl
tokens-digits n (b ∷ digits) all =
    let both = and_parts (is_ascii_digit b) (all_ascii_digits digits) all in
    rw both.0 (tokens-digits (with_digit (Some n) b) digits both.1 ∙ ap (λ (k : ℕ). Number (digits_value_after 10 k digits) ∷ []) (with_digit-some n b both.0))

tokens-number : (digits : List ℕ) (n : ℕ) → IsDigits digits n → tokens_of digits ≡ Number n ∷ []
unfolding tokens_after
tokens-number [] n d = absurd (omega (arith, d.0))
tokens-number (b ∷ digits) n d =
    let both = and_parts (is_ascii_digit b) (all_ascii_digits digits) d.1 in
    rw both.0 (tokens-digits (with_digit None b) digits both.1 ∙ ap (λ (k : ℕ). Number (digits_value_after 10 k digits) ∷ []) (with_digit-none b both.0) ∙ ap (λ (k : ℕ). Number k ∷ []) (sym d.2))

pub tokens-IsNumber : (bytes : List ℕ) (n : ℕ) → IsNumber bytes n → tokens_of bytes ≡ Number n ∷ []
tokens-IsNumber bytes n (before, text, behind, e, b, d, a) =
    ap tokens_of e ∙ tokens-padded before text behind b a ∙ tokens-number text n d

-- ---- the first token

pub chosen : {A : Type 0} (b : Bool) (x y z : A) → cond b x y ≡ z → ((b ≡ true) × (x ≡ z)) ⊎ ((b ≡ false) × (y ≡ z))
chosen true x y z e = inl (refl, e)
chosen false x y z e = inr (refl, e)

pub heads : {A : Type 0} (x y : A) (xs ys : List A) → x ∷ xs ≡ y ∷ ys → x ≡ y
heads x y xs ys e = cc

pub tails : {A : Type 0} (x y : A) (xs ys : List A) → x ∷ xs ≡ y ∷ ys → xs ≡ ys
tails x y xs ys e = cc

-- the text of a token
abbrev pub IsText : List ℕ → Token → Type 0
IsText text (Number n) = IsDigits text n
IsText text Colon = text ≡ 58 ∷ []
IsText text Comma = text ≡ 44 ∷ []
IsText text Open = text ≡ 123 ∷ []
IsText text Close = text ≡ 125 ∷ []
IsText text Other = ⊤

IsText-mark : (b : ℕ) → IsText (b ∷ []) (token_of b)
IsText-mark b =
    cond_both (eqb b 58) Colon (cond (eqb b 44) Comma (cond (eqb b 123) Open (cond (eqb b 125) Close Other))) (IsText (b ∷ [])) (λ e. ap (λ (k : ℕ). k ∷ []) (eqb-true b 58 e)) (λ _.
    cond_both (eqb b 44) Comma (cond (eqb b 123) Open (cond (eqb b 125) Close Other)) (IsText (b ∷ [])) (λ e. ap (λ (k : ℕ). k ∷ []) (eqb-true b 44 e)) (λ _.
    cond_both (eqb b 123) Open (cond (eqb b 125) Close Other) (IsText (b ∷ [])) (λ e. ap (λ (k : ℕ). k ∷ []) (eqb-true b 123 e)) (λ _.
    cond_both (eqb b 125) Close Other (IsText (b ∷ [])) (λ e. ap (λ (k : ℕ). k ∷ []) (eqb-true b 125 e)) (λ _. tt))))

-- the digits after those of a number
digits_behind : (n : ℕ) (bytes : List ℕ) (token : Token) (tokens : List Token) → tokens_after (Some n) bytes ≡ token ∷ tokens → (digits rest : List ℕ) × (bytes ≡ digits ++ rest) × (all_ascii_digits digits ≡ true) × (token ≡ Number (digits_value_after 10 n digits)) × (tokens_of rest ≡ tokens)
unfolding tokens_after
digits_behind n [] token tokens e = ([], [], refl, refl, sym (heads (Number n) token [] tokens e), tails (Number n) token [] tokens e)
digits_behind n (b ∷ bytes) token tokens e =
    elim (chosen (is_ascii_digit b) (tokens_after (Some (with_digit (Some n) b)) bytes) (Number n ∷ cond (is_blank b) (tokens_of bytes) (token_of b ∷ tokens_of bytes)) (token ∷ tokens) e) [
      | inl p ↦
          let more = digits_behind (with_digit (Some n) b) bytes token tokens p.1 in
          let digits = more.0 in
          let value : token ≡ Number (digits_value_after 10 n (b ∷ digits)) = more.4 ∙ ap (λ (k : ℕ). Number (digits_value_after 10 k digits)) (with_digit-some n b p.0) in
          (b ∷ digits, more.1, ap (λ (t : List ℕ). b ∷ t) more.2, and_from (is_ascii_digit b) (all_ascii_digits digits) p.0 more.3, value, more.5)
      | inr p ↦
          let others = cond (is_blank b) (tokens_of bytes) (token_of b ∷ tokens_of bytes) in
          ([], b ∷ bytes, refl, refl, sym (heads (Number n) token others tokens p.1), rw p.0 (tails (Number n) token others tokens p.1))
    ]

never_none : (n : ℕ) (bytes : List ℕ) → tokens_after (Some n) bytes ≡ [] → ⊥
unfolding tokens_after
never_none n [] e = cc
never_none n (b ∷ bytes) e =
    elim (chosen (is_ascii_digit b) (tokens_after (Some (with_digit (Some n) b)) bytes) (Number n ∷ cond (is_blank b) (tokens_of bytes) (token_of b ∷ tokens_of bytes)) [] e) [
      | inl p ↦ never_none (with_digit (Some n) b) bytes p.1
      | inr p ↦ let h = p.1 in cc
    ]

-- a text without tokens has blanks alone
pub IsBlanks-from : (bytes : List ℕ) → tokens_of bytes ≡ [] → IsBlanks bytes
unfolding tokens_after
IsBlanks-from [] e = refl
IsBlanks-from (b ∷ bytes) e =
    elim (chosen (is_ascii_digit b) (tokens_after (Some (with_digit None b)) bytes) (cond (is_blank b) (tokens_of bytes) (token_of b ∷ tokens_of bytes)) [] e) [
      | inl p ↦ absurd (never_none (with_digit None b) bytes p.1)
      | inr p ↦ elim (chosen (is_blank b) (tokens_of bytes) (token_of b ∷ tokens_of bytes) [] p.1) [
        | inl q ↦ and_from (is_blank b) (list_all is_blank bytes) q.0 (IsBlanks-from bytes q.1)
        | inr q ↦ absurd (let h = q.1 in cc)
      ]
    ]

pub tokens-IsBlanks : (bytes : List ℕ) → IsBlanks bytes → tokens_of bytes ≡ []
tokens-IsBlanks bytes blanks = tokens-blanks None bytes blanks

-- the first token of a text stands after blanks, and the others come from what follows it
pub record FirstText (bytes : List ℕ) (token : Token) (tokens : List Token) : Type 0 where
  pub before : List ℕ
  pub text : List ℕ
  pub rest : List ℕ
  pub whole : bytes ≡ before ++ (text ++ rest)
  pub blanks : IsBlanks before
  pub is : IsText text token
  pub others : tokens_of rest ≡ tokens

pub first_text : (bytes : List ℕ) (token : Token) (tokens : List Token) → tokens_of bytes ≡ token ∷ tokens → FirstText bytes token tokens
unfolding tokens_after
first_text [] token tokens e = absurd cc
first_text (b ∷ bytes) token tokens e =
    elim (chosen (is_ascii_digit b) (tokens_after (Some (with_digit None b)) bytes) (cond (is_blank b) (tokens_of bytes) (token_of b ∷ tokens_of bytes)) (token ∷ tokens) e) [
      | inl p ↦
          let more = digits_behind (with_digit None b) bytes token tokens p.1 in
          let digits = more.0 in
          let value : token ≡ Number (digits_value 10 (b ∷ digits)) = more.4 ∙ ap (λ (k : ℕ). Number (digits_value_after 10 k digits)) (with_digit-none b p.0) in
          let d : IsDigits (b ∷ digits) (digits_value 10 (b ∷ digits)) = (omega arith, and_from (is_ascii_digit b) (all_ascii_digits digits) p.0 more.3, refl) in
          record { before = []; text = b ∷ digits; rest = more.1; whole = ap (λ (t : List ℕ). b ∷ t) more.2; blanks = refl; is = subst (IsText (b ∷ digits)) (sym value) d; others = more.5 }
      | inr p ↦ elim (chosen (is_blank b) (tokens_of bytes) (token_of b ∷ tokens_of bytes) (token ∷ tokens) p.1) [
        | inl q ↦
            let f = first_text bytes token tokens q.1 in
            record { before = b ∷ f.before; text = f.text; rest = f.rest; whole = ap (λ (t : List ℕ). b ∷ t) f.whole; blanks = and_from (is_blank b) (list_all is_blank f.before) q.0 f.blanks; is = f.is; others = f.others }
        | inr q ↦
            record { before = []; text = b ∷ []; rest = bytes; whole = refl; blanks = refl; is = subst (IsText (b ∷ [])) (heads (token_of b) token (tokens_of bytes) tokens q.1) (IsText-mark b); others = tails (token_of b) token (tokens_of bytes) tokens q.1 }
      ]
    ]
