-- Texts that are cut at a byte.
use Rattle.std.proofs.Common.{◌≡◌, ℕ, ◌<◌, ◌≤◌, ◌^◌, ◌==◌, ◌∙◌, false, cond, List, [], ◌∷◌, ◌++◌, refl, sym, ap, arith, append-nil, length}
use Rattle.std.specs.Prelude.{decimal}
use Rattle.std.specs.List.{AllByRecursion}
use Rattle.std.specs.Str.Parse.{AllDigits}
use Rattle.std.proofs.lemmas.Bool.{eq-eqb, ne_eqb}
use Rattle.std.proofs.lemmas.Fmt.{decimal_injective, decimal_is_IsNumeral}
use Rattle.std.proofs.lemmas.Str.Parse.{digit_from_value}
use Rattle.text_output.specs.Text.{numbers_text}

-- the byte is not in the text
abbrev pub Lacks : ℕ → List ℕ → Type 0
Lacks c text = AllByRecursion (λ b. (b == c) ≡ false) text

-- what stands before the first such byte, and after it
abbrev pub before : ℕ → List ℕ → List ℕ
before c [] = []
before c (b ∷ text) = cond (b == c) [] (b ∷ before c text)

abbrev pub after : ℕ → List ℕ → List ℕ
after c [] = []
after c (b ∷ text) = cond (b == c) text (after c text)

pub before-at : (c : ℕ) (text rest : List ℕ) → Lacks c text → before c (text ++ c ∷ rest) ≡ text
before-at c [] rest lacks = ap (λ x. cond x [] (c ∷ before c rest)) (eq-eqb c c refl)
before-at c (b ∷ text) rest lacks =
    ap (λ x. cond x [] (b ∷ before c (text ++ c ∷ rest))) lacks.0 ∙ ap (λ t. b ∷ t) (before-at c text rest lacks.1)

pub before-end : (c : ℕ) (text : List ℕ) → Lacks c text → before c text ≡ text
before-end c [] lacks = refl
before-end c (b ∷ text) lacks = ap (λ x. cond x [] (b ∷ before c text)) lacks.0 ∙ ap (λ t. b ∷ t) (before-end c text lacks.1)

pub after-at : (c : ℕ) (text rest : List ℕ) → Lacks c text → after c (text ++ c ∷ rest) ≡ rest
after-at c [] rest lacks = ap (λ x. cond x rest (after c rest)) (eq-eqb c c refl)
after-at c (b ∷ text) rest lacks = ap (λ x. cond x (text ++ c ∷ rest) (after c (text ++ c ∷ rest))) lacks.0 ∙ after-at c text rest lacks.1

pub after-end : (c : ℕ) (text : List ℕ) → Lacks c text → after c text ≡ []
after-end c [] lacks = refl
after-end c (b ∷ text) lacks = ap (λ x. cond x text (after c text)) lacks.0 ∙ after-end c text lacks.1

pub lacks-append : (c : ℕ) (text more : List ℕ) → Lacks c text → Lacks c more → Lacks c (text ++ more)
lacks-append c [] more first second = second
lacks-append c (b ∷ text) more first second = (first.0, lacks-append c text more first.1 second)

-- ---- numbers

-- digits are none of the bytes below them
lacks-digits : (c : ℕ) (digits : List ℕ) → c < 48 → AllDigits 10 digits → Lacks c digits
lacks-digits c [] low all = tt
lacks-digits c (d ∷ digits) low all =
    (ne_eqb d c (λ e. absurd (omega (arith, e, low, digit_from_value d all.0))), lacks-digits c digits low all.1)

pub lacks-decimal : (c n : ℕ) → c < 48 → n < 2 ^ 64 → Lacks c (decimal n)
lacks-decimal c n low fits = lacks-digits c (decimal n) low (decimal_is_IsNumeral n fits).0.1

-- numbers with commas between them have no other byte below the digits
pub lacks-numbers : (c : ℕ) (numbers : List ℕ) → c < 44 → AllByRecursion (λ n. n < 2 ^ 64) numbers → Lacks c (numbers_text numbers)
lacks-numbers c [] low fit = tt
lacks-numbers c (n ∷ []) low fit = lacks-decimal c n (omega (arith, low)) fit.0
lacks-numbers c (n ∷ next ∷ numbers) low fit =
    lacks-append c (decimal n) (44 ∷ numbers_text (next ∷ numbers)) (lacks-decimal c n (omega (arith, low)) fit.0)
    (ne_eqb 44 c (λ e. absurd (omega (arith, e, low))), lacks-numbers c (next ∷ numbers) low fit.1)

-- a number has a digit, so numbers have a first byte, and it is a digit
some-first : (n : ℕ) (rest : List ℕ) → n < 2 ^ 64 → (digit : ℕ) × (more : List ℕ) × (48 ≤ digit) × (digit ≤ 57) × (decimal n ++ rest ≡ digit ∷ more)
some-first n rest fits = by (decimal n) (decimal_is_IsNumeral n fits).0.0 (decimal_is_IsNumeral n fits).0.1
  where
    by : (digits : List ℕ) → 0 < length digits → AllDigits 10 digits → (digit : ℕ) × (more : List ℕ) × (48 ≤ digit) × (digit ≤ 57) × (digits ++ rest ≡ digit ∷ more)
    by [] some all = absurd (omega (arith, some))
    by (d ∷ digits) some all = (d, digits ++ rest, omega (arith, digit_from_value d all.0), omega (arith, digit_from_value d all.0), refl)

pub first-digit : (n : ℕ) (numbers : List ℕ) → n < 2 ^ 64 → (digit : ℕ) × (more : List ℕ) × (48 ≤ digit) × (digit ≤ 57) × (numbers_text (n ∷ numbers) ≡ digit ∷ more)
first-digit n [] fits = let first = some-first n [] fits in (first.0, first.1, first.2, first.3, sym (append-nil (decimal n)) ∙ first.4)
first-digit n (next ∷ numbers) fits = some-first n (44 ∷ numbers_text (next ∷ numbers)) fits

not-empty : {b : ℕ} {text : List ℕ} → [] ≡ b ∷ text → ⊥
not-empty e = absurd (omega (arith, ap length e))

-- the same text is that of the same numbers
pub same-numbers : (numbers others : List ℕ) → AllByRecursion (λ n. n < 2 ^ 64) numbers → AllByRecursion (λ n. n < 2 ^ 64) others → numbers_text numbers ≡ numbers_text others → numbers ≡ others
same-numbers [] [] fit fit' same = refl
same-numbers [] (n ∷ others) fit fit' same = absurd (not-empty (same ∙ (first-digit n others fit'.0).4))
same-numbers (n ∷ numbers) [] fit fit' same = absurd (not-empty (sym same ∙ (first-digit n numbers fit.0).4))
same-numbers (n ∷ []) (x ∷ []) fit fit' same = ap (λ y. y ∷ []) (decimal_injective n x fit.0 fit'.0 same)
same-numbers (n ∷ []) (x ∷ y ∷ others) fit fit' same =
    absurd (not-empty (
    sym (after-end 44 (decimal n) (lacks-decimal 44 n (omega arith) fit.0)) ∙ ap (after 44) same ∙ after-at 44 (decimal x) (numbers_text (y ∷ others)) (lacks-decimal 44 x (omega arith) fit'.0)
    ∙ (first-digit y others fit'.1.0).4))
same-numbers (n ∷ m ∷ numbers) (x ∷ []) fit fit' same =
    absurd (not-empty (
    sym (after-end 44 (decimal x) (lacks-decimal 44 x (omega arith) fit'.0)) ∙ ap (after 44) (sym same) ∙ after-at 44 (decimal n) (numbers_text (m ∷ numbers)) (lacks-decimal 44 n (omega arith) fit.0)
    ∙ (first-digit m numbers fit.1.0).4))
same-numbers (n ∷ m ∷ numbers) (x ∷ y ∷ others) fit fit' same =
    let ours = lacks-decimal 44 n (omega arith) fit.0 in
    let theirs = lacks-decimal 44 x (omega arith) fit'.0 in
    let first = sym (before-at 44 (decimal n) (numbers_text (m ∷ numbers)) ours) ∙ ap (before 44) same ∙ before-at 44 (decimal x) (numbers_text (y ∷ others)) theirs in
    let rest = sym (after-at 44 (decimal n) (numbers_text (m ∷ numbers)) ours) ∙ ap (after 44) same ∙ after-at 44 (decimal x) (numbers_text (y ∷ others)) theirs in
    ap (λ k. k ∷ m ∷ numbers) (decimal_injective n x fit.0 fit'.0 first) ∙ ap (λ l. x ∷ l) (same-numbers (m ∷ numbers) (y ∷ others) fit.1 fit'.1 rest)
