-- Names in the parts that are printed one after the other.
use Rattle.std.proofs.Common.{◌≡◌, ℕ, ◌+◌, ◌-◌, ◌<◌, ◌≤◌, Bool, true, false, cond, List, [], ◌∷◌, ◌++◌, refl, sym, ap, ◌∙◌, append_assoc, append-nil, arith, length, filter, drop, get_or, Some, None, is_some}
use Rattle.std.specs.Prelude.{codes, nat_lt, slice_index}
use Rattle.std.specs.List.{range_with_len}
use Rattle.std.proofs.lemmas.List.{at_drop_more, drop_all}
use Rattle.std.proofs.lemmas.List.FromFn.{get_or-range_with_len, length-range_with_len}
use Rattle.std.proofs.lemmas.Bool.{lt-ltb, le-ltb, false≢true, true≢false}
use Rattle.text_output.specs.Names.{Names, beside, called, names_text}
use Rattle.text_output.specs.Steps.Names.{listed_name, listed_names, names_in}

-- what stands beside numbers, by whether names are wanted
pub beside-unwanted : (names : Names) (numbers : List ℕ) → is_some names ≡ false → beside names numbers ≡ []
beside-unwanted None numbers none = refl
beside-unwanted (Some list) numbers none = absurd (true≢false none)

pub beside-wanted : (names : Names) (numbers : List ℕ) → is_some names ≡ true → beside names numbers ≡ 9 ∷ names_text (names_in names) numbers
beside-wanted None numbers some = absurd (false≢true some)
beside-wanted (Some list) numbers some = refl

-- the names after the first, each with `; ` before it
others_listed : (names : List (List ℕ)) (n : ℕ) (rest : List ℕ) → listed_names false names (n ∷ rest) ≡ codes "; " ++ names_text names (n ∷ rest)
others_listed names n [] = append-nil (codes "; " ++ called names n)
others_listed names n (next ∷ rest) =
    ap (λ l. (codes "; " ++ called names n) ++ l) (others_listed names next rest)
    ∙ append_assoc (codes "; ") (called names n) (codes "; " ++ names_text names (next ∷ rest))
    ∙ ap (λ l. codes "; " ++ l) (sym (append_assoc (called names n) (codes "; ") (names_text names (next ∷ rest))))

-- names one after the other are names with `; ` between them
pub listed_all : (names : List (List ℕ)) (numbers : List ℕ) → listed_names true names numbers ≡ names_text names numbers
listed_all names [] = refl
listed_all names (n ∷ []) = append-nil (called names n)
listed_all names (n ∷ next ∷ rest) =
    ap (λ l. called names n ++ l) (others_listed names next rest)
    ∙ sym (append_assoc (called names n) (codes "; ") (names_text names (next ∷ rest)))

-- the first of some names, and the others
pub listed_first : (is_first : Bool) (names : List (List ℕ)) (n number : ℕ) (numbers rest : List ℕ) → numbers ≡ number ∷ rest → n ≡ number
    → listed_names is_first names numbers ≡ listed_name is_first names n ++ listed_names false names rest
listed_first is_first names n number numbers rest parts same =
    ap (listed_names is_first names) parts ∙ ap (λ k. listed_name is_first names k ++ listed_names false names rest) (sym same)

-- ---- the parties with a seat

-- those of them after the first i parties
abbrev pub seated_from : List ℕ → ℕ → List ℕ
seated_from seats i = filter (λ party. nat_lt 0 (slice_index seats (party - 1))) (drop i (range_with_len 1 (length seats)))

-- the parties from one on are that party and those after it
seated_next : (seats : List ℕ) (i : ℕ) → i < length seats → seated_from seats i ≡ cond (nat_lt 0 (slice_index seats i)) ((i + 1) ∷ seated_from seats (i + 1)) (seated_from seats (i + 1))
seated_next seats i within =
    let all : List ℕ = range_with_len 1 (length seats) in
    let test : ℕ → Bool = λ party. nat_lt 0 (slice_index seats (party - 1)) in
    let here : get_or all i 0 ≡ i + 1 = get_or-range_with_len 1 (length seats) i 0 within ∙ (let e : 1 + i ≡ i + 1 = omega arith in e) in
    at_drop_more (filter test) all i 0 (let e : i < length all = omega (arith, within, length-range_with_len 1 (length seats)) in e)
    ∙ ap (λ n. filter test (n ∷ drop (i + 1) all)) here
    ∙ ap (λ k. cond (nat_lt 0 (slice_index seats k)) ((i + 1) ∷ seated_from seats (i + 1)) (seated_from seats (i + 1))) (let e : i + 1 - 1 ≡ i = omega arith in e)

-- the names from a party with a seat on are its own, and those of the parties after it
pub seated_here : (is_first : Bool) (names : List (List ℕ)) (seats : List ℕ) (i : ℕ) → i < length seats → (slice_index seats i ≡ 0 → ⊥)
    → listed_names is_first names (seated_from seats i) ≡ listed_name is_first names (i + 1) ++ listed_names false names (seated_from seats (i + 1))
seated_here is_first names seats i within some =
    ap (listed_names is_first names) (seated_next seats i within ∙ ap (λ b. cond b ((i + 1) ∷ seated_from seats (i + 1)) (seated_from seats (i + 1))) (lt-ltb 0 (slice_index seats i) (omega (arith, some))))

-- a party without a seat is passed over
pub seated_past : (seats : List ℕ) (i : ℕ) → i < length seats → slice_index seats i ≡ 0 → seated_from seats i ≡ seated_from seats (i + 1)
seated_past seats i within none =
    seated_next seats i within ∙ ap (λ b. cond b ((i + 1) ∷ seated_from seats (i + 1)) (seated_from seats (i + 1))) (le-ltb 0 (slice_index seats i) (omega (arith, none)))

-- after the last party there is none
pub seated_end : (is_first : Bool) (names : List (List ℕ)) (seats : List ℕ) (i : ℕ) → length seats ≤ i → listed_names is_first names (seated_from seats i) ≡ []
seated_end is_first names seats i past =
    ap (λ parties. listed_names is_first names (filter (λ party. nat_lt 0 (slice_index seats (party - 1))) parties))
    (drop_all i (range_with_len 1 (length seats)) (let e : length (range_with_len 1 (length seats)) ≤ i = omega (arith, past, length-range_with_len 1 (length seats)) in e))
