-- Cutting lines off, and blanks.
use Rattle.std.proofs.Common.{◌≡◌, ◌≢◌, ℕ, zero, suc, ◌+◌, ◌-◌, ◌<◌, ◌≤◌, ◌==◌, ◌&&◌, Bool, true, false, not, cond, List, [], ◌∷◌, ◌++◌, refl, sym, ap, subst, ◌∙◌, arith, length, take, drop, get_or, reverse}
use Rattle.std.specs.Prelude.{nat_eq}
use Rattle.std.specs.List.{list_all, starts_with}
use Rattle.std.proofs.lemmas.Bool.{eq-eqb, ne_eqb, eqb-true}
use Rattle.std.proofs.lemmas.List.{reverse-append, reverse-reverse, take_rest}
use Rattle.preflib_text.specs.Lines.{onto_first, pieces_of, without_return, is_blank, trim_start, is_metadata_line, is_ballot_line}

-- ---- lines

pub pieces_of-line : (bytes : List ℕ) → pieces_of (10 ∷ bytes) ≡ [] ∷ pieces_of bytes
unfolding pieces_of
pieces_of-line bytes = refl

pub pieces_of-byte : (b : ℕ) (bytes : List ℕ) → b ≢ 10 → pieces_of (b ∷ bytes) ≡ onto_first b (pieces_of bytes)
unfolding pieces_of
pieces_of-byte b bytes other = ap (λ t. cond t ([] ∷ pieces_of bytes) (onto_first b (pieces_of bytes))) (ne_eqb b 10 other)

-- the first LF cuts the first piece off
pub pieces_of-cut : (bytes : List ℕ) (at : ℕ) → at < length bytes → get_or bytes at 0 ≡ 10 → ((i : ℕ) → i < at → get_or bytes i 0 ≢ 10) → pieces_of bytes ≡ take at bytes ∷ pieces_of (drop (suc at) bytes)
pieces_of-cut [] at within is before = absurd (omega arith)
pieces_of-cut (b ∷ bytes) zero within is before = ap (λ c. pieces_of (c ∷ bytes)) is ∙ pieces_of-line bytes
pieces_of-cut (b ∷ bytes) (suc at) within is before =
    pieces_of-byte b bytes (before 0 (omega arith))
    ∙ ap (onto_first b) (pieces_of-cut bytes at (omega arith) is (λ i h. before (suc i) (omega arith)))

-- without LF all is one piece
pub pieces_of-whole : (bytes : List ℕ) → 0 < length bytes → ((i : ℕ) → i < length bytes → get_or bytes i 0 ≢ 10) → pieces_of bytes ≡ bytes ∷ []
unfolding pieces_of
pieces_of-whole [] some none = absurd (omega arith)
pieces_of-whole (b ∷ []) some none = pieces_of-byte b [] (none 0 (omega arith))
pieces_of-whole (b ∷ c ∷ bytes) some none =
    pieces_of-byte b (c ∷ bytes) (none 0 (omega arith))
    ∙ ap (onto_first b) (pieces_of-whole (c ∷ bytes) (omega arith) (λ i h. none (suc i) (omega arith)))

-- the same, as a search for LF says it
pub cut_at : (bytes : List ℕ) (at : ℕ) → at < length bytes → (get_or bytes at 0 == 10) ≡ true → ((k : ℕ) → 0 ≤ k → k < at → (get_or bytes k 0 == 10) ≡ true → ⊥)
    → pieces_of bytes ≡ take at bytes ∷ pieces_of (take (length bytes - (at + 1)) (drop (at + 1) bytes))
cut_at bytes at within is before =
    let step : suc at ≡ at + 1 = omega arith in
    pieces_of-cut bytes at within (eqb-true (get_or bytes at 0) 10 is) (λ i h e. before i (omega arith) h (eq-eqb (get_or bytes i 0) 10 e))
    ∙ ap (λ k. take at bytes ∷ pieces_of (drop k bytes)) step ∙ ap (λ l. take at bytes ∷ pieces_of l) (sym (take_rest bytes (at + 1)))

pub cut_nowhere : (bytes : List ℕ) → 0 < length bytes → ((k : ℕ) → 0 ≤ k → k < length bytes → (get_or bytes k 0 == 10) ≡ true → ⊥) → pieces_of bytes ≡ bytes ∷ pieces_of []
unfolding pieces_of
cut_nowhere bytes some none = pieces_of-whole bytes some (λ i h e. none i (omega arith) h (eq-eqb (get_or bytes i 0) 10 e))

-- ---- a CR at the end

pub without_return-last : (front : List ℕ) (b : ℕ) → without_return (front ++ b ∷ []) ≡ cond (b == 13) front (front ++ b ∷ [])
unfolding without_return
without_return-last [] b = refl
without_return-last (c ∷ []) b =
    elim (b == 13) as (λ t. c ∷ cond t [] (b ∷ []) ≡ cond t (c ∷ []) (c ∷ b ∷ [])) [ true ↦ refl | false ↦ refl ]
without_return-last (c ∷ d ∷ front) b =
    let rest = without_return-last (d ∷ front) b in
    ap (λ l. c ∷ l) rest ∙ elim (b == 13) as (λ t. c ∷ cond t (d ∷ front) (d ∷ front ++ b ∷ []) ≡ cond t (c ∷ d ∷ front) (c ∷ d ∷ front ++ b ∷ [])) [ true ↦ refl | false ↦ refl ]

-- a list that is not empty is its front and its last
pub front_and_last : (bytes : List ℕ) → 0 < length bytes → bytes ≡ take (length bytes - 1) bytes ++ get_or bytes (length bytes - 1) 0 ∷ []
front_and_last [] some = absurd (omega arith)
front_and_last (b ∷ []) some = refl
front_and_last (b ∷ c ∷ bytes) some =
    let rest = front_and_last (c ∷ bytes) (omega arith) in
    let back : length (b ∷ c ∷ bytes) - 1 ≡ suc (length (c ∷ bytes) - 1) = omega arith in
    rw back (ap (λ l. b ∷ l) rest)

pub without_return-cut : (bytes : List ℕ) → 0 < length bytes → get_or bytes (length bytes - 1) 0 ≡ 13 → take (length bytes - 1) bytes ≡ without_return bytes
without_return-cut bytes some is =
    let split = front_and_last bytes some in
    sym (ap without_return split ∙ without_return-last (take (length bytes - 1) bytes) (get_or bytes (length bytes - 1) 0) ∙ ap (λ b. cond (b == 13) (take (length bytes - 1) bytes) (take (length bytes - 1) bytes ++ b ∷ [])) is)

pub without_return-kept : (bytes : List ℕ) → get_or bytes (length bytes - 1) 0 ≢ 13 → bytes ≡ without_return bytes
unfolding without_return
without_return-kept [] other = refl
without_return-kept (b ∷ bytes) other =
    let split = front_and_last (b ∷ bytes) (omega arith) in
    let n = length (b ∷ bytes) - 1 in
    split ∙ sym (ap without_return split ∙ without_return-last (take n (b ∷ bytes)) (get_or (b ∷ bytes) n 0)
    ∙ ap (λ t. cond t (take n (b ∷ bytes)) (take n (b ∷ bytes) ++ get_or (b ∷ bytes) n 0 ∷ [])) (ne_eqb (get_or (b ∷ bytes) n 0) 13 other))

pub without_return-short : (bytes : List ℕ) → length bytes < 1 → bytes ≡ without_return bytes
unfolding without_return
without_return-short [] short = refl
without_return-short (b ∷ bytes) short = absurd (omega arith)

-- ---- blanks

pub trim_start-blank : (b : ℕ) (bytes : List ℕ) → is_blank b ≡ true → trim_start (b ∷ bytes) ≡ trim_start bytes
unfolding trim_start
trim_start-blank b bytes blank = ap (λ t. cond t (trim_start bytes) (b ∷ bytes)) blank

pub trim_start-other : (b : ℕ) (bytes : List ℕ) → is_blank b ≡ false → trim_start (b ∷ bytes) ≡ b ∷ bytes
unfolding trim_start
trim_start-other b bytes other = ap (λ t. cond t (trim_start bytes) (b ∷ bytes)) other

-- blanks alone are left out
trim_start-none : (bytes : List ℕ) → trim_start bytes ≡ [] → list_all is_blank bytes ≡ true
unfolding trim_start
trim_start-none [] none = refl
trim_start-none (b ∷ bytes) none = by (is_blank b) refl none (trim_start-none bytes)
  where
    by : (t : Bool) → is_blank b ≡ t → cond t (trim_start bytes) (b ∷ bytes) ≡ [] → (trim_start bytes ≡ [] → list_all is_blank bytes ≡ true) → (is_blank b && list_all is_blank bytes) ≡ true
    by true e left more = ap (λ t. t && list_all is_blank bytes) e ∙ more left
    by false e left more = absurd (cc)

-- where something is left there is more than blanks
trim_start-some : (bytes : List ℕ) → 0 < length (trim_start bytes) → list_all is_blank bytes ≡ false
unfolding trim_start
trim_start-some [] some = absurd (omega arith)
trim_start-some (b ∷ bytes) some = by (is_blank b) refl some (trim_start-some bytes)
  where
    by : (t : Bool) → is_blank b ≡ t → 0 < length (cond t (trim_start bytes) (b ∷ bytes)) → (0 < length (trim_start bytes) → list_all is_blank bytes ≡ false) → (is_blank b && list_all is_blank bytes) ≡ false
    by true e left more = ap (λ t. t && list_all is_blank bytes) e ∙ more left
    by false e left more = ap (λ t. t && list_all is_blank bytes) e

-- a line of blanks
pub blank_line : (line rest : List ℕ) → rest ≡ trim_start line → length rest < 1 → (is_ballot_line line ≡ false) × (is_metadata_line line ≡ false)
blank_line line [] is short =
    let metadata : is_metadata_line line ≡ false = ap (λ l. starts_with nat_eq l (35 ∷ [])) (sym is) in
    (ap (λ t. not t && not (is_metadata_line line)) (trim_start-none line (sym is)), metadata)
blank_line line (b ∷ rest) is short = absurd (omega arith)

-- a line that begins with another byte than `#`
pub ballot_line : (line rest : List ℕ) → rest ≡ trim_start line → 1 ≤ length rest → get_or rest 0 0 ≢ 35 → (is_ballot_line line ≡ true) × (is_metadata_line line ≡ false)
ballot_line line [] is some other = absurd (omega arith)
ballot_line line (b ∷ rest) is some other =
    let metadata : is_metadata_line line ≡ false = ap (λ l. starts_with nat_eq l (35 ∷ [])) (sym is) ∙ ap (λ t. t && true) (ne_eqb 35 b (λ e. other (sym e))) in
    let more : list_all is_blank line ≡ false = trim_start-some line (subst (λ l. 0 < length l) is (omega arith)) in
    (ap (λ t. not t && not (is_metadata_line line)) more ∙ ap (λ t. true && not t) metadata, metadata)

-- ---- blanks at the end

-- the bytes without blanks at their end
abbrev pub trim_end : List ℕ → List ℕ
trim_end bytes = reverse (trim_start (reverse bytes))

pub trim_end-blank : (bytes : List ℕ) → 0 < length bytes → is_blank (get_or bytes (length bytes - 1) 0) ≡ true → trim_end (take (length bytes - 1) bytes) ≡ trim_end bytes
trim_end-blank bytes some blank =
    let split = front_and_last bytes some in
    let front = take (length bytes - 1) bytes in
    let last = get_or bytes (length bytes - 1) 0 in
    sym (ap (λ l. reverse (trim_start l)) (ap reverse split ∙ reverse-append front (last ∷ []) ∙ trim_start_is) ∙ ap reverse (trim_start-blank last (reverse front) blank))
  where
    trim_start_is : reverse (get_or bytes (length bytes - 1) 0 ∷ []) ++ reverse (take (length bytes - 1) bytes) ≡ get_or bytes (length bytes - 1) 0 ∷ reverse (take (length bytes - 1) bytes)
    trim_start_is = refl

pub trim_end-kept : (bytes : List ℕ) → 0 < length bytes → is_blank (get_or bytes (length bytes - 1) 0) ≡ false → bytes ≡ trim_end bytes
trim_end-kept bytes some other =
    let split = front_and_last bytes some in
    let front = take (length bytes - 1) bytes in
    let last = get_or bytes (length bytes - 1) 0 in
    let turned : reverse bytes ≡ last ∷ reverse front = ap reverse split ∙ reverse-append front (last ∷ []) in
    sym (ap (λ l. reverse (trim_start l)) turned ∙ ap reverse (trim_start-other last (reverse front) other) ∙ ap reverse (sym turned) ∙ reverse-reverse bytes)

pub trim_end-short : (bytes : List ℕ) → length bytes < 1 → bytes ≡ trim_end bytes
unfolding trim_start
trim_end-short [] short = refl
trim_end-short (b ∷ bytes) short = absurd (omega arith)
