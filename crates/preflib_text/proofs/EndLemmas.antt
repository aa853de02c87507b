-- The lines that have ended, and what has come of the next.
use Rattle.std.proofs.Math.Bool.{and-false}
use Rattle.std.proofs.Common.{◌≡◌, ◌≢◌, ◌⊎◌, inl, inr, ℕ, zero, suc, ◌-◌, ◌<◌, ◌≤◌, ◌==◌, ◌&&◌, Bool, true, false, not, cond, List, [], ◌∷◌, ◌++◌, refl, sym, ap, ◌∙◌, arith, length, map, take, drop, get_or, reverse}
use Rattle.std.specs.Prelude.{nat_eq}
use Rattle.std.specs.List.{list_all, starts_with, take_while}
use Rattle.std.proofs.lemmas.Bool.{ne_eqb, and_parts, and_right, eqb-true}
use Rattle.std.proofs.lemmas.List.{append_assoc, reverse-append, reverse-reverse, length-append, length-map, map-append, take-append-le, take_all, length-drop}
use Rattle.std.proofs.lemmas.List.Folds.{list_all-append}
use Rattle.std.proofs.lemmas.List.Sums.{take_while-cons}
use Rattle.preflib_text.specs.Lines.{onto_first, pieces_of, without_mark, without_return, lines_of}
use Rattle.preflib_text.specs.Pieces.{unfinished, ended, ended_lines, unfinished_line}
use Rattle.preflib_text.specs.Steps.Pieces.{unmarked, line_with}
use Rattle.preflib_text.proofs.CutLemmas.{pieces_of-line, pieces_of-byte}

-- ---- bytes without LF

abbrev is_content : ℕ → Bool
is_content b = not (b == 10)

-- no byte is LF
abbrev pub NoEnd : List ℕ → Type 0
NoEnd bytes = list_all is_content bytes ≡ true

not_LF : (b : ℕ) → is_content b ≡ true → b ≢ 10
not_LF b h = λ e. absurd (grind (arith, h, e))

pub no_end_search : (bytes : List ℕ) (at : ℕ) → ((k : ℕ) → 0 ≤ k → k < at → (get_or bytes k 0 == 10) ≡ true → ⊥) → NoEnd (take at bytes)
no_end_search bytes zero none = refl
no_end_search [] (suc at) none = refl
no_end_search (b ∷ bytes) (suc at) none = by (no_end_search bytes at (λ k low high. none (suc k) (omega arith) (omega arith))) (b == 10) refl
  where
    by : NoEnd (take at bytes) → (t : Bool) → (b == 10) ≡ t → NoEnd (take (suc at) (b ∷ bytes))
    by rest true e = absurd (none 0 (omega arith) (omega arith) e)
    by rest false e = ap (λ t. not t && list_all is_content (take at bytes)) e ∙ rest

pub no_end_drop : (n : ℕ) (bytes : List ℕ) → NoEnd bytes → NoEnd (drop n bytes)
no_end_drop zero bytes none = none
no_end_drop (suc n) [] none = none
no_end_drop (suc n) (b ∷ bytes) none = no_end_drop n bytes (and_parts (is_content b) _ none).1

pub no_end_append : (xs ys : List ℕ) → NoEnd xs → NoEnd ys → NoEnd (xs ++ ys)
no_end_append xs ys a b = list_all-append is_content xs ys ∙ ap (λ t. t && list_all is_content ys) a ∙ b

no_end_reverse : (xs : List ℕ) → NoEnd xs → NoEnd (reverse xs)
no_end_reverse [] none = refl
no_end_reverse (x ∷ xs) none =
    ap (list_all is_content) (reverse-append (x ∷ []) xs)
    ∙ no_end_append (reverse xs) (x ∷ []) (no_end_reverse xs (and_parts (is_content x) _ none).1) (ap (λ t. t && true) (and_parts (is_content x) _ none).0)

-- up to the last LF, and after it
abbrev IsSplitLast : List ℕ → Type 0
IsSplitLast bytes = NoEnd bytes ⊎ ((front : List ℕ) × (part : List ℕ) × (bytes ≡ front ++ 10 ∷ part) × NoEnd part)

pub split_last : (bytes : List ℕ) → IsSplitLast bytes
split_last [] = inl refl
split_last (b ∷ bytes) = by (split_last bytes) (b == 10) refl
  where
    by : IsSplitLast bytes → (t : Bool) → (b == 10) ≡ t → IsSplitLast (b ∷ bytes)
    by (inr (front, part, is, none)) t e = inr (b ∷ front, part, ap (λ l. b ∷ l) is, none)
    by (inl none) true e = inr ([], bytes, ap (λ c. c ∷ bytes) (eqb-true b 10 e), none)
    by (inl none) false e = inl (ap (λ t. not t && list_all is_content bytes) e ∙ none)

-- up to the first LF, and after it
abbrev IsSplitFirst : List ℕ → Type 0
IsSplitFirst bytes = NoEnd bytes ⊎ ((part : List ℕ) × (after : List ℕ) × (bytes ≡ part ++ 10 ∷ after) × NoEnd part)

pub split_first : (bytes : List ℕ) → IsSplitFirst bytes
split_first [] = inl refl
split_first (b ∷ bytes) = by (split_first bytes) (b == 10) refl
  where
    by : IsSplitFirst bytes → (t : Bool) → (b == 10) ≡ t → IsSplitFirst (b ∷ bytes)
    by s true e = inr ([], bytes, ap (λ c. c ∷ bytes) (eqb-true b 10 e), refl)
    by (inr (part, after, is, none)) false e = inr (b ∷ part, after, ap (λ l. b ∷ l) is, ap (λ t. not t && list_all is_content part) e ∙ none)
    by (inl none) false e = inl (ap (λ t. not t && list_all is_content bytes) e ∙ none)

-- ---- what has not ended

take_while-all : (xs ys : List ℕ) → NoEnd xs → take_while is_content (xs ++ ys) ≡ xs ++ take_while is_content ys
take_while-all [] ys none = refl
take_while-all (x ∷ xs) ys none =
    take_while-cons is_content x (xs ++ ys)
    ∙ ap (λ t. cond t (x ∷ take_while is_content (xs ++ ys)) []) (and_parts (is_content x) _ none).0
    ∙ ap (λ l. x ∷ l) (take_while-all xs ys (and_parts (is_content x) _ none).1)

pub unfinished_more : (bytes part : List ℕ) → NoEnd part → unfinished (bytes ++ part) ≡ unfinished bytes ++ part
unfinished_more bytes part none =
    ap (λ l. reverse (take_while is_content l)) (reverse-append bytes part)
    ∙ ap reverse (take_while-all (reverse part) (reverse bytes) (no_end_reverse part none))
    ∙ reverse-append (reverse part) (take_while is_content (reverse bytes))
    ∙ ap (λ l. unfinished bytes ++ l) (reverse-reverse part)

pub unfinished_end : (front : List ℕ) → unfinished (front ++ 10 ∷ []) ≡ []
unfinished_end front =
    ap (λ l. reverse (take_while is_content l)) (reverse-append front (10 ∷ []))
    ∙ ap reverse (take_while-cons is_content 10 (reverse front))

pub ended_more : (bytes part : List ℕ) → NoEnd part → length (unfinished bytes) ≤ length bytes → ended (bytes ++ part) ≡ ended bytes
ended_more bytes part none within =
    let all = length-append bytes part in
    let rest = ap length (unfinished_more bytes part none) ∙ length-append (unfinished bytes) part in
    let same : length (bytes ++ part) - length (unfinished (bytes ++ part)) ≡ length bytes - length (unfinished bytes) = omega (arith, all, rest) in
    ap (λ n. take n (bytes ++ part)) same ∙ take-append-le (length bytes - length (unfinished bytes)) bytes part (omega arith)

ended_end : (front : List ℕ) → ended (front ++ 10 ∷ []) ≡ front ++ 10 ∷ []
ended_end front =
    ap (λ l. take (length (front ++ 10 ∷ []) - length l) (front ++ 10 ∷ [])) (unfinished_end front)
    ∙ take_all (length (front ++ 10 ∷ []) - 0) (front ++ 10 ∷ []) (omega arith)

pub at_none : (bytes : List ℕ) → NoEnd bytes → (unfinished bytes ≡ bytes) × (ended bytes ≡ [])
at_none bytes none = (unfinished_more [] bytes none, ended_more [] bytes none (omega arith))

pub at_end : (front part : List ℕ) → NoEnd part → (unfinished (front ++ 10 ∷ part) ≡ part) × (ended (front ++ 10 ∷ part) ≡ front ++ 10 ∷ [])
at_end front part none =
    let join : (front ++ 10 ∷ []) ++ part ≡ front ++ 10 ∷ part = append_assoc front (10 ∷ []) part in
    let no_rest = ap length (unfinished_end front) in (
      ap unfinished (sym join) ∙ unfinished_more (front ++ 10 ∷ []) part none ∙ ap (λ l. l ++ part) (unfinished_end front),
      ap ended (sym join) ∙ ended_more (front ++ 10 ∷ []) part none (omega (arith, no_rest)) ∙ ended_end front,
    )

pub no_end_unfinished : (bytes : List ℕ) → NoEnd (unfinished bytes)
no_end_unfinished bytes = by (split_last bytes)
  where
    by : IsSplitLast bytes → NoEnd (unfinished bytes)
    by (inl none) = ap (list_all is_content) (at_none bytes none).0 ∙ none
    by (inr (front, part, is, none)) = ap (λ l. list_all is_content (unfinished l)) is ∙ ap (list_all is_content) (at_end front part none).0 ∙ none

pub ended_and_unfinished : (bytes : List ℕ) → ended bytes ++ unfinished bytes ≡ bytes
ended_and_unfinished bytes = by (split_last bytes)
  where
    by : IsSplitLast bytes → ended bytes ++ unfinished bytes ≡ bytes
    by (inl none) = ap (λ l. l ++ unfinished bytes) (at_none bytes none).1 ∙ (at_none bytes none).0
    by (inr (front, part, is, none)) =
        ap (λ l. ended l ++ unfinished l) is ∙ ap (λ l. l ++ unfinished (front ++ 10 ∷ part)) (at_end front part none).1
        ∙ ap (λ l. (front ++ 10 ∷ []) ++ l) (at_end front part none).0 ∙ append_assoc front (10 ∷ []) part ∙ sym is

pub ended_after : (pre after : List ℕ) → ended (pre ++ 10 ∷ after) ≡ pre ++ 10 ∷ ended after
ended_after pre after = by (split_last after)
  where
    by : IsSplitLast after → ended (pre ++ 10 ∷ after) ≡ pre ++ 10 ∷ ended after
    by (inl none) = (at_end pre after none).1 ∙ ap (λ l. pre ++ 10 ∷ l) (sym (at_none after none).1)
    by (inr (front, part, is, none)) =
        ap (λ l. ended (pre ++ 10 ∷ l)) is ∙ ap ended (sym (append_assoc pre (10 ∷ front) (10 ∷ part))) ∙ (at_end (pre ++ 10 ∷ front) part none).1
        ∙ append_assoc pre (10 ∷ front) (10 ∷ []) ∙ ap (λ l. pre ++ 10 ∷ l) (sym (ap ended is ∙ (at_end front part none).1))

-- ---- a mark at the start

abbrev mark : List ℕ
mark = 239 ∷ 187 ∷ 191 ∷ []

not_marked : (bytes : List ℕ) → starts_with nat_eq bytes mark ≡ false → without_mark bytes ≡ bytes
not_marked bytes h = ap (λ t. cond t (drop 3 bytes) bytes) h

and_and_false : (s t : Bool) → (s && (t && false)) ≡ false
and_and_false s t = and_right s (t && false) (and-false t)

pub mark_line : (front after : List ℕ) → without_mark (front ++ 10 ∷ after) ≡ without_mark front ++ 10 ∷ after
mark_line [] after = refl
mark_line (a ∷ []) after = not_marked (a ∷ 10 ∷ after) (and-false _) ∙ ap (λ l. l ++ 10 ∷ after) (sym (not_marked (a ∷ []) (and-false _)))
mark_line (a ∷ b ∷ []) after = not_marked (a ∷ b ∷ 10 ∷ after) (and_and_false _ _) ∙ ap (λ l. l ++ 10 ∷ after) (sym (not_marked (a ∷ b ∷ []) (and_and_false _ _)))
mark_line (a ∷ b ∷ c ∷ front) after = by (starts_with nat_eq (a ∷ b ∷ c ∷ []) mark)
  where
    by : (t : Bool) → cond t (front ++ 10 ∷ after) (a ∷ b ∷ c ∷ (front ++ 10 ∷ after)) ≡ cond t front (a ∷ b ∷ c ∷ front) ++ 10 ∷ after
    by true = refl
    by false = refl

-- the same of bytes that a mark may begin
pub mark_more : (front more : List ℕ) → 3 ≤ length front → without_mark (front ++ more) ≡ without_mark front ++ more
mark_more [] more long = absurd (omega arith)
mark_more (a ∷ []) more long = absurd (omega arith)
mark_more (a ∷ b ∷ []) more long = absurd (omega arith)
mark_more (a ∷ b ∷ c ∷ front) more long = by (starts_with nat_eq (a ∷ b ∷ c ∷ []) mark)
  where
    by : (t : Bool) → cond t (front ++ more) (a ∷ b ∷ c ∷ (front ++ more)) ≡ cond t front (a ∷ b ∷ c ∷ front) ++ more
    by true = refl
    by false = refl

no_end_mark : (bytes : List ℕ) → NoEnd bytes → NoEnd (without_mark bytes)
no_end_mark bytes none = by (starts_with nat_eq bytes mark)
  where
    by : (t : Bool) → NoEnd (cond t (drop 3 bytes) bytes)
    by true = no_end_drop 3 bytes none
    by false = none

pub unmarked_later : (number : ℕ) (bytes : List ℕ) → 0 < number → unmarked number bytes ≡ bytes
unmarked_later number bytes later = ap (λ t. cond t (without_mark bytes) bytes) (ne_eqb number 0 (λ e. absurd (omega arith)))

unmarked_line : (number : ℕ) (bytes after : List ℕ) → unmarked number (bytes ++ 10 ∷ after) ≡ unmarked number bytes ++ 10 ∷ after
unmarked_line number bytes after = by (number == 0)
  where
    by : (t : Bool) → cond t (without_mark (bytes ++ 10 ∷ after)) (bytes ++ 10 ∷ after) ≡ cond t (without_mark bytes) bytes ++ 10 ∷ after
    by true = mark_line bytes after
    by false = refl

pub no_end_unmarked : (number : ℕ) (bytes : List ℕ) → NoEnd bytes → NoEnd (unmarked number bytes)
no_end_unmarked number bytes none = by (number == 0)
  where
    by : (t : Bool) → NoEnd (cond t (without_mark bytes) bytes)
    by true = no_end_mark bytes none
    by false = none

-- ---- pieces

pieces_line : (part after : List ℕ) → NoEnd part → pieces_of (part ++ 10 ∷ after) ≡ part ∷ pieces_of after
pieces_line [] after none = pieces_of-line after
pieces_line (b ∷ part) after none =
    pieces_of-byte b (part ++ 10 ∷ after) (not_LF b (and_parts (is_content b) _ none).0)
    ∙ ap (onto_first b) (pieces_line part after (and_parts (is_content b) _ none).1)

pub pieces_whole : (b : ℕ) (part : List ℕ) → NoEnd (b ∷ part) → pieces_of (b ∷ part) ≡ (b ∷ part) ∷ []
unfolding pieces_of
pieces_whole b [] none = pieces_of-byte b [] (not_LF b (and_parts (is_content b) _ none).0)
pieces_whole b (c ∷ part) none =
    pieces_of-byte b (c ∷ part) (not_LF b (and_parts (is_content b) _ none).0)
    ∙ ap (onto_first b) (pieces_whole c part (and_parts (is_content b) _ none).1)

pub pieces_none : pieces_of [] ≡ []
unfolding pieces_of
pieces_none = refl

some_piece : (front after : List ℕ) → (piece : List ℕ) × (pieces : List (List ℕ)) × (pieces_of (front ++ 10 ∷ after) ≡ piece ∷ pieces)
some_piece [] after = ([], pieces_of after, pieces_of-line after)
some_piece (b ∷ front) after = by (some_piece front after) (b == 10) refl
  where
    by : ((piece : List ℕ) × (pieces : List (List ℕ)) × (pieces_of (front ++ 10 ∷ after) ≡ piece ∷ pieces)) → (t : Bool) → (b == 10) ≡ t
        → (piece : List ℕ) × (pieces : List (List ℕ)) × (pieces_of (b ∷ (front ++ 10 ∷ after)) ≡ piece ∷ pieces)
    by (piece, pieces, is) true e = ([], pieces_of (front ++ 10 ∷ after), ap (λ c. pieces_of (c ∷ (front ++ 10 ∷ after))) (eqb-true b 10 e) ∙ pieces_of-line (front ++ 10 ∷ after))
    by (piece, pieces, is) false e = (b ∷ piece, pieces, pieces_of-byte b (front ++ 10 ∷ after) (λ same. absurd (grind (arith, e, same))) ∙ ap (onto_first b) is)

pieces_more : (front after : List ℕ) → pieces_of (front ++ 10 ∷ after) ≡ pieces_of (front ++ 10 ∷ []) ++ pieces_of after
unfolding pieces_of
pieces_more [] after = pieces_of-line after ∙ sym (ap (λ l. l ++ pieces_of after) (pieces_of-line []))
pieces_more (b ∷ front) after = by (pieces_more front after) (some_piece front []) (b == 10) refl
  where
    by : pieces_of (front ++ 10 ∷ after) ≡ pieces_of (front ++ 10 ∷ []) ++ pieces_of after → ((piece : List ℕ) × (pieces : List (List ℕ)) × (pieces_of (front ++ 10 ∷ []) ≡ piece ∷ pieces)) → (t : Bool) → (b == 10) ≡ t
        → pieces_of (b ∷ (front ++ 10 ∷ after)) ≡ pieces_of (b ∷ (front ++ 10 ∷ [])) ++ pieces_of after
    by more some true e =
        ap (λ c. pieces_of (c ∷ (front ++ 10 ∷ after))) (eqb-true b 10 e) ∙ pieces_of-line (front ++ 10 ∷ after) ∙ ap (λ l. [] ∷ l) more
        ∙ sym (ap (λ l. l ++ pieces_of after) (ap (λ c. pieces_of (c ∷ (front ++ 10 ∷ []))) (eqb-true b 10 e) ∙ pieces_of-line (front ++ 10 ∷ [])))
    by more (piece, pieces, is) false e =
        let other : b ≢ 10 = λ same. absurd (grind (arith, e, same)) in
        pieces_of-byte b (front ++ 10 ∷ after) other ∙ ap (onto_first b) (more ∙ ap (λ l. l ++ pieces_of after) is)
        ∙ sym (ap (λ l. l ++ pieces_of after) (pieces_of-byte b (front ++ 10 ∷ []) other ∙ ap (onto_first b) is))

-- ---- lines

lines_none : lines_of [] ≡ []
unfolding pieces_of
lines_none = refl

pub none_ended : (bytes : List ℕ) → NoEnd bytes → ended_lines bytes ≡ []
none_ended bytes none = ap lines_of (at_none bytes none).1 ∙ lines_none

pub some_ended : (front part : List ℕ) → NoEnd part → ended_lines (front ++ 10 ∷ part) ≡ map without_return (pieces_of (without_mark front ++ 10 ∷ []))
some_ended front part none = ap lines_of (at_end front part none).1 ∙ ap (λ l. map without_return (pieces_of l)) (mark_line front [])

some_length : (front part : List ℕ) → NoEnd part → 0 < length (ended_lines (front ++ 10 ∷ part))
some_length front part none = by (some_piece (without_mark front) [])
  where
    by : ((piece : List ℕ) × (pieces : List (List ℕ)) × (pieces_of (without_mark front ++ 10 ∷ []) ≡ piece ∷ pieces)) → 0 < length (ended_lines (front ++ 10 ∷ part))
    by (piece, pieces, is) =
        let lines = ap length (some_ended front part none ∙ ap (map without_return) is) in
        omega (arith, lines)

-- the lines of what was fed and of more
pub lines_from : (bytes more : List ℕ) → lines_of (bytes ++ more) ≡ ended_lines bytes ++ map without_return (pieces_of (unmarked (length (ended_lines bytes)) (unfinished bytes ++ more)))
lines_from bytes more = by (split_last bytes)
  where
    by : IsSplitLast bytes → lines_of (bytes ++ more) ≡ ended_lines bytes ++ map without_return (pieces_of (unmarked (length (ended_lines bytes)) (unfinished bytes ++ more)))
    by (inl none) = sym (
        ap (λ l. l ++ map without_return (pieces_of (unmarked (length l) (unfinished bytes ++ more)))) (none_ended bytes none)
        ∙ ap (λ l. lines_of (l ++ more)) (at_none bytes none).0)
    by (inr (front, part, is, none)) =
        ap (λ l. lines_of (l ++ more)) is ∙ ap lines_of (append_assoc front (10 ∷ part) more) ∙ ap (λ l. map without_return (pieces_of l)) (mark_line front (part ++ more))
        ∙ ap (map without_return) (pieces_more (without_mark front) (part ++ more))
        ∙ map-append without_return (pieces_of (without_mark front ++ 10 ∷ [])) (pieces_of (part ++ more))
        ∙ ap (λ l. l ++ map without_return (pieces_of (part ++ more))) (sym (some_ended front part none))
        ∙ ap (λ l. ended_lines (front ++ 10 ∷ part) ++ map without_return (pieces_of l)) (sym (
        unmarked_later (length (ended_lines (front ++ 10 ∷ part))) (unfinished (front ++ 10 ∷ part) ++ more) (some_length front part none)
        ∙ ap (λ l. l ++ more) (at_end front part none).0))
        ∙ ap (λ l. ended_lines l ++ map without_return (pieces_of (unmarked (length (ended_lines l)) (unfinished l ++ more)))) (sym is)

-- the lines where the next one ends
pub lines_cut : (bytes part after : List ℕ) → NoEnd part → lines_of (bytes ++ (part ++ 10 ∷ after))
    ≡ ended_lines bytes ++ line_with (length (ended_lines bytes)) (unfinished bytes ++ part) ∷ map without_return (pieces_of after)
lines_cut bytes part after none =
    let number = length (ended_lines bytes) in
    let line = unfinished bytes ++ part in
    lines_from bytes (part ++ 10 ∷ after)
    ∙ ap (λ l. ended_lines bytes ++ map without_return (pieces_of (unmarked number l))) (sym (append_assoc (unfinished bytes) part (10 ∷ after)))
    ∙ ap (λ l. ended_lines bytes ++ map without_return (pieces_of l)) (unmarked_line number line after)
    ∙ ap (λ l. ended_lines bytes ++ map without_return l) (pieces_line (unmarked number line) after (no_end_unmarked number line (no_end_append (unfinished bytes) part (no_end_unfinished bytes) none)))

pub ended_lines_cut : (bytes part after : List ℕ) → NoEnd part → ended_lines (bytes ++ (part ++ 10 ∷ after))
    ≡ ended_lines bytes ++ line_with (length (ended_lines bytes)) (unfinished bytes ++ part) ∷ map without_return (pieces_of (ended after))
ended_lines_cut bytes part after none =
    ap lines_of (ap ended (sym (append_assoc bytes part (10 ∷ after))) ∙ ended_after (bytes ++ part) after ∙ append_assoc bytes part (10 ∷ ended after))
    ∙ lines_cut bytes part (ended after) none

pub unfinished_line-is : (bytes : List ℕ) → unfinished_line bytes ≡ unmarked (length (ended_lines bytes)) (unfinished bytes)
unfinished_line-is bytes = by (split_last bytes)
  where
    by : IsSplitLast bytes → unfinished_line bytes ≡ unmarked (length (ended_lines bytes)) (unfinished bytes)
    by (inl none) =
        (at_none (without_mark bytes) (no_end_mark bytes none)).0
        ∙ sym (ap (λ l. unmarked (length l) (unfinished bytes)) (none_ended bytes none) ∙ ap without_mark (at_none bytes none).0)
    by (inr (front, part, is, none)) =
        ap unfinished_line is ∙ ap unfinished (mark_line front part) ∙ (at_end (without_mark front) part none).0
        ∙ sym (unmarked_later (length (ended_lines (front ++ 10 ∷ part))) (unfinished (front ++ 10 ∷ part)) (some_length front part none) ∙ (at_end front part none).0)
        ∙ ap (λ l. unmarked (length (ended_lines l)) (unfinished l)) (sym is)

-- ---- how many lines there are

pieces_within : (bytes : List ℕ) → length (pieces_of bytes) ≤ length bytes
unfolding pieces_of
pieces_within [] = omega arith
pieces_within (b ∷ bytes) = by (b == 10) (pieces_of bytes) (pieces_within bytes)
  where
    by : (t : Bool) (pieces : List (List ℕ)) → length pieces ≤ length bytes → length (cond t ([] ∷ pieces) (onto_first b pieces)) ≤ suc (length bytes)
    by true pieces h = omega (arith, h)
    by false [] h = omega (arith, h)
    by false (piece ∷ pieces) h = omega (arith, h)

pub lines_within : (bytes : List ℕ) → length (lines_of bytes) ≤ length bytes
lines_within bytes = by (starts_with nat_eq bytes mark)
  where
    by : (t : Bool) → length (map without_return (pieces_of (cond t (drop 3 bytes) bytes))) ≤ length bytes
    by true = let rest = length-drop 3 bytes in let pieces = pieces_within (drop 3 bytes) in let same = length-map (pieces_of (drop 3 bytes)) without_return in omega (arith, rest, pieces, same)
    by false = let pieces = pieces_within bytes in let same = length-map (pieces_of bytes) without_return in omega (arith, pieces, same)
