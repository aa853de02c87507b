-- What is kept of the bytes that were fed, and what they tell.
use Rattle.preflib_text.proofs.BallotFaults.{or_else-assoc}
use Rattle.std.proofs.Common.{◌≡◌, ◌⊎◌, inl, inr, ℕ, ◌+◌, ◌-◌, ◌<◌, ◌≤◌, ◌==◌, ◌&&◌, ◌||◌, Bool, true, false, not, cond, List, [], ◌∷◌, ◌++◌, refl, sym, ap, subst, ◌∙◌, arith, length, map, take, drop, get_or, append-nil, replicate, Option, Some, None, IfSome, is_some, option_map, unwrap_or, Err}
use Rattle.std.specs.Prelude.{nat_lt, nat_eq}
use Rattle.std.specs.List.{starts_with, list_all, list_any}
use Rattle.std.proofs.Math.Path.{fun_ext}
use Rattle.std.proofs.lemmas.Bool.{lt-ltb, ltb-true, ltb-false, eqb-true}
use Rattle.std.proofs.lemmas.List.{append_assoc, length-append, take-append-drop, drop_more, take_rest, take_all, length-drop}
use Rattle.ballot_base.specs.Ballots.{Election, election}
use Rattle.ballot_base.specs.Limits.{most_candidates}
use Rattle.preflib_text.specs.Limits.{most_line_bytes}
use Rattle.preflib_text.specs.declared.pick.Pick.{Pick}
use Rattle.preflib_text.specs.declared.fault.FaultName.{FaultName}
use Rattle.preflib_text.specs.declared.fault.FaultName.TheVariants.{LongLine, Memory}
use Rattle.preflib_text.specs.declared.fault.ReadFault.{ReadFault}
use Rattle.preflib_text.specs.declared.notes.Notes.{Notes}
use Rattle.preflib_text.specs.Lines.{lines_of, pieces_of, without_return, without_mark}
use Rattle.preflib_text.specs.Reading.{Cast, Reads, FaultyLine, faulty_line, fault_of_line, or_else, fault_if, first_faulty_line, line_fault, at_line}
use Rattle.preflib_text.specs.Pieces.{unfinished, ended, ended_lines, unfinished_line, is_too_long, known_fault, Tells, LacksMemory, IsLate, feeding, IsTrue}
use Rattle.preflib_text.specs.Steps.Tokens.{ballot_of}
use Rattle.preflib_text.specs.Steps.Notes.{fresh_notes, line_error}
use Rattle.preflib_text.specs.Steps.After.{IsAfter, IsFine}
use Rattle.preflib_text.specs.Steps.Pieces.{line_room, unmarked, line_with, IsRead, IsLineRefused, IsRefused, IsFed, Agrees}
use Rattle.preflib_text.proofs.BallotLines.{ballot_of_reads, one_reading}
use Rattle.preflib_text.proofs.After.{is_after-none, is_fine-none, is_fine-more, none_faulty}
use Rattle.preflib_text.proofs.ReadLemmas.{reads_by, read_fine, read_after, IsRefusal, refusal_is, outcome_refused}
use Rattle.preflib_text.proofs.EndLemmas.{NoEnd, no_end_search, split_first, unfinished_more, unfinished_end, ended_more, no_end_unfinished, no_end_unmarked, no_end_append, ended_and_unfinished, mark_more, pieces_whole, pieces_none, lines_from, lines_cut, ended_lines_cut, none_ended, unfinished_line-is, lines_within}

-- ---- how long lines are

length-without_return : (bytes : List ℕ) → (length bytes ≤ length (without_return bytes) + 1) × (length (without_return bytes) ≤ length bytes)
unfolding without_return
length-without_return [] = (omega arith, omega arith)
length-without_return (b ∷ []) = by (b == 13)
  where
    by : (t : Bool) → (1 ≤ length (cond t [] (b ∷ [])) + 1) × (length (cond t [] (b ∷ [])) ≤ 1)
    by true = (omega arith, omega arith)
    by false = (omega arith, omega arith)
length-without_return (b ∷ c ∷ bytes) = let (low, high) = length-without_return (c ∷ bytes) in (omega arith, omega arith)

length-unmarked : (number : ℕ) (bytes : List ℕ) → (length bytes ≤ length (unmarked number bytes) + 3) × (length (unmarked number bytes) ≤ length bytes)
length-unmarked number bytes = by (number == 0) (starts_with nat_eq bytes (239 ∷ 187 ∷ 191 ∷ []))
  where
    by : (s t : Bool) → (length bytes ≤ length (cond s (cond t (drop 3 bytes) bytes) bytes) + 3) × (length (cond s (cond t (drop 3 bytes) bytes) bytes) ≤ length bytes)
    by true true = let rest = length-drop 3 bytes in (omega (arith, rest), omega (arith, rest))
    by true false = (omega arith, omega arith)
    by false t = (omega arith, omega arith)

pub too_long : (number : ℕ) (bytes : List ℕ) → line_room < length bytes → is_too_long (unmarked number bytes) ≡ true
too_long number bytes long =
    let unmarked_long = (length-unmarked number bytes).0 in
    let line_long = (length-without_return (unmarked number bytes)).0 in
    lt-ltb most_line_bytes (length (without_return (unmarked number bytes))) (omega (arith, unmarked_long, line_long))

pub room_left : (number : ℕ) (bytes : List ℕ) → is_too_long (unmarked number bytes) ≡ false → length bytes ≤ line_room
room_left number bytes short =
    let unmarked_long = (length-unmarked number bytes).0 in
    let line_long = (length-without_return (unmarked number bytes)).0 in
    let within = ltb-false most_line_bytes (length (without_return (unmarked number bytes))) short in
    omega (arith, unmarked_long, line_long, within)

-- the unfinished line has at most one byte more than the longest
pub most_held : (bytes : List ℕ) → is_too_long bytes ≡ false → length bytes ≤ most_line_bytes + 1
most_held bytes short =
    let line_long = (length-without_return bytes).0 in
    let within = ltb-false most_line_bytes (length (without_return bytes)) short in
    omega (arith, line_long, within)

-- a line that is too long stays so
longer : (number : ℕ) (bytes more : List ℕ) → is_too_long (unmarked number bytes) ≡ true → is_too_long (unmarked number (bytes ++ more)) ≡ true
longer number bytes [] long = ap (λ l. is_too_long (unmarked number l)) (append-nil bytes) ∙ long
longer number bytes (m ∷ more) long =
    let past = ltb-true most_line_bytes (length (without_return (unmarked number bytes))) long in
    let line_short = (length-without_return (unmarked number bytes)).1 in
    let short = (length-unmarked number bytes).1 in
    let whole : unmarked number (bytes ++ m ∷ more) ≡ unmarked number bytes ++ m ∷ more = by (number == 0) (omega (arith, past, line_short, short)) in
    let line_long = (length-without_return (unmarked number (bytes ++ m ∷ more))).0 in
    let all = ap length whole ∙ length-append (unmarked number bytes) (m ∷ more) in
    lt-ltb most_line_bytes (length (without_return (unmarked number (bytes ++ m ∷ more)))) (omega (arith, past, line_short, line_long, all))
  where
    by : (t : Bool) → 3 ≤ length bytes → cond t (without_mark (bytes ++ m ∷ more)) (bytes ++ m ∷ more) ≡ cond t (without_mark bytes) bytes ++ m ∷ more
    by true l = mark_more bytes (m ∷ more) l
    by false l = refl

-- ---- the first line with a fault

first_faulty_line-more : (pick : Pick) (read : List ℕ → Option Cast) (before lines more : List (List ℕ))
    → first_faulty_line pick read before (lines ++ more) ≡ or_else (first_faulty_line pick read before lines) (first_faulty_line pick read (before ++ lines) more)
first_faulty_line-more pick read before [] more = ap (λ l. first_faulty_line pick read l more) (sym (append-nil before))
first_faulty_line-more pick read before (line ∷ lines) more =
    let here = option_map (faulty_line (length before + 1)) (line_fault pick read before line) in
    ap (or_else here) (first_faulty_line-more pick read (before ++ line ∷ []) lines more
    ∙ ap (λ l. or_else (first_faulty_line pick read (before ++ line ∷ []) lines) (first_faulty_line pick read l more)) (append_assoc before (line ∷ []) lines))
    ∙ sym (or_else-assoc here (first_faulty_line pick read (before ++ line ∷ []) lines) (first_faulty_line pick read (before ++ line ∷ lines) more))

or_else-kept : {X : Type 0} (a b : Option X) (x : X) → a ≡ Some x → or_else a b ≡ Some x
or_else-kept a b x is = ap (λ o. or_else o b) is

-- a fault of a line stays the first
faulty_line-kept : (pick : Pick) (read : List ℕ → Option Cast) (lines more : List (List ℕ)) (faulty : FaultyLine) → first_faulty_line pick read [] lines ≡ Some faulty
    → first_faulty_line pick read [] (lines ++ more) ≡ Some faulty
faulty_line-kept pick read lines more faulty is = first_faulty_line-more pick read [] lines more ∙ or_else-kept (first_faulty_line pick read [] lines) (first_faulty_line pick read lines more) faulty is

-- a line with a fault after lines without one
faulty_line-at : (pick : Pick) (read : List ℕ → Option Cast) (before : List (List ℕ)) (line : List ℕ) (more : List (List ℕ)) (name : FaultName) → first_faulty_line pick read [] before ≡ None
    → line_fault pick read before line ≡ Some name → first_faulty_line pick read [] (before ++ line ∷ more) ≡ Some (faulty_line (length before + 1) name)
faulty_line-at pick read before line more name none is =
    first_faulty_line-more pick read [] before (line ∷ more)
    ∙ ap (λ o. or_else o (first_faulty_line pick read before (line ∷ more))) none
    ∙ ap (λ o. or_else (option_map (faulty_line (length before + 1)) o) (first_faulty_line pick read (before ++ line ∷ []) more)) is

long_line : (pick : Pick) (read : List ℕ → Option Cast) (before : List (List ℕ)) (line : List ℕ) → nat_lt most_line_bytes (length line) ≡ true → line_fault pick read before line ≡ Some LongLine
long_line pick read before line long = or_else-kept (fault_if (nat_lt most_line_bytes (length line)) LongLine) _ LongLine (ap (λ t. fault_if t LongLine) long)

-- ---- what the bytes tell

module _ (pick : Pick) (read : List ℕ → Option Cast) where
  -- a fault among the lines that have ended
  known-line : (bytes : List ℕ) (faulty : FaultyLine) → first_faulty_line pick read [] (ended_lines bytes) ≡ Some faulty → known_fault pick read bytes ≡ Some (fault_of_line faulty)
  known-line bytes faulty is = ap (λ o. or_else (option_map fault_of_line o) (option_map (at_line (length (ended_lines bytes) + 1)) (fault_if (is_too_long (unfinished_line bytes)) LongLine))) is

  known-long : (bytes : List ℕ) → first_faulty_line pick read [] (ended_lines bytes) ≡ None → is_too_long (unfinished_line bytes) ≡ true → known_fault pick read bytes ≡ Some (at_line (length (ended_lines bytes) + 1) LongLine)
  known-long bytes none long =
      ap (λ o. or_else (option_map fault_of_line o) (option_map (at_line (length (ended_lines bytes) + 1)) (fault_if (is_too_long (unfinished_line bytes)) LongLine))) none
      ∙ ap (λ t. option_map (at_line (length (ended_lines bytes) + 1)) (fault_if t LongLine)) long

  known-none : (bytes : List ℕ) → first_faulty_line pick read [] (ended_lines bytes) ≡ None → is_too_long (unfinished_line bytes) ≡ false → known_fault pick read bytes ≡ None
  known-none bytes none short =
      ap (λ o. or_else (option_map fault_of_line o) (option_map (at_line (length (ended_lines bytes) + 1)) (fault_if (is_too_long (unfinished_line bytes)) LongLine))) none
      ∙ ap (λ t. option_map (at_line (length (ended_lines bytes) + 1)) (fault_if t LongLine)) short

-- ---- lines after what was fed

within_bytes : (bytes : List ℕ) → length (ended bytes) + length (unfinished bytes) ≡ length bytes
within_bytes bytes = sym (length-append (ended bytes) (unfinished bytes)) ∙ ap length (ended_and_unfinished bytes)

same_lines : (bytes part : List ℕ) → NoEnd part → ended_lines (bytes ++ part) ≡ ended_lines bytes
same_lines bytes part none = let whole = within_bytes bytes in ap lines_of (ended_more bytes part none (omega (arith, whole)))

-- the lines that have ended stay
ended_lines_more : (bytes more : List ℕ) → (tail : List (List ℕ)) × (ended_lines (bytes ++ more) ≡ ended_lines bytes ++ tail)
ended_lines_more bytes more = by (split_first more)
  where
    by : NoEnd more ⊎ ((part : List ℕ) × (after : List ℕ) × (more ≡ part ++ 10 ∷ after) × NoEnd part) → (tail : List (List ℕ)) × (ended_lines (bytes ++ more) ≡ ended_lines bytes ++ tail)
    by (inl none) = ([], same_lines bytes more none ∙ sym (append-nil (ended_lines bytes)))
    by (inr (part, after, is, none)) = (_, ap (λ l. ended_lines (bytes ++ l)) is ∙ ended_lines_cut bytes part after none)

-- a line that is too long is among the lines, whatever follows
nonempty : (line : List ℕ) → is_too_long line ≡ true → (b : ℕ) × (rest : List ℕ) × (line ≡ b ∷ rest)
unfolding without_return
nonempty [] long = absurd (cc)
nonempty (b ∷ rest) long = (b, rest, refl)

whole_piece : (line : List ℕ) → NoEnd line → is_too_long line ≡ true → pieces_of line ≡ line ∷ []
whole_piece line none long = by (nonempty line long)
  where
    by : ((b : ℕ) × (rest : List ℕ) × (line ≡ b ∷ rest)) → pieces_of line ≡ line ∷ []
    by (b, rest, is) = ap pieces_of is ∙ pieces_whole b rest (subst NoEnd is none) ∙ ap (λ l. l ∷ []) (sym is)

abbrev HasLongLine : List (List ℕ) → List (List ℕ) → Type 0
HasLongLine before lines = (line : List ℕ) × (tail : List (List ℕ)) × (lines ≡ before ++ line ∷ tail) × (nat_lt most_line_bytes (length line) ≡ true)

long_among : (bytes more : List ℕ) → is_too_long (unmarked (length (ended_lines bytes)) (unfinished bytes)) ≡ true → HasLongLine (ended_lines bytes) (lines_of (bytes ++ more))
long_among bytes more long = by (split_first more)
  where
    line : List ℕ
    line = unmarked (length (ended_lines bytes)) (unfinished bytes ++ more)

    by : NoEnd more ⊎ ((part : List ℕ) × (after : List ℕ) × (more ≡ part ++ 10 ∷ after) × NoEnd part) → HasLongLine (ended_lines bytes) (lines_of (bytes ++ more))
    by (inl none) =
        let longer_line = longer (length (ended_lines bytes)) (unfinished bytes) more long in
        let content = no_end_unmarked (length (ended_lines bytes)) (unfinished bytes ++ more) (no_end_append (unfinished bytes) more (no_end_unfinished bytes) none) in
        (without_return line, [], lines_from bytes more ∙ ap (λ l. ended_lines bytes ++ map without_return l) (whole_piece line content longer_line), longer_line)
    by (inr (part, after, is, none)) = (
      line_with (length (ended_lines bytes)) (unfinished bytes ++ part),
      map without_return (pieces_of after),
      ap (λ l. lines_of (bytes ++ l)) is ∙ lines_cut bytes part after none,
      longer (length (ended_lines bytes)) (unfinished bytes) part long,
    )

-- ---- a fault that was answered

known_cases : (pick : Pick) (read : List ℕ → Option Cast) (bytes : List ℕ) (fault : ReadFault) → Some fault ≡ known_fault pick read bytes
    → ((faulty : FaultyLine) × (first_faulty_line pick read [] (ended_lines bytes) ≡ Some faulty) × (fault ≡ fault_of_line faulty))
    ⊎ ((first_faulty_line pick read [] (ended_lines bytes) ≡ None) × (is_too_long (unfinished_line bytes) ≡ true) × (fault ≡ at_line (length (ended_lines bytes) + 1) LongLine))
known_cases pick read bytes fault is = by (first_faulty_line pick read [] (ended_lines bytes)) (is_too_long (unfinished_line bytes)) refl refl
  where
    some_is : {X : Type 0} {a b : X} → Some a ≡ Some b → a ≡ b
    some_is {X} {a} e = ap (λ o. unwrap_or o a) e

    by : (o : Option FaultyLine) (t : Bool) → first_faulty_line pick read [] (ended_lines bytes) ≡ o → is_too_long (unfinished_line bytes) ≡ t
        → ((faulty : FaultyLine) × (first_faulty_line pick read [] (ended_lines bytes) ≡ Some faulty) × (fault ≡ fault_of_line faulty))
        ⊎ ((first_faulty_line pick read [] (ended_lines bytes) ≡ None) × (is_too_long (unfinished_line bytes) ≡ true) × (fault ≡ at_line (length (ended_lines bytes) + 1) LongLine))
    by (Some faulty) t f l = inl (faulty, f, some_is (is ∙ known-line pick read bytes faulty f))
    by None true f l = inr (f, l, some_is (is ∙ known-long pick read bytes f l))
    by None false f l = absurd (none_some (is ∙ known-none pick read bytes f l))
      where
        none_some : Some fault ≡ None → ⊥
        none_some e = absurd (cc)

lacks_more : (pick : Pick) (lines all tail : List (List ℕ)) (fault : ReadFault) → all ≡ lines ++ tail → LacksMemory lines pick fault → LacksMemory all pick fault
lacks_more pick lines all tail fault more (before, line, after, is, fault_is, read, reads, none, growth) =
    (before, line, after ++ tail, more ∙ ap (λ l. l ++ tail) is ∙ append_assoc before (line ∷ after) tail, fault_is, read, reads, none, growth)

-- it stays the answer
pub stays_true : (pick : Pick) (bytes more : List ℕ) (fault : ReadFault) → IsTrue (feeding pick bytes (Some fault)) → IsTrue (feeding pick (bytes ++ more) (Some fault))
stays_true pick bytes more fault (inr (other, same, lacks)) =
    let (tail, lines) = ended_lines_more bytes more in
    inr (other, same, lacks_more pick (ended_lines bytes) (ended_lines (bytes ++ more)) tail other lines lacks)
stays_true pick bytes more fault (inl (read, reads, is)) = inl (read, reads, by (known_cases pick read bytes fault is) (ended_lines_more bytes more) (split_first more))
  where
    by : ((faulty : FaultyLine) × (first_faulty_line pick read [] (ended_lines bytes) ≡ Some faulty) × (fault ≡ fault_of_line faulty))
        ⊎ ((first_faulty_line pick read [] (ended_lines bytes) ≡ None) × (is_too_long (unfinished_line bytes) ≡ true) × (fault ≡ at_line (length (ended_lines bytes) + 1) LongLine))
        → ((tail : List (List ℕ)) × (ended_lines (bytes ++ more) ≡ ended_lines bytes ++ tail))
        → NoEnd more ⊎ ((part : List ℕ) × (after : List ℕ) × (more ≡ part ++ 10 ∷ after) × NoEnd part)
        → Some fault ≡ known_fault pick read (bytes ++ more)
    by (inl (faulty, has, fault_is)) (tail, lines) s =
        ap Some fault_is ∙ sym (known-line pick read (bytes ++ more) faulty (ap (first_faulty_line pick read []) lines ∙ faulty_line-kept pick read (ended_lines bytes) tail faulty has))
    by (inr (none, long, fault_is)) t (inl content) =
        let same = same_lines bytes more content in
        let grown = unfinished_line-is (bytes ++ more) ∙ ap (λ l. unmarked (length l) (unfinished (bytes ++ more))) same ∙ ap (unmarked (length (ended_lines bytes))) (unfinished_more bytes more content) in
        ap Some fault_is ∙ sym (known-long pick read (bytes ++ more) (ap (first_faulty_line pick read []) same ∙ none)
        (ap is_too_long grown ∙ longer (length (ended_lines bytes)) (unfinished bytes) more (ap is_too_long (sym (unfinished_line-is bytes)) ∙ long))
        ∙ ap (λ l. Some (at_line (length l + 1) LongLine)) same)
    by (inr (none, long, fault_is)) t (inr (part, after, is_more, content)) =
        let line = line_with (length (ended_lines bytes)) (unfinished bytes ++ part) in
        let lines = ap (λ l. ended_lines (bytes ++ l)) is_more ∙ ended_lines_cut bytes part after content in
        let line_long = longer (length (ended_lines bytes)) (unfinished bytes) part (ap is_too_long (sym (unfinished_line-is bytes)) ∙ long) in
        ap Some fault_is ∙ sym (known-line pick read (bytes ++ more) (faulty_line (length (ended_lines bytes) + 1) LongLine)
        (ap (first_faulty_line pick read []) lines ∙ faulty_line-at pick read (ended_lines bytes) line (map without_return (pieces_of (ended after))) LongLine none (long_line pick read (ended_lines bytes) line line_long)))

-- a fault that bytes tell is that of every input that begins with them
pub told_everywhere : (bytes more : List ℕ) (pick : Pick) (fault : ReadFault) → Tells bytes pick (Some fault) → Reads (bytes ++ more) pick (Err fault)
told_everywhere bytes more pick fault (read, reads, is) = by (known_cases pick read bytes fault is)
  where
    by : ((faulty : FaultyLine) × (first_faulty_line pick read [] (ended_lines bytes) ≡ Some faulty) × (fault ≡ fault_of_line faulty))
        ⊎ ((first_faulty_line pick read [] (ended_lines bytes) ≡ None) × (is_too_long (unfinished_line bytes) ≡ true) × (fault ≡ at_line (length (ended_lines bytes) + 1) LongLine))
        → Reads (bytes ++ more) pick (Err fault)
    by (inl (faulty, has, fault_is)) =
        reads_by pick read reads (bytes ++ more) faulty fault fault_is (ap (first_faulty_line pick read []) (lines_from bytes more) ∙ faulty_line-kept pick read (ended_lines bytes) _ faulty has)
    by (inr (none, long, fault_is)) =
        let (line, tail, lines, line_long) = long_among bytes more (ap is_too_long (sym (unfinished_line-is bytes)) ∙ long) in
        reads_by pick read reads (bytes ++ more) (faulty_line (length (ended_lines bytes) + 1) LongLine) fault fault_is
        (ap (first_faulty_line pick read []) lines ∙ faulty_line-at pick read (ended_lines bytes) line tail LongLine none (long_line pick read (ended_lines bytes) line line_long))

-- it is the fault of every input that begins with what was fed
pub every_input : (pick : Pick) (bytes more : List ℕ) (fault : ReadFault) → IsTrue (feeding pick bytes (Some fault)) → Reads (bytes ++ more) pick (Err fault) ⊎ LacksMemory (lines_of (bytes ++ more)) pick fault
every_input pick bytes more fault (inr (other, same, lacks)) =
    let same_fault : other ≡ fault = ap (λ o. unwrap_or o other) (sym same) in
    inr (subst (LacksMemory (lines_of (bytes ++ more)) pick) same_fault (lacks_more pick (ended_lines bytes) (lines_of (bytes ++ more)) _ other (lines_from bytes more) lacks))
every_input pick bytes more fault (inl told) = inl (told_everywhere bytes more pick fault told)

-- ---- what was fed, without a fault so far

short_none : (number : ℕ) → is_too_long (unmarked number []) ≡ false
unfolding without_return
short_none number = by (number == 0)
  where
    by : (t : Bool) → is_too_long (cond t [] []) ≡ false
    by true = refl
    by false = refl

pub nothing_fed : (pick : Pick) (notes : Notes) (e : Election) (number : ℕ) (held : List ℕ) → notes ≡ fresh_notes pick → e ≡ election most_candidates (replicate most_candidates []) [] → number ≡ 0 → held ≡ []
    → IsFed pick [] notes e number held
nothing_fed pick notes e number held fresh empty first none =
    let no_lines : ended_lines [] ≡ [] = none_ended [] refl in
    record {
      fine = subst (IsFine pick) (sym no_lines) (is_fine-none pick);
      after = subst (λ l. IsAfter pick l notes e) (sym no_lines) (subst (λ n. IsAfter pick [] n e) (sym fresh) (subst (IsAfter pick [] (fresh_notes pick)) (sym empty) (is_after-none pick)));
      count = first ∙ sym (ap length no_lines);
      kept = none;
      short = ap is_too_long (unfinished_line-is []) ∙ short_none (length (ended_lines []));
    }

module _ (pick : Pick) (bytes : List ℕ) (notes : Notes) (e : Election) (number : ℕ) (held : List ℕ) (is : IsFed pick bytes notes e number held) where
  -- the line that ends after these bytes
  line_is : (part : List ℕ) → line_with number (held ++ part) ≡ line_with (length (ended_lines bytes)) (unfinished bytes ++ part)
  line_is part = ap (λ n. line_with n (held ++ part)) is.count ∙ ap (λ l. line_with (length (ended_lines bytes)) (l ++ part)) is.kept

  pub line_fed : (part : List ℕ) (next_notes : Notes) (next : Election) (next_number : ℕ) (next_held : List ℕ) → NoEnd part → IsRead pick notes e (line_with number (held ++ part)) next_notes next
      → next_number ≡ number + 1 → next_held ≡ [] → IsFed pick (bytes ++ (part ++ 10 ∷ [])) next_notes next next_number next_held
  line_fed part next_notes next next_number next_held none read_held next_count emptied =
      let line = line_with (length (ended_lines bytes)) (unfinished bytes ++ part) in
      let read : IsRead pick notes e line next_notes next = subst (λ l. IsRead pick notes e l next_notes next) (line_is part) read_held in
      let lines : ended_lines (bytes ++ (part ++ 10 ∷ [])) ≡ ended_lines bytes ++ line ∷ [] = ended_lines_cut bytes part [] none ∙ ap (λ l. ended_lines bytes ++ line ∷ map without_return l) pieces_none in
      let rest : unfinished (bytes ++ (part ++ 10 ∷ [])) ≡ [] = ap unfinished (sym (append_assoc bytes part (10 ∷ []))) ∙ unfinished_end (bytes ++ part) in
      record {
        fine = subst (IsFine pick) (sym lines) (is_fine-more pick (ended_lines bytes) line is.fine (read_fine pick (ended_lines bytes) notes e is.after line next_notes next read));
        after = subst (λ l. IsAfter pick l next_notes next) (sym lines) (read_after pick (ended_lines bytes) notes e is.after line next_notes next read);
        count = next_count ∙ ap (λ n. n + 1) is.count ∙ sym (ap length lines ∙ length-append (ended_lines bytes) (line ∷ []));
        kept = emptied ∙ sym rest;
        short = ap is_too_long (unfinished_line-is (bytes ++ (part ++ 10 ∷ []))) ∙ ap (λ l. is_too_long (unmarked (length (ended_lines (bytes ++ (part ++ 10 ∷ [])))) l)) rest ∙ short_none (length (ended_lines (bytes ++ (part ++ 10 ∷ []))));
      }

  grown : (part : List ℕ) → NoEnd part → unfinished_line (bytes ++ part) ≡ unmarked number (held ++ part)
  grown part none =
      unfinished_line-is (bytes ++ part) ∙ ap (λ l. unmarked (length l) (unfinished (bytes ++ part))) (same_lines bytes part none)
      ∙ ap (unmarked (length (ended_lines bytes))) (unfinished_more bytes part none ∙ ap (λ l. l ++ part) (sym is.kept)) ∙ ap (λ n. unmarked n (held ++ part)) (sym is.count)

  pub more_fed : (part next_held : List ℕ) → NoEnd part → next_held ≡ held ++ part → is_too_long (unmarked number (held ++ part)) ≡ false → IsFed pick (bytes ++ part) notes e number next_held
  more_fed part next_held none same short =
      let lines = same_lines bytes part none in
      record {
        fine = subst (IsFine pick) (sym lines) is.fine;
        after = subst (λ l. IsAfter pick l notes e) (sym lines) is.after;
        count = is.count ∙ sym (ap length lines);
        kept = same ∙ ap (λ l. l ++ part) is.kept ∙ sym (unfinished_more bytes part none);
        short = ap is_too_long (grown part none) ∙ short;
      }

  -- a line is refused
  pub line_refused : (part after : List ℕ) (fault : ReadFault) → NoEnd part → IsRefused pick notes e (line_with number (held ++ part)) (number + 1) fault → IsTrue (feeding pick (bytes ++ (part ++ 10 ∷ after)) (Some fault))
  line_refused part after fault none (name, placed, refused) = by (refusal_is pick (ended_lines bytes) notes e is.after line tail name is.fine (subst (λ l. IsLineRefused pick notes e l name) (line_is part) refused))
    where
      line : List ℕ
      line = line_with (length (ended_lines bytes)) (unfinished bytes ++ part)

      tail : List (List ℕ)
      tail = map without_return (pieces_of (ended after))

      lines : ended_lines (bytes ++ (part ++ 10 ∷ after)) ≡ ended_lines bytes ++ line ∷ tail
      lines = ended_lines_cut bytes part after none

      fault_is : fault ≡ at_line (length (ended_lines bytes) + 1) name
      fault_is = placed ∙ ap (λ n. at_line (n + 1) name) is.count

      by : IsRefusal pick (ended_lines bytes) line tail name → IsTrue (feeding pick (bytes ++ (part ++ 10 ∷ after)) (Some fault))
      by (inl first) = inl (ballot_of, ballot_of_reads, ap Some fault_is ∙ sym (known-line pick ballot_of (bytes ++ (part ++ 10 ∷ after)) (faulty_line (length (ended_lines bytes) + 1) name) (ap (first_faulty_line pick ballot_of []) lines ∙ first)))
      by (inr lacks) = inr (fault, refl, subst (λ l. LacksMemory l pick fault) (sym lines) (subst (LacksMemory (ended_lines bytes ++ line ∷ tail) pick) (sym fault_is) lacks))

  pub long_refused : (part : List ℕ) (fault : ReadFault) → NoEnd part → is_too_long (unmarked number (held ++ part)) ≡ true → fault ≡ at_line (number + 1) LongLine → IsTrue (feeding pick (bytes ++ part) (Some fault))
  long_refused part fault none long fault_is =
      let lines = same_lines bytes part none in
      let count : number ≡ length (ended_lines (bytes ++ part)) = is.count ∙ sym (ap length lines) in
      inl (
        ballot_of,
        ballot_of_reads,
        ap Some (fault_is ∙ ap (λ n. at_line (n + 1) LongLine) count)
            ∙ sym (known-long pick ballot_of (bytes ++ part) (ap (first_faulty_line pick ballot_of []) lines ∙ none_faulty pick (ended_lines bytes) is.fine) (ap is_too_long (grown part none) ∙ long)),
      )

  -- no fault so far
  pub fed_true : IsTrue (feeding pick bytes None)
  fed_true = inl (ballot_of, ballot_of_reads, sym (known-none pick ballot_of bytes (none_faulty pick (ended_lines bytes) is.fine) is.short))

  -- ---- the numbers

  pub count_within : number + length held ≤ length bytes
  count_within =
      let whole = within_bytes bytes in
      let lines = lines_within (ended bytes) in
      let kept = ap length is.kept in
      omega (arith, whole, lines, kept, is.count)

  pub held_short : is_too_long (unmarked number held) ≡ false
  held_short = ap is_too_long (ap (λ n. unmarked n held) is.count ∙ ap (unmarked (length (ended_lines bytes))) is.kept ∙ sym (unfinished_line-is bytes)) ∙ is.short

  module _ (line kept : List ℕ) (line_same : line ≡ unmarked number kept) (kept_same : kept ≡ held) where
    line_of : line ≡ unfinished_line bytes
    line_of =
        line_same ∙ ap (unmarked number) (kept_same ∙ is.kept) ∙ ap (λ n. unmarked n (unfinished bytes)) is.count ∙ sym (unfinished_line-is bytes)

    pub held_length : length line ≡ length (unfinished_line bytes)
    held_length = ap length line_of

    pub held_within : length line ≤ most_line_bytes + 1
    held_within = most_held line (ap is_too_long line_of ∙ is.short)

  -- ---- the end

  -- no line has begun
  pub all_ended : unmarked number held ≡ [] → lines_of bytes ≡ ended_lines bytes
  all_ended empty =
      let same : unmarked (length (ended_lines bytes)) (unfinished bytes ++ []) ≡ [] = ap (unmarked (length (ended_lines bytes))) (append-nil (unfinished bytes) ∙ sym is.kept) ∙ ap (λ n. unmarked n held) (sym is.count) ∙ empty in
      ap lines_of (sym (append-nil bytes)) ∙ lines_from bytes [] ∙ ap (λ l. ended_lines bytes ++ map without_return (pieces_of l)) same ∙ ap (λ l. ended_lines bytes ++ map without_return l) pieces_none ∙ append-nil (ended_lines bytes)

  -- the last line has no end
  pub last_line : (b : ℕ) (rest : List ℕ) → unmarked number held ≡ b ∷ rest → lines_of bytes ≡ ended_lines bytes ++ line_with number held ∷ []
  last_line b rest begun =
      let same : unmarked (length (ended_lines bytes)) (unfinished bytes ++ []) ≡ unmarked number held = ap (unmarked (length (ended_lines bytes))) (append-nil (unfinished bytes) ∙ sym is.kept) ∙ ap (λ n. unmarked n held) (sym is.count) in
      let content : NoEnd (unmarked number held) = no_end_unmarked number held (subst NoEnd (sym is.kept) (no_end_unfinished bytes)) in
      let piece : pieces_of (unmarked number held) ≡ unmarked number held ∷ [] = ap pieces_of begun ∙ pieces_whole b rest (subst NoEnd begun content) ∙ ap (λ l. l ∷ []) (sym begun) in
      ap lines_of (sym (append-nil bytes)) ∙ lines_from bytes [] ∙ ap (λ l. ended_lines bytes ++ map without_return (pieces_of l)) same ∙ ap (λ l. ended_lines bytes ++ map without_return l) piece

  -- ---- the end of the input

  pub end_read : (next_notes : Notes) (next : Election) → (b : ℕ) (rest : List ℕ) → unmarked number held ≡ b ∷ rest → IsRead pick notes e (line_with number held) next_notes next
      → IsFine pick (lines_of bytes) × IsAfter pick (lines_of bytes) next_notes next
  end_read next_notes next b rest some read =
      let lines = last_line b rest some in (
        subst (IsFine pick) (sym lines) (is_fine-more pick (ended_lines bytes) (line_with number held) is.fine (read_fine pick (ended_lines bytes) notes e is.after (line_with number held) next_notes next read)),
        subst (λ l. IsAfter pick l next_notes next) (sym lines) (read_after pick (ended_lines bytes) notes e is.after (line_with number held) next_notes next read),
      )

  pub end_none : unmarked number held ≡ [] → IsFine pick (lines_of bytes) × IsAfter pick (lines_of bytes) notes e
  end_none none = (subst (IsFine pick) (sym (all_ended none)) is.fine, subst (λ l. IsAfter pick l notes e) (sym (all_ended none)) is.after)

  pub end_refused : (fault : ReadFault) (b : ℕ) (rest : List ℕ) → unmarked number held ≡ b ∷ rest → IsRefused pick notes e (line_with number held) (number + 1) fault
      → Reads bytes pick (Err fault) ⊎ LacksMemory (lines_of bytes) pick fault
  end_refused fault b rest some (name, placed, refused) =
      outcome_refused pick (ended_lines bytes) notes e is.after bytes (line_with number held) [] name fault is.fine (last_line b rest some) (placed ∙ ap (λ n. at_line (n + 1) name) is.count) refused

-- a line that is too long is refused
pub long_refusal : (pick : Pick) (notes : Notes) (e : Election) (number : ℕ) (bytes : List ℕ) (fault : ReadFault) → is_too_long (unmarked number bytes) ≡ true → fault ≡ at_line (number + 1) LongLine
    → IsRefused pick notes e (line_with number bytes) (number + 1) fault
long_refusal pick notes e number bytes fault long is =
    let error : line_error pick notes (line_with number bytes) ≡ Some LongLine = or_else-kept (fault_if (nat_lt most_line_bytes (length (line_with number bytes))) LongLine) _ LongLine (ap (λ t. fault_if t LongLine) long) in
    (LongLine, is, inl (or_else-kept (line_error pick notes (line_with number bytes)) _ LongLine error))

-- ---- the loop over a piece

none_left : (rest : List ℕ) → (length rest == 0) ≡ true → rest ≡ []
none_left [] h = refl
none_left (b ∷ rest) h = absurd (grind arith)

-- the bytes before the first LF, and those after it
pub cut_at_end : (rest : List ℕ) (at : ℕ) → at < length rest → (get_or rest at 0 == 10) ≡ true → take at rest ++ 10 ∷ take (length rest - (at + 1)) (drop (at + 1) rest) ≡ rest
cut_at_end rest at within is =
    ap (λ l. take at rest ++ 10 ∷ l) (take_rest rest (at + 1)) ∙ ap (λ b. take at rest ++ b ∷ drop (at + 1) rest) (sym (eqb-true (get_or rest at 0) 10 is))
    ∙ ap (λ l. take at rest ++ l) (sym (drop_more rest at 0 within)) ∙ take-append-drop at rest

module _ (pick : Pick) (all pre rest : List ℕ) (notes : Notes) (e : Election) (number : ℕ) (held : List ℕ) (joined : pre ++ rest ≡ all) (fed : IsFed pick pre notes e number held) where
  pub loop_count : number + length held + length rest ≤ length all
  loop_count =
      let count = count_within pick pre notes e number held fed in
      let whole = sym (length-append pre rest) ∙ ap length joined in
      omega (arith, count, whole)

  module _ (at : ℕ) (within : at < length rest) (is : (get_or rest at 0 == 10) ≡ true) (before : (k : ℕ) → 0 ≤ k → k < at → (get_or rest k 0 == 10) ≡ true → ⊥) where
    abbrev after : List ℕ
    after = take (length rest - (at + 1)) (drop (at + 1) rest)

    pub loop_refused : (fault : ReadFault) → IsRefused pick notes e (line_with number (held ++ take at rest)) (number + 1) fault → IsTrue (feeding pick all (Some fault))
    loop_refused fault refused =
        subst (λ l. IsTrue (feeding pick l (Some fault))) (ap (λ l. pre ++ l) (cut_at_end rest at within is) ∙ joined)
        (line_refused pick pre notes e number held fed (take at rest) after fault (no_end_search rest at before) refused)

    pub loop_next : (next_notes : Notes) (next : Election) (next_number : ℕ) (next_held : List ℕ) → IsRead pick notes e (line_with number (held ++ take at rest)) next_notes next → next_number ≡ number + 1 → next_held ≡ []
        → (next_pre : List ℕ) × (next_pre ++ take (length rest - (at + 1)) (drop (at + 1) rest) ≡ all) × IsFed pick next_pre next_notes next next_number next_held
    loop_next next_notes next next_number next_held read count emptied = (
      pre ++ (take at rest ++ 10 ∷ []),
      append_assoc pre (take at rest ++ 10 ∷ []) after ∙ ap (λ l. pre ++ l) (append_assoc (take at rest) (10 ∷ []) after ∙ cut_at_end rest at within is) ∙ joined,
      line_fed pick pre notes e number held fed (take at rest) next_notes next next_number next_held (no_end_search rest at before) read count emptied,
    )

  module _ (none : (k : ℕ) → 0 ≤ k → k < length rest → (get_or rest k 0 == 10) ≡ true → ⊥) where
    content : NoEnd rest
    content = subst NoEnd (take_all (length rest) rest (omega arith)) (no_end_search rest (length rest) none)

    pub loop_kept : (next_held : List ℕ) → next_held ≡ held ++ rest → is_too_long (unmarked number (held ++ rest)) ≡ false → IsFed pick all notes e number next_held
    loop_kept next_held same short = subst (λ l. IsFed pick l notes e number next_held) joined (more_fed pick pre notes e number held fed rest next_held content same short)

    pub loop_long : (fault : ReadFault) → is_too_long (unmarked number (held ++ rest)) ≡ true → fault ≡ at_line (number + 1) LongLine → IsTrue (feeding pick all (Some fault))
    loop_long fault long fault_is = subst (λ l. IsTrue (feeding pick l (Some fault))) joined (long_refused pick pre notes e number held fed rest fault content long fault_is)

-- ---- the end of the input

some_left : (line : List ℕ) → (length line == 0) ≡ false → (b : ℕ) × (rest : List ℕ) × (line ≡ b ∷ rest)
some_left [] h = absurd (cc)
some_left (b ∷ rest) h = (b, rest, refl)

module _ (pick : Pick) (bytes : List ℕ) (notes : Notes) (e : Election) (number : ℕ) (held : List ℕ) (is : IsFed pick bytes notes e number held) (line : List ℕ) (line_same : line ≡ unmarked number held) where
  pub input_ended : (length line == 0) ≡ true → IsFine pick (lines_of bytes) × IsAfter pick (lines_of bytes) notes e
  input_ended empty = end_none pick bytes notes e number held is (sym line_same ∙ none_left line empty)

  pub input_count : (length line == 0) ≡ false → number + 1 ≤ length bytes
  input_count some =
      let (b, rest, begun_with) = some_left line some in
      let count = count_within pick bytes notes e number held is in
      let within = (length-unmarked number held).1 in
      let has = ap length (sym line_same) ∙ ap length begun_with in
      omega (arith, count, within, has)

  pub input_read : (length line == 0) ≡ false → (next_notes : Notes) (next : Election) → IsRead pick notes e (line_with number held) next_notes next → IsFine pick (lines_of bytes) × IsAfter pick (lines_of bytes) next_notes next
  input_read some next_notes next read = let (b, rest, begun_with) = some_left line some in end_read pick bytes notes e number held is next_notes next b rest (sym line_same ∙ begun_with) read

  pub input_refused : (length line == 0) ≡ false → (fault : ReadFault) → IsRefused pick notes e (line_with number held) (number + 1) fault → Reads bytes pick (Err fault) ⊎ LacksMemory (lines_of bytes) pick fault
  input_refused some fault refused = let (b, rest, begun_with) = some_left line some in end_refused pick bytes notes e number held is fault b rest (sym line_same ∙ begun_with) refused

-- ---- what contracts see

pub agrees_true : (pick : Pick) (bytes : List ℕ) (fault : Option ReadFault) (notes : Notes) (e : Election) (number : ℕ) (held : List ℕ) → Agrees pick bytes fault notes e number held → IsTrue (feeding pick bytes fault)
unfolding Agrees
agrees_true pick bytes None notes e number held is = fed_true pick bytes notes e number held is
agrees_true pick bytes (Some fault) notes e number held is = is

-- a reader that has answered a fault
pub agrees_more : (pick : Pick) (bytes more : List ℕ) (fault : Option ReadFault) (notes next_notes : Notes) (e next : Election) (number next_number : ℕ) (held next_held : List ℕ) (known : ReadFault) → fault ≡ Some known
    → Agrees pick bytes fault notes e number held → Agrees pick (bytes ++ more) fault next_notes next next_number next_held
unfolding Agrees
agrees_more pick bytes more None notes next_notes e next number next_number held next_held known h is = absurd (cc)
agrees_more pick bytes more (Some fault) notes next_notes e next number next_number held next_held known h is = stays_true pick bytes more fault is

pub agrees_fed : (pick : Pick) (bytes : List ℕ) (fault : Option ReadFault) (notes : Notes) (e : Election) (number : ℕ) (held : List ℕ) → fault ≡ None → Agrees pick bytes fault notes e number held → IsFed pick bytes notes e number held
unfolding Agrees
agrees_fed pick bytes None notes e number held h is = is
agrees_fed pick bytes (Some fault) notes e number held h is = absurd (cc)

-- a reader without a fault, and one with a fault
pub agrees_none : (pick : Pick) (bytes : List ℕ) (notes : Notes) (e : Election) (number : ℕ) (held : List ℕ) → IsFed pick bytes notes e number held → Agrees pick bytes None notes e number held
unfolding Agrees
agrees_none pick bytes notes e number held is = is

pub none_is : (fault : Option ReadFault) → is_some fault ≡ false → fault ≡ None
none_is None h = refl
none_is (Some fault) h = absurd (cc)

-- every input that begins so, where a fault was answered
pub every_more : (pick : Pick) (bytes : List ℕ) (fault : Option ReadFault) (one : ReadFault) → fault ≡ Some one → IsTrue (feeding pick bytes fault)
    → (more : List ℕ) → Reads (bytes ++ more) pick (Err one) ⊎ LacksMemory (lines_of (bytes ++ more)) pick one
every_more pick bytes fault one is holds more = every_input pick bytes more one (subst (λ f. IsTrue (feeding pick bytes f)) is holds)

-- the same of what was fed and no more
pub every_fed : (pick : Pick) (bytes : List ℕ) (fault : Option ReadFault) (one : ReadFault) (notes : Notes) (e : Election) (number : ℕ) (held : List ℕ) → fault ≡ Some one → Agrees pick bytes fault notes e number held
    → Reads bytes pick (Err one) ⊎ LacksMemory (lines_of bytes) pick one
every_fed pick bytes fault one notes e number held is holds =
    subst (λ l. Reads l pick (Err one) ⊎ LacksMemory (lines_of l) pick one) (append-nil bytes) (every_more pick bytes fault one is (agrees_true pick bytes fault notes e number held holds) [])

-- ---- what bytes tell is one thing

pub told_once : (bytes : List ℕ) (pick : Pick) (a b : Option ReadFault) → Tells bytes pick a → Tells bytes pick b → a ≡ b
told_once bytes pick a b (read, is, from) (other, other_is, other_from) =
    from ∙ ap (λ (r : List ℕ → Option Cast). known_fault pick r bytes) (fun_ext (one_reading read other is other_is)) ∙ sym other_from

-- ---- a piece of no bytes

-- where nothing came, no fault comes
pub none_after : (pick : Pick) (bytes : List ℕ) (notes : Notes) (e : Election) (number : ℕ) (held : List ℕ) (after : Option ReadFault) → IsFed pick bytes notes e number held
    → IsTrue (feeding pick bytes after) → IfSome after (λ fault. IsLate (ended_lines bytes) fault) → after ≡ None
none_after pick bytes notes e number held None fed holds late = refl
none_after pick bytes notes e number held (Some fault) fed (inl told) late = by (fed_true pick bytes notes e number held fed)
  where
    by : IsTrue (feeding pick bytes None) → Some fault ≡ None
    by (inl none) = told_once bytes pick (Some fault) None told none
    by (inr (other, is, lacks)) = absurd (cc)
none_after pick bytes notes e number held (Some fault) fed (inr (other, same, (before, line, behind, is, fault_is, read, reads, none, growth))) late =
    let same_fault : fault ≡ at_line (length before + 1) Memory = ap (λ o. unwrap_or o fault) same ∙ fault_is in
    let past = subst (λ (f : ReadFault). IsLate (ended_lines bytes) f) same_fault late in
    let all = ap length is ∙ length-append before (line ∷ behind) in
    absurd (omega (arith, past, all))

pub nothing_new : (pick : Pick) (bytes : List ℕ) (fault next : Option ReadFault) (notes : Notes) (e : Election) (number : ℕ) (held : List ℕ) → Agrees pick bytes fault notes e number held
    → IsTrue (feeding pick bytes next) → IfSome fault (λ known. next ≡ Some known) → (fault ≡ None → IfSome next (λ known. IsLate (ended_lines bytes) known)) → next ≡ fault
unfolding Agrees
nothing_new pick bytes None next notes e number held is holds again late = none_after pick bytes notes e number held next is holds (late refl)
nothing_new pick bytes (Some known) next notes e number held is holds again late = again

-- ---- laws

pub told_some : (bytes : List ℕ) (pick : Pick) → (fault : Option ReadFault) × Tells bytes pick fault
told_some bytes pick = (known_fault pick ballot_of bytes, (ballot_of, ballot_of_reads, refl))

pub lines_all : (bytes : List ℕ) → lines_of bytes ≡ ended_lines bytes ++ map without_return (pieces_of (unfinished_line bytes))
lines_all bytes =
    let number = length (ended_lines bytes) in
    sym (ap lines_of (append-nil bytes)) ∙ lines_from bytes [] ∙ ap (λ l. ended_lines bytes ++ map without_return (pieces_of (unmarked number l))) (append-nil (unfinished bytes))
    ∙ ap (λ l. ended_lines bytes ++ map without_return (pieces_of l)) (sym (unfinished_line-is bytes))

pub lines_next : (bytes : List ℕ) → ended_lines (bytes ++ 10 ∷ []) ≡ ended_lines bytes ++ without_return (unfinished_line bytes) ∷ []
lines_next bytes =
    ended_lines_cut bytes [] [] refl ∙ ap (λ l. ended_lines bytes ++ line_with (length (ended_lines bytes)) (unfinished bytes ++ []) ∷ map without_return l) pieces_none
    ∙ ap (λ l. ended_lines bytes ++ without_return (unmarked (length (ended_lines bytes)) l) ∷ []) (append-nil (unfinished bytes))
    ∙ ap (λ l. ended_lines bytes ++ without_return l ∷ []) (sym (unfinished_line-is bytes))

-- no byte is LF
no_end_any : (bytes : List ℕ) → NoEnd bytes → list_any (λ b. b == 10) bytes ≡ false
no_end_any [] none = refl
no_end_any (b ∷ bytes) none = by (b == 10) none (no_end_any bytes)
  where
    by : (t : Bool) → (not t && list_all (λ b. not (b == 10)) bytes) ≡ true → (list_all (λ b. not (b == 10)) bytes ≡ true → list_any (λ b. b == 10) bytes ≡ false) → (t || list_any (λ b. b == 10) bytes) ≡ false
    by true h from = absurd (cc)
    by false h from = from h

pub one_line : (bytes : List ℕ) → list_any (λ b. b == 10) (unfinished_line bytes) ≡ false
one_line bytes = no_end_any (unfinished_line bytes) (no_end_unfinished (without_mark bytes))

pub fits : (line : List ℕ) → is_too_long line ≡ false → length (without_return line) ≤ most_line_bytes
fits line short = ltb-false most_line_bytes (length (without_return line)) short
