-- The reading of a whole input, from its first line to its end.
use Rattle.preflib_text.proofs.BallotFaults.{or_else-parts}
use Rattle.std.proofs.Common.{◌||◌, ◌≡◌, ◌⊎◌, inl, inr, ℕ, ◌+◌, ◌<◌, ◌≤◌, ◌==◌, Bool, true, false, cond, List, [], ◌∷◌, ◌++◌, refl, sym, ap, subst, ◌∙◌, arith, length, map, drop, append-nil, replicate, Option, Some, None, option_map, unwrap_or, Result, Ok, Err, MatchResult, IfOk, IfErr}
use Rattle.std.specs.Prelude.{nat_lt, nat_eq}
use Rattle.std.proofs.Math.Path.{fun_ext}
use Rattle.std.specs.List.{starts_with}
use Rattle.std.proofs.lemmas.List.{append_assoc, length_push, length-drop}
use Rattle.ballot_base.specs.Ballots.{Election, election}
use Rattle.ballot_base.specs.Limits.{most_candidates}
use Rattle.preflib_text.specs.Limits.{most_line_bytes}
use Rattle.preflib_text.specs.declared.pick.Pick.{Pick}
use Rattle.preflib_text.specs.declared.fault.FaultName.{FaultName}
use Rattle.preflib_text.specs.declared.fault.FaultName.TheVariants.{LongLine, NoAlternatives, Memory}
use Rattle.preflib_text.specs.declared.fault.ReadFault.{ReadFault}
use Rattle.preflib_text.specs.declared.notes.Notes.{Notes}
use Rattle.preflib_text.specs.Lines.{is_ballot_line, lines_of, pieces_of, without_return, without_mark, onto_first}
use Rattle.preflib_text.specs.Metadata.{told_of}
use Rattle.preflib_text.specs.Steps.Tokens.{ballot_of}
use Rattle.preflib_text.specs.Reading.{Cast, IsReading, outcome_in, Reads, RunsShort, or_else, fault_if, first_fault, first_faulty_line, FaultyLine, faulty_line, fault_of_line, is_growth, end_fault, takes_memory, line_fault, at_end, at_line, outcome_by, election_in}
use Rattle.preflib_text.specs.Pieces.{LacksMemory}
use Rattle.preflib_text.specs.Steps.Pieces.{IsReady, IsRead, IsLineRefused}
use Rattle.preflib_text.specs.Steps.Notes.{fresh_notes, told_error, told_effect, ballot_error, cast_effect, line_error, line_notes, line_effect, effect_error, end_error}
use Rattle.preflib_text.proofs.BallotLines.{ballot_of_reads, one_reading}
use Rattle.preflib_text.specs.Steps.After.{IsAfter, IsFine}
use Rattle.preflib_text.proofs.After.{IsAt, is_after-none, is_fine-none, is_fine-more, faulty_at, is_growth-is, line_error-is, after-line, end_error-is, election_in-is, none_faulty, fault_at_end, told_effect-fine}

-- ---- what an input holds

pub reads_fault : (bytes : List ℕ) (pick : Pick) (lines : List (List ℕ)) (fault : ReadFault) → lines_of bytes ≡ lines → first_fault pick ballot_of lines ≡ Some fault → Reads bytes pick (Err fault)
reads_fault bytes pick lines fault is first =
    (ballot_of, ballot_of_reads, sym (ap (λ l. outcome_by (election_in pick ballot_of l) (first_fault pick ballot_of l)) is ∙ ap (outcome_by (election_in pick ballot_of lines)) first))

pub reads_election : (bytes : List ℕ) (pick : Pick) (lines : List (List ℕ)) (e : Election) → lines_of bytes ≡ lines → first_fault pick ballot_of lines ≡ None → e ≡ election_in pick ballot_of lines → Reads bytes pick (Ok e)
reads_election bytes pick lines e is none same =
    (ballot_of, ballot_of_reads, ap Ok same ∙ sym (ap (λ l. outcome_by (election_in pick ballot_of l) (first_fault pick ballot_of l)) is ∙ ap (outcome_by (election_in pick ballot_of lines)) none))

runs_short : (bytes : List ℕ) (pick : Pick) (before : List (List ℕ)) (line : List ℕ) (after : List (List ℕ)) → lines_of bytes ≡ before ++ line ∷ after → IsFine pick (before ++ line ∷ []) → takes_memory pick ballot_of before line ≡ true
    → RunsShort bytes pick (at_line (length before + 1) Memory)
runs_short bytes pick before line after is fine takes =
    (before, line, after, is, refl, ballot_of, ballot_of_reads, none_faulty pick (before ++ line ∷ []) fine, takes)

pub reads_by : (pick : Pick) (read : List ℕ → Option Cast) → IsReading read → (bytes : List ℕ) (faulty : FaultyLine) (fault : ReadFault) → fault ≡ fault_of_line faulty → first_faulty_line pick read [] (lines_of bytes) ≡ Some faulty → Reads bytes pick (Err fault)
reads_by pick read reads bytes faulty fault is first =
    (read, reads, ap Err is ∙ sym (ap (λ o. outcome_by (election_in pick read (lines_of bytes)) (or_else (option_map fault_of_line o) (option_map at_end (end_fault (lines_of bytes))))) first))

pub lacks_short : (bytes : List ℕ) (pick : Pick) (fault : ReadFault) → LacksMemory (lines_of bytes) pick fault → RunsShort bytes pick fault
lacks_short bytes pick fault (before, line, after, is, fault_is, read, reads, none, growth) =
    (before, line, after, is, fault_is, read, reads, none, by (length before == 0))
  where
    by : (t : Bool) → (t || is_growth pick read before line) ≡ true
    by true = refl
    by false = growth

-- ---- the start

length-without_mark : (bytes : List ℕ) → length (without_mark bytes) ≤ length bytes
length-without_mark bytes = by (starts_with nat_eq bytes (239 ∷ 187 ∷ 191 ∷ []))
  where
    by : (t : Bool) → length (cond t (drop 3 bytes) bytes) ≤ length bytes
    by true = let rest = length-drop 3 bytes in omega (arith, rest)
    by false = omega arith

pub at_start : (pick : Pick) (bytes rest : List ℕ) (notes : Notes) (e : Election) → rest ≡ without_mark bytes → notes ≡ fresh_notes pick → e ≡ election most_candidates (replicate most_candidates []) [] → IsAt pick bytes rest notes e 0
at_start pick bytes rest notes e is fresh empty =
    let shorter = length-without_mark bytes in
    let same = ap length is in
    record {
      before = [];
      lines = ap (λ l. map without_return (pieces_of l)) (sym is);
      fine = is_fine-none pick;
      after = subst (λ n. IsAfter pick [] n e) (sym fresh) (subst (IsAfter pick [] (fresh_notes pick)) (sym empty) (is_after-none pick));
      count = refl;
      room = omega (arith, shorter, same);
    }

-- ---- a line

-- a line that was refused has the first fault, or lacks memory
abbrev pub IsRefusal : Pick → List (List ℕ) → List ℕ → List (List ℕ) → FaultName → Type 0
IsRefusal pick before line tail name = (first_faulty_line pick ballot_of [] (before ++ line ∷ tail) ≡ Some (faulty_line (length before + 1) name)) ⊎ LacksMemory (before ++ line ∷ tail) pick (at_line (length before + 1) name)

module _ (pick : Pick) (before : List (List ℕ)) (notes : Notes) (e : Election) (is : IsAfter pick before notes e) where
  pub ready : IsReady notes e
  ready = record {
    sound = is.told.sound;
    opened = λ none. ((is.opened none).0, (is.opened none).1);
    begun = λ some. let (m, number_is, profile, rows) = is.begun some in number_is ∙ ap (λ (f : Election). Some f.m) (sym profile);
  }

  pub read_fine : (line : List ℕ) (next_notes : Notes) (next : Election) → IsRead pick notes e line next_notes next → line_fault pick ballot_of before line ≡ None
  read_fine line next_notes next read = sym (line_error-is pick before line notes e is) ∙ ap (λ o. or_else o (effect_error e (line_effect pick notes line))) read.no_error ∙ read.no_effect

  pub read_after : (line : List ℕ) (next_notes : Notes) (next : Election) → IsRead pick notes e line next_notes next → IsAfter pick (before ++ line ∷ []) next_notes next
  read_after line next_notes next read =
      subst (λ n. IsAfter pick (before ++ line ∷ []) n next) (sym read.notes_are) (subst (IsAfter pick (before ++ line ∷ []) (line_notes pick notes line)) (sym read.next_is) (after-line pick before line notes e is read.no_error))

  pub refusal_is : (line : List ℕ) (tail : List (List ℕ)) (name : FaultName) → IsFine pick before → IsLineRefused pick notes e line name → IsRefusal pick before line tail name
  refusal_is line tail name fine (inl error) = inl (faulty_at pick before line tail name fine (sym (line_error-is pick before line notes e is) ∙ error))
  refusal_is line tail name fine (inr (memory, error, takes)) =
      let no_fault = sym (line_error-is pick before line notes e is) ∙ error in
      inr (
        before,
        line,
        tail,
        refl,
        ap (at_line (length before + 1)) memory,
        ballot_of,
        ballot_of_reads,
        none_faulty pick (before ++ line ∷ []) (is_fine-more pick before line fine no_fault),
        is_growth-is pick before line notes e is (or_else-parts _ _ error).0 takes,
      )

  pub outcome_refused : (bytes line : List ℕ) (tail : List (List ℕ)) (name : FaultName) (fault : ReadFault) → IsFine pick before → lines_of bytes ≡ before ++ line ∷ tail → fault ≡ at_line (length before + 1) name
      → IsLineRefused pick notes e line name → Reads bytes pick (Err fault) ⊎ LacksMemory (lines_of bytes) pick fault
  outcome_refused bytes line tail name fault fine lines placed refused = by (refusal_is line tail name fine refused)
    where
      by : IsRefusal pick before line tail name → Reads bytes pick (Err fault) ⊎ LacksMemory (lines_of bytes) pick fault
      by (inl first) = inl (reads_by pick ballot_of ballot_of_reads bytes (faulty_line (length before + 1) name) fault placed (ap (first_faulty_line pick ballot_of []) lines ∙ first))
      by (inr lacks) = inr (subst (λ l. LacksMemory l pick fault) (sym lines) (subst (LacksMemory (before ++ line ∷ tail) pick) (sym placed) lacks))

module _ (pick : Pick) (bytes rest line after : List ℕ) (notes : Notes) (e : Election) (number : ℕ) (at : IsAt pick bytes rest notes e number)
    (cut : (piece : List ℕ) × (pieces_of rest ≡ piece ∷ pieces_of after) × (line ≡ without_return piece)) where
  -- the lines, cut before this one
  lines_at : lines_of bytes ≡ at.before ++ line ∷ map without_return (pieces_of after)
  lines_at = at.lines ∙ ap (λ p. at.before ++ map without_return p) cut.1 ∙ ap (λ l. at.before ++ l ∷ map without_return (pieces_of after)) (sym cut.2)

  pub at_next : (next_notes : Notes) (next : Election) → length after < length rest → IsRead pick notes e line next_notes next → IsAt pick bytes after next_notes next (number + 1)
  at_next next_notes next shorter read =
      let room = at.room in
      record {
        before = at.before ++ line ∷ [];
        lines = lines_at ∙ sym (append_assoc at.before (line ∷ []) (map without_return (pieces_of after)));
        fine = is_fine-more pick at.before line at.fine (read_fine pick at.before notes e at.after line next_notes next read);
        after = read_after pick at.before notes e at.after line next_notes next read;
        count = ap (λ n. n + 1) at.count ∙ sym (length_push at.before line);
        room = omega (arith, room, shorter);
      }

  pub at_fault : (name : FaultName) → IsLineRefused pick notes e line name → (fault : ReadFault) → fault ≡ at_line (number + 1) name → Reads bytes pick (Err fault) ⊎ RunsShort bytes pick fault
  at_fault name refused fault placed =
      by (outcome_refused pick at.before notes e at.after bytes line (map without_return (pieces_of after)) name fault at.fine lines_at (placed ∙ ap (λ n. at_line (n + 1) name) at.count) refused)
    where
      by : Reads bytes pick (Err fault) ⊎ LacksMemory (lines_of bytes) pick fault → Reads bytes pick (Err fault) ⊎ RunsShort bytes pick fault
      by (inl reads) = inl reads
      by (inr lacks) = inr (lacks_short bytes pick fault lacks)

-- ---- the end

no_pieces : (rest : List ℕ) → (length rest == 0) ≡ true → pieces_of rest ≡ []
unfolding pieces_of
no_pieces [] h = refl
no_pieces (b ∷ rest) h = absurd (grind arith)

pub at_last : (pick : Pick) (bytes rest : List ℕ) (notes : Notes) (e : Election) (number : ℕ) → IsAt pick bytes rest notes e number → (length rest == 0) ≡ true → IsFine pick (lines_of bytes) × IsAfter pick (lines_of bytes) notes e
at_last pick bytes rest notes e number at none_left =
    let lines = at.lines ∙ ap (λ l. at.before ++ map without_return l) (no_pieces rest none_left) ∙ append-nil at.before in
    (subst (IsFine pick) (sym lines) at.fine, subst (λ l. IsAfter pick l notes e) (sym lines) at.after)

module _ (pick : Pick) (bytes : List ℕ) (notes : Notes) (e : Election) (fine : IsFine pick (lines_of bytes)) (after : IsAfter pick (lines_of bytes) notes e) where
  first_is : first_fault pick ballot_of (lines_of bytes) ≡ option_map at_end (end_error notes e)
  first_is = fault_at_end pick (lines_of bytes) fine ∙ ap (option_map at_end) (sym (end_error-is pick (lines_of bytes) notes e after))

  pub finished-ok : (profile : Election) → end_error notes e ≡ None → profile ≡ e → Reads bytes pick (Ok profile)
  finished-ok profile none same = reads_election bytes pick (lines_of bytes) profile refl (first_is ∙ ap (option_map at_end) none) (same ∙ election_in-is pick (lines_of bytes) notes e after none)

  pub finished-fault : (fault : ReadFault) → end_error notes e ≡ Some fault.name → fault.line ≡ None → Reads bytes pick (Err fault)
  finished-fault fault error line =
      let same : at_end fault.name ≡ fault = ap (λ l. record { name = fault.name; line = l }) (sym line) in
      reads_fault bytes pick (lines_of bytes) fault refl (first_is ∙ ap (option_map at_end) error ∙ ap Some same)

-- ---- no memory for any profile

no_effect-fresh : (pick : Pick) (line : List ℕ) (e : Election) → line_error pick (fresh_notes pick) line ≡ None → effect_error e (line_effect pick (fresh_notes pick) line) ≡ None
no_effect-fresh pick line e fine = by (is_ballot_line line) (or_else-parts (fault_if (nat_lt most_line_bytes (length line)) LongLine) _ fine).1
  where
    by : (t : Bool) → cond t (ballot_error pick (fresh_notes pick) (ballot_of line)) (told_error (fresh_notes pick) (told_of line)) ≡ None → effect_error e (cond t (cast_effect pick (fresh_notes pick) (ballot_of line)) (told_effect (fresh_notes pick) (told_of line))) ≡ None
    by true h = absurd (cc)
    by false h = told_effect-fine e (fresh_notes pick) (told_of line)

some_line : (b : ℕ) (bytes : List ℕ) → (piece : List ℕ) × (pieces : List (List ℕ)) × (pieces_of (b ∷ bytes) ≡ piece ∷ pieces)
unfolding pieces_of
some_line b bytes = by (b == 10) (pieces_of bytes)
  where
    by : (t : Bool) (pieces : List (List ℕ)) → (piece : List ℕ) × (more : List (List ℕ)) × (cond t ([] ∷ pieces) (onto_first b pieces) ≡ piece ∷ more)
    by true pieces = ([], pieces, refl)
    by false [] = (b ∷ [], [], refl)
    by false (piece ∷ pieces) = (b ∷ piece, pieces, refl)

pub without_memory : (pick : Pick) (bytes rest : List ℕ) (fault : ReadFault) → rest ≡ without_mark bytes → (rest ≡ [] → fault ≡ at_end NoAlternatives)
    → ((line : List ℕ) (lines : List (List ℕ)) → map without_return (pieces_of rest) ≡ line ∷ lines → fault ≡ at_line 1 (unwrap_or (line_error pick (fresh_notes pick) line) Memory))
    → Reads bytes pick (Err fault) ⊎ RunsShort bytes pick fault
without_memory pick bytes [] fault is none some =
    let lines : lines_of bytes ≡ [] = ap (λ l. map without_return (pieces_of l)) (sym is) ∙ ap (map without_return) (no_pieces [] refl) in
    inl (reads_fault bytes pick [] fault lines (ap Some (sym (none refl))))
without_memory pick bytes (b ∷ rest) fault is none some = by (some_line b rest)
  where
    start : IsAfter pick [] (fresh_notes pick) (election most_candidates (replicate most_candidates []) [])
    start = is_after-none pick

    of_error : (line : List ℕ) (lines : List (List ℕ)) → lines_of bytes ≡ line ∷ lines → (error : Option FaultName) → line_error pick (fresh_notes pick) line ≡ error → fault ≡ at_line 1 (unwrap_or error Memory) → Reads bytes pick (Err fault) ⊎ RunsShort bytes pick fault
    of_error line lines cut (Some name) error same =
        let has : line_fault pick ballot_of [] line ≡ Some name = sym (line_error-is pick [] line (fresh_notes pick) (election most_candidates (replicate most_candidates []) []) start) ∙ ap (λ o. or_else o (effect_error (election most_candidates (replicate most_candidates []) []) (line_effect pick (fresh_notes pick) line))) error in
        inl (reads_by pick ballot_of ballot_of_reads bytes (faulty_line 1 name) fault same (ap (first_faulty_line pick ballot_of []) cut ∙ faulty_at pick [] line lines name (is_fine-none pick) has))
    of_error line lines cut None error same =
        let none_here : line_fault pick ballot_of [] line ≡ None = sym (line_error-is pick [] line (fresh_notes pick) (election most_candidates (replicate most_candidates []) []) start)
        ∙ ap (λ o. or_else o (effect_error (election most_candidates (replicate most_candidates []) []) (line_effect pick (fresh_notes pick) line))) error ∙ no_effect-fresh pick line (election most_candidates (replicate most_candidates []) []) error in
        inr (subst (RunsShort bytes pick) (sym same) (runs_short bytes pick [] line lines cut (is_fine-more pick [] line (is_fine-none pick) none_here) refl))

    by : ((piece : List ℕ) × (pieces : List (List ℕ)) × (pieces_of (b ∷ rest) ≡ piece ∷ pieces)) → Reads bytes pick (Err fault) ⊎ RunsShort bytes pick fault
    by (piece, pieces, cut) =
        let lines_are : map without_return (pieces_of (b ∷ rest)) ≡ without_return piece ∷ map without_return pieces = ap (map without_return) cut in
        let lines : lines_of bytes ≡ without_return piece ∷ map without_return pieces = ap (λ l. map without_return (pieces_of l)) (sym is) ∙ lines_are in
        of_error (without_return piece) (map without_return pieces) lines (line_error pick (fresh_notes pick) (without_return piece)) refl (some (without_return piece) (map without_return pieces) lines_are)

-- ---- the outcome of a call

pub if_ok : {T E : Type 0} (r : Result T E) (P R : T → Type 0) (Q : E → Type 0) → MatchResult r P Q → ((x : T) → P x → R x) → IfOk r R
if_ok (Ok x) P R Q is from = from x is
if_ok (Err e) P R Q is from = tt

pub if_err : {T E : Type 0} (r : Result T E) (P : T → Type 0) (Q R : E → Type 0) → MatchResult r P Q → ((e : E) → Q e → R e) → IfErr r R
if_err (Ok x) P Q R is from = tt
if_err (Err e) P Q R is from = from e is

-- ---- one outcome

pub outcome_is_one : (bytes : List ℕ) (pick : Pick) (a b : Result Election ReadFault) → Reads bytes pick a → Reads bytes pick b → a ≡ b
outcome_is_one bytes pick a b (read, is, from) (other, other_is, other_from) =
    from ∙ ap (λ (r : List ℕ → Option Cast). outcome_in pick r (lines_of bytes)) (fun_ext (one_reading read other is other_is)) ∙ sym other_from

pub some_outcome_is : (bytes : List ℕ) (pick : Pick) → (outcome : Result Election ReadFault) × Reads bytes pick outcome
some_outcome_is bytes pick = (outcome_in pick ballot_of (lines_of bytes), (ballot_of, ballot_of_reads, refl))
