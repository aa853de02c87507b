-- Each definition on pieces, computed on a small example.
use Rattle.std.proofs.Common.{◌≡◌, ℕ, List, [], ◌∷◌, ◌++◌, true, false, Some, None, refl, ap, inl, arith, length}
use Rattle.std.specs.Prelude.{codes, nat_lt}
use Rattle.preflib_text.specs.declared.pick.Kind.TheVariants.{Soi}
use Rattle.preflib_text.specs.declared.pick.Way.TheVariants.{Usual}
use Rattle.preflib_text.specs.declared.pick.Pick.{Pick}
use Rattle.preflib_text.specs.declared.fault.FaultName.TheVariants.{NoSuchCandidate, NoAlternatives, Memory}
use Rattle.preflib_text.specs.Lines.{pieces_of, without_return, trim_start}
use Rattle.preflib_text.specs.Metadata.{words_of}
use Rattle.preflib_text.specs.Reading.{at_end, at_line, is_growth}
use Rattle.preflib_text.specs.Pieces.{unfinished, ended, ended_lines, unfinished_line, is_too_long, known_fault, Tells, LacksMemory, IsLate, feeding, IsTrue}
use Rattle.preflib_text.specs.Steps.Tokens.{ballot_of, tokens_after, order_at}
use Rattle.preflib_text.specs.Steps.Pieces.{line_room, unmarked, line_with}
use Rattle.preflib_text.proofs.BallotLines.{ballot_of_reads}

-- ---- lines that have ended

begun : unfinished (codes "ab" ++ 10 ∷ codes "cd") ≡ codes "cd"
begun = refl

none_begun : unfinished (codes "ab" ++ 10 ∷ []) ≡ []
none_begun = refl

up_to_the_end : ended (codes "ab" ++ 10 ∷ codes "cd") ≡ codes "ab" ++ 10 ∷ []
up_to_the_end = refl

one_line : ended_lines (239 ∷ 187 ∷ 191 ∷ codes "a" ++ 13 ∷ 10 ∷ codes "b") ≡ codes "a" ∷ []
unfolding pieces_of without_return
one_line = refl

after_a_mark : unfinished_line (239 ∷ 187 ∷ 191 ∷ codes "a") ≡ codes "a"
after_a_mark = refl

half_a_mark : unfinished_line (239 ∷ 187 ∷ []) ≡ 239 ∷ 187 ∷ []
half_a_mark = refl

short : is_too_long (codes "a" ++ 13 ∷ []) ≡ false
unfolding without_return
short = refl

long : (line : List ℕ) → length (without_return line) ≡ 1048577 → is_too_long line ≡ true
long line is = ap (nat_lt 1048576) is

longest : (line : List ℕ) → length (without_return line) ≡ 1048576 → is_too_long line ≡ false
longest line is = ap (nat_lt 1048576) is

-- ---- what bytes tell

list_pick : Pick
list_pick = record { kind = Some Soi; ending = None; way = Usual }

-- the second line has a fault, and may not have ended
whole : List ℕ
whole = codes "# NUMBER ALTERNATIVES: 2" ++ 10 ∷ codes "1: 3" ++ 10 ∷ codes "1"

cut : List ℕ
cut = codes "# NUMBER ALTERNATIVES: 2" ++ 10 ∷ codes "1: 3"

fault_known : known_fault list_pick ballot_of whole ≡ Some (at_line 2 NoSuchCandidate)
unfolding whole list_pick pieces_of without_return trim_start words_of tokens_after order_at
fault_known = refl

fault_not_known : known_fault list_pick ballot_of cut ≡ None
unfolding cut list_pick pieces_of without_return trim_start words_of tokens_after order_at
fault_not_known = refl

told : Tells whole list_pick (Some (at_line 2 NoSuchCandidate))
unfolding whole list_pick pieces_of without_return trim_start words_of tokens_after order_at
told = (ballot_of, ballot_of_reads, refl)

true_so_far : IsTrue (feeding list_pick cut None)
unfolding cut list_pick pieces_of without_return trim_start words_of tokens_after order_at
true_so_far = inl (ballot_of, ballot_of_reads, refl)

growth : is_growth list_pick ballot_of (codes "#" ∷ []) (codes "# ALTERNATIVE NAME 2: B") ≡ true
unfolding list_pick trim_start words_of
growth = refl

no_growth : is_growth list_pick ballot_of [] (codes "# X: y") ≡ false
unfolding list_pick trim_start words_of
no_growth = refl

no_growth_by_an_empty_name : is_growth list_pick ballot_of (codes "# ALTERNATIVE NAME 2: B" ∷ []) (codes "# ALTERNATIVE NAME 2:") ≡ false
unfolding list_pick trim_start words_of
no_growth_by_an_empty_name = refl

lacks_memory : LacksMemory (codes "#" ∷ codes "# ALTERNATIVE NAME 2: B" ∷ []) list_pick (at_line 2 Memory)
unfolding list_pick trim_start words_of
lacks_memory = (codes "#" ∷ [], codes "# ALTERNATIVE NAME 2: B", [], refl, refl, ballot_of, ballot_of_reads, refl, refl)

late : IsLate (codes "#" ∷ []) (at_line 2 Memory)
late = omega arith

early : IsLate (codes "#" ∷ codes "#" ∷ []) (at_line 2 Memory) → ⊥
early h = absurd (omega (arith, h))

late_end : IsLate (codes "#" ∷ []) (at_end NoAlternatives)
late_end = tt

-- ---- what is kept

room : line_room ≡ 1048580
room = refl

first_line : line_with 0 (239 ∷ 187 ∷ 191 ∷ codes "a" ++ 13 ∷ []) ≡ codes "a"
unfolding without_return
first_line = refl

later_mark : unmarked 1 (239 ∷ 187 ∷ 191 ∷ []) ≡ 239 ∷ 187 ∷ 191 ∷ []
later_mark = refl
