-- Tables of those who are near candidates.
use Rattle.std.proofs.lemmas.Grind.{common_steps}
use Rattle.std.proofs.Common.{◌≡◌, ℕ, zero, suc, ◌+◌, ◌<◌, ◌≤◌, ◌∙◌, Bool, true, false, cond, not, List, [], ◌∷◌, refl, sym, ap, subst, arith, inl, inr, length, get_or, set}
use Rattle.std.specs.Prelude.{nat_lt, fold, replicate}
use Rattle.std.proofs.lemmas.Bool.{cases_eq, and_parts, not-true, lt-ltb, le-ltb}
use Rattle.ballot_base.specs.CandSet.{has_member, with_member, either_members, other_members}
use Rattle.ballot_base.specs.Lists.{IsIncreasing}
use Rattle.ballot_base.proofs.Increasing.{has_member_head, has_member_tail, has_member-below, has_member-filter}
use Rattle.sequential_winners.specs.Steps.Near.{near_of, first_least, AreFar}
use Rattle.sequential_winners.proofs.PhaseLemmas.{member-with}

-- ---- a table, and groups that join it

abbrev nobody : List ℕ
nobody = []

pub none-near : (k n : ℕ) (x : List ℕ) → x ≡ nobody → get_or (replicate k x) n nobody ≡ nobody
none-near zero n x is = refl
none-near (suc k) zero x is = is
none-near (suc k) (suc n) x is = none-near k n x is

-- what a candidate has after members joined the group
abbrev pub part : List ℕ → List ℕ → List ℕ → ℕ → List ℕ
part group members old c = cond (has_member members c) (either_members old group) old

part-first : (group : List ℕ) (k : ℕ) (old rest : List ℕ) → part group (k ∷ rest) old k ≡ either_members old group
part-first group k old rest = ap (λ b. cond b (either_members old group) old) (has_member_head k rest)

part-rest : (group : List ℕ) (k last : ℕ) (old rest : List ℕ) → IsIncreasing (k + 1) last rest → part group rest old k ≡ old
part-rest group k last old rest up = ap (λ b. cond b (either_members old group) old) (has_member-below (k + 1) last rest k up (omega arith))

part-other : (group : List ℕ) (k c : ℕ) (old rest : List ℕ) → (k ≡ c → ⊥) → part group (k ∷ rest) old c ≡ part group rest old c
part-other group k c old rest other = ap (λ b. cond b (either_members old group) old) (has_member_tail k c rest other)

pub get-any : {X : Type 0} (xs : List X) (i : ℕ) (x y : X) → i < length xs → get_or xs i x ≡ get_or xs i y
get-any [] i x y inside = absurd (omega (arith, inside))
get-any (z ∷ xs) zero x y inside = refl
get-any (z ∷ xs) (suc i) x y inside = get-any xs i x y (omega (arith, inside))

pub joined-more : (table begun : List (List ℕ)) (left rest group : List ℕ) (k last : ℕ) → left ≡ k ∷ rest → IsIncreasing 1 last left → k < length table
    → ((c : ℕ) → part group left (get_or table c []) c ≡ part group group (get_or begun c []) c)
    → (c : ℕ) → part group rest (get_or (set table k (either_members (get_or table k []) group)) c []) c ≡ part group group (get_or begun c []) c
joined-more table begun left rest group k last parts up inside made c = grind (arith, common_steps, part, cases_eq, part-rest, part-first, part-other)

pub joined-all : (table begun : List (List ℕ)) (left group : List ℕ) → left ≡ [] → ((c : ℕ) → part group left (get_or table c []) c ≡ part group group (get_or begun c []) c) → (c : ℕ) → get_or table c [] ≡ part group group (get_or begun c []) c
joined-all table begun left group none made c = ap (λ l. part group l (get_or table c []) c) (sym none) ∙ made c

-- ---- candidates who are not near one another

pub others-out : (rest near : List ℕ) (n : ℕ) → has_member (other_members rest near) n ≡ true → (has_member rest n ≡ true) × (has_member near n ≡ false)
others-out rest near n inside =
    let parts = and_parts (not (has_member near n)) (has_member rest n) (sym (has_member-filter (λ x. not (has_member near x)) rest n) ∙ inside) in
    (parts.1, not-true (has_member near n) parts.0)

pub far-more : (table : List (List ℕ)) (set : List ℕ) (next : ℕ) → AreFar table set → ((t : ℕ) → has_member set t ≡ true → has_member (near_of table t) next ≡ false) → AreFar table (with_member set next)
far-more table set next are none c d inside inside' other = elim (member-with set next c inside) [
  | inl same ↦ elim (member-with set next d inside') [
    | inl also ↦ absurd (other (sym same ∙ also))
    | inr old ↦ inr (subst (λ x. has_member (near_of table d) x ≡ false) same (none d old))
  ]
  | inr old ↦ elim (member-with set next d inside') [
    | inl also ↦ inl (subst (λ x. has_member (near_of table c) x ≡ false) also (none c old))
    | inr old' ↦ are c d old old' other
  ]
]

-- ---- the first of the least

abbrev pub lesser : (ℕ → ℕ) → ℕ → ℕ → ℕ
lesser number best c = cond (nat_lt (number c) (number best)) c best

pub lesser-member : (number : ℕ → ℕ) (set : List ℕ) (best c : ℕ) → has_member set best ≡ true → has_member set c ≡ true → has_member set (lesser number best c) ≡ true
lesser-member number set best c here there = by (nat_lt (number c) (number best))
  where
    by : (b : Bool) → has_member set (cond b c best) ≡ true
    by true = there
    by false = here

fold-member : (number : ℕ → ℕ) (set rest : List ℕ) (best : ℕ) → has_member set best ≡ true → ((n : ℕ) → has_member rest n ≡ true → has_member set n ≡ true) → has_member set (fold (lesser number) best rest) ≡ true
fold-member number set [] best here among = here
fold-member number set (c ∷ rest) best here among =
    fold-member number set rest (lesser number best c) (lesser-member number set best c here (among c (has_member_head c rest))) (λ n inside. among n (later n inside))
  where
    later : (n : ℕ) → has_member rest n ≡ true → has_member (c ∷ rest) n ≡ true
    later n inside = elim (cases_eq c n) [ inl same ↦ subst (λ x. has_member (c ∷ rest) x ≡ true) same (has_member_head c rest) | inr other ↦ has_member_tail c n rest other ∙ inside ]

pub least-member : (number : ℕ → ℕ) (set : List ℕ) (d : ℕ) → has_member set d ≡ true → has_member set (first_least number set) ≡ true
least-member number [] d inside = absurd (let f : false ≡ true = inside in cc)
least-member number (x ∷ rest) d inside = fold-member number (x ∷ rest) (x ∷ rest) x (has_member_head x rest) (λ n here. here)

-- a step of the loop that looks for it
pub least-step : (number : ℕ → ℕ) (best new c : ℕ) (left rest : List ℕ) (all : ℕ) → left ≡ c ∷ rest → lesser number best c ≡ new → fold (lesser number) best left ≡ all → fold (lesser number) new rest ≡ all
least-step number best new c left rest all parts is folded =
    ap (λ b. fold (lesser number) b rest) (sym is) ∙ ap (fold (lesser number) best) (sym parts) ∙ folded

pub lesser-new : (number : ℕ → ℕ) (best c : ℕ) → number c < number best → lesser number best c ≡ c
lesser-new number best c less = ap (λ b. cond b c best) (lt-ltb (number c) (number best) less)

pub lesser-old : (number : ℕ → ℕ) (best c : ℕ) → number best ≤ number c → lesser number best c ≡ best
lesser-old number best c most = ap (λ b. cond b c best) (le-ltb (number c) (number best) most)

same-fold : (f g : ℕ → ℕ) (set rest : List ℕ) (best : ℕ) → ((n : ℕ) → has_member set n ≡ true → f n ≡ g n) → has_member set best ≡ true → ((n : ℕ) → has_member rest n ≡ true → has_member set n ≡ true) → fold (lesser f) best rest ≡ fold (lesser g) best rest
same-fold f g set [] best same here among = refl
same-fold f g set (c ∷ rest) best same here among =
    let there = among c (has_member_head c rest) in
    let one : lesser f best c ≡ lesser g best c = ap (λ n. cond (nat_lt n (f best)) c best) (same c there) ∙ ap (λ n. cond (nat_lt (g c) n) c best) (same best here) in
    same-fold f g set rest (lesser f best c) same (lesser-member f set best c here there) (λ n inside. among n (later n inside)) ∙ ap (λ b. fold (lesser g) b rest) one
  where
    later : (n : ℕ) → has_member rest n ≡ true → has_member (c ∷ rest) n ≡ true
    later n inside = elim (cases_eq c n) [ inl same' ↦ subst (λ x. has_member (c ∷ rest) x ≡ true) same' (has_member_head c rest) | inr other ↦ has_member_tail c n rest other ∙ inside ]

-- it depends on the numbers of these candidates alone
pub same-least : (f g : ℕ → ℕ) (set : List ℕ) → ((n : ℕ) → has_member set n ≡ true → f n ≡ g n) → first_least f set ≡ first_least g set
same-least f g [] same = refl
same-least f g (x ∷ rest) same = same-fold f g (x ∷ rest) (x ∷ rest) x same (has_member_head x rest) (λ n here. here)
