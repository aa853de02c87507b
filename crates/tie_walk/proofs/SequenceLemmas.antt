-- The last level has the sequential winners.
use Rattle.std.proofs.lemmas.Grind.{common_steps}
use Rattle.std.proofs.Common.{◌≡◌, ℕ, zero, suc, ◌+◌, ◌-◌, ◌≤◌, ◌==◌, ◌&&◌, ◌||◌, Bool, true, false, not, cond, List, [], ◌∷◌, refl, sym, ap, ◌∙◌, subst, arith, inl, inr, ◌⊎◌, filter, length, Contains, Ordering}
use Rattle.std.specs.Prelude.{fold}
use Rattle.std.specs.List.{list_any, range_with_len, AllByRecursion}
use Rattle.std.specs.List.Sorted.{IsStrictlySortedBy}
use Rattle.std.specs.Cmp.{IsTotalOrder}
use Rattle.std.specs.Cmp.Lexicographic.{slice_cmp}
use Rattle.std.specs.Ordering.{nat_cmp, ordering_reverse}
use Rattle.std.specs.declared.cmp.Ordering.TheVariants.{Less, Equal, Greater}
use Rattle.std.proofs.lemmas.Bool.{cases_Bool, cases_eq, ne_eqb, not-true}
use Rattle.std.proofs.lemmas.Cmp.{nat_list_cmp_total, tied_itself}
use Rattle.std.proofs.lemmas.List.Elements.{All-from_recursion, All-contains}
use Rattle.std.proofs.lemmas.List.Kept.{IsStrictlySortedBy-filter}
use Rattle.std.proofs.lemmas.List.FromFn.{length-range_with_len}
use Rattle.ballot_base.specs.Lists.{IsIncreasing, increasing_lists}
use Rattle.ballot_base.specs.CandSet.{has_member, with_member, without_member}
use Rattle.ballot_base.specs.Ballots.{Row, Election}
use Rattle.ballot_base.proofs.Committees.{increasing_lists-contains, increasing_lists-order}
use Rattle.ballot_base.proofs.FirstMember.{without_member_head}
use Rattle.ballot_base.proofs.Increasing.{IsIncreasing-filter, has_member-filter, has_member_tail, length-with_member, same_increasing}
use Rattle.ballot_base.proofs.Later.{sorted_from_later}
use Rattle.ballot_base.proofs.ListLemmas.{Contains-later}
use Rattle.tie_walk.specs.Sequences.{hit_weights, sequential_winners, has_greatest_gain, is_grown, is_shrunk, is_grown_set, is_left_set}
use Rattle.tie_walk.specs.Steps.Choices.{step_of, choices_of, may_choose, change, open_candidates, is_choice, start, follows, IsReached, IsLevel}
use Rattle.tie_walk.specs.declared.sequential.SeqRule.{SeqRule}
use Rattle.tie_walk.specs.declared.sequential.SeqRule.TheVariants.{SeqPav, SeqCc, RevSeqPav}
use Rattle.tie_walk.specs.declared.sequential.Step.{Step}
use Rattle.tie_walk.specs.declared.sequential.Step.TheVariants.{Grow, Shrink}
use Rattle.tie_walk.proofs.Choices.{reached_start, reached_last, is_made, reached_from_made, made_from_reached}
use Rattle.tie_walk.proofs.LawLemmas.{passes-from_filter, Contains-filter, IsIncreasing-range}
use Rattle.tie_walk.proofs.LevelLemmas.{in_bounds, choice-parts, followed-candidates, reached-increasing}
use Rattle.tie_walk.proofs.StepLemmas.{has_member-range}

-- ---- the size of a reached set

pub length-without_member : (first last : ℕ) (set : List ℕ) (n : ℕ) → IsIncreasing first last set → has_member set n ≡ true → length (without_member set n) + 1 ≡ length set
length-without_member first last [] n up inside = let e : false ≡ true = inside in cc
length-without_member first last (x ∷ xs) n up inside = elim (cases_eq x n) [
  | inl same ↦ omega (arith, ap length (subst (λ k. without_member (x ∷ xs) k ≡ xs) same (without_member_head x last xs up.2)))
  | inr other ↦
      let rest : has_member xs n ≡ true = sym (has_member_tail x n xs other) ∙ inside in
      let kept : without_member (x ∷ xs) n ≡ x ∷ without_member xs n = ap (λ b. cond (not b) (x ∷ without_member xs n) (without_member xs n)) (ne_eqb x n other) in
      omega (arith, ap length kept, length-without_member (x + 1) last xs n up.2 rest)
]

abbrev pub IsSized : Step → ℕ → ℕ → List ℕ → Type 0
IsSized Grow m size set = length set ≡ size
IsSized Shrink m size set = length set + size ≡ m

sized-start : (step : Step) (m : ℕ) → IsSized step m 0 (start step m)
sized-start Grow m = refl
sized-start Shrink m = omega (arith, length-range_with_len 1 m)

sized-change : (step : Step) (m size : ℕ) (set : List ℕ) (c : ℕ) → IsIncreasing 1 m set → may_choose step set c ≡ true → IsSized step m size set → IsSized step m (suc size) (change step set c)
sized-change Grow m size set c up open' sized = omega (arith, length-with_member set c (not-true (has_member set c) open'), sized)
sized-change Shrink m size set c up open' sized = omega (arith, length-without_member 1 m set c up open', sized)

pub reached-sized : (step : Step) (weights : List ℕ) (m : ℕ) (rows : List Row) (size : ℕ) (set : List ℕ) → IsReached (is_choice step weights m rows) (change step) (start step m) size set → IsSized step m size set
reached-sized step weights m rows zero set r = subst (λ s. IsSized step m 0 s) (sym (reached_start (is_choice step weights m rows) (change step) (start step m) set r)) (sized-start step m)
reached-sized step weights m rows (suc size) set r =
    let last = reached_last (is_choice step weights m rows) (change step) (start step m) size set (subst (λ n. IsReached (is_choice step weights m rows) (change step) (start step m) n set) (omega arith) r) in
    subst (λ s. IsSized step m (suc size) s) last.is
    (sized-change step m size last.old last.choice (reached-increasing step weights m rows size last.old last.reached) (choice-parts step weights m rows last.old last.choice last.allowed).1
    (reached-sized step weights m rows size last.old last.reached))

-- ---- two sorted lists with the same elements

Contains-cons : {X : Type 0} (y : X) (ys : List X) (x : X) → Contains (y ∷ ys) x → (y ≡ x) ⊎ Contains ys x
Contains-cons y ys x (zero, inside, is) = inl is
Contains-cons y ys x (suc i, inside, is) = inr (i, omega (arith, inside), is)

less_twice : {K : Type 0} {R : K → K → Ordering} (o : IsTotalOrder R) (x y : K) → R x y ≡ Less → R y x ≡ Less → ⊥
less_twice {K} {R} o x y xy yx = let e : Less ≡ Greater = sym xy ∙ o.antisymm x y ∙ ap ordering_reverse yx in cc

less_itself : {K : Type 0} {R : K → K → Ordering} (o : IsTotalOrder R) (x : K) → R x x ≡ Less → ⊥
less_itself {K} {R} o x less = let e : Less ≡ Equal = sym less ∙ tied_itself o x in cc

at-later : {K : Type 0} (R : K → K → Ordering) (x : K) (xs : List K) (y : K) → AllByRecursion (λ z. R x z ≡ Less) xs → Contains xs y → R x y ≡ Less
at-later R x xs y all c = All-contains (λ z. R x z ≡ Less) xs y (All-from_recursion (λ z. R x z ≡ Less) xs all) c

pub same_sorted : {K : Type 0} {R : K → K → Ordering} (o : IsTotalOrder R) (xs ys : List K) → IsStrictlySortedBy R xs → IsStrictlySortedBy R ys
    → ((z : K) → Contains xs z → Contains ys z) → ((z : K) → Contains ys z → Contains xs z) → xs ≡ ys
unfolding IsStrictlySortedBy
same_sorted {K} {R} o [] [] up up' to from = refl
same_sorted {K} {R} o [] (y ∷ ys) up up' to from = absurd (omega (arith, (from y (0, omega arith, refl)).1))
same_sorted {K} {R} o (x ∷ xs) [] up up' to from = absurd (omega (arith, (to x (0, omega arith, refl)).1))
same_sorted {K} {R} o (x ∷ xs) (y ∷ ys) up up' to from =
    let first : x ≡ y = elim (Contains-cons y ys x (to x (0, omega arith, refl))) [
      | inl same ↦ sym same
      | inr later ↦ elim (Contains-cons x xs y (from y (0, omega arith, refl))) [
        | inl same ↦ same
        | inr later' ↦ absurd (less_twice o x y (at-later R x xs y up.0 later') (at-later R y ys x up'.0 later))
      ]
    ] in
    let to' : (z : K) → Contains xs z → Contains ys z = λ z c. elim (Contains-cons y ys z (to z (Contains-later x z xs c))) [
      | inl same ↦ absurd (less_itself o x (at-later R x xs x up.0 (subst (λ w. Contains xs w) (sym (first ∙ same)) c)))
      | inr later ↦ later
    ] in
    let from' : (z : K) → Contains ys z → Contains xs z = λ z c. elim (Contains-cons x xs z (from z (Contains-later y z ys c))) [
      | inl same ↦ absurd (less_itself o y (at-later R y ys y up'.0 (subst (λ w. Contains ys w) (sym (sym first ∙ same)) c)))
      | inr later ↦ later
    ] in
    ap (λ w. w ∷ xs) first ∙ ap (λ l. y ∷ l) (same_sorted o xs ys up.1 up'.1 to' from')

-- ---- the rules' own sequences

pub fold-grow : (set list : List ℕ) → fold (change Grow) set list ≡ fold with_member set list
fold-grow set [] = refl
fold-grow set (c ∷ list) = fold-grow (with_member set c) list

pub fold-shrink : (set list : List ℕ) → fold (change Shrink) set list ≡ fold without_member set list
fold-shrink set [] = refl
fold-shrink set (c ∷ list) = fold-shrink (without_member set c) list

pub grown-follows : (weights : List ℕ) (m : ℕ) (rows : List Row) (set list : List ℕ) → is_grown weights m rows set list ≡ follows (is_choice Grow weights m rows) (change Grow) set list
grown-follows weights m rows set [] = refl
grown-follows weights m rows set (c ∷ list) = ap (λ b. has_greatest_gain weights m rows set c && b) (grown-follows weights m rows (with_member set c) list)

-- of the candidates 1 to m, the members of a set are the set
open-left : (m : ℕ) (set : List ℕ) → IsIncreasing 1 m set → open_candidates Shrink m set ≡ set
open-left m set up =
    same_increasing 1 m (open_candidates Shrink m set) set (IsIncreasing-filter (has_member set) 1 m (range_with_len 1 m) (IsIncreasing-range 1 m m (omega arith))) up
    (λ n. has_member-filter (has_member set) (range_with_len 1 m) n ∙ member n)
  where
    member : (n : ℕ) → (has_member set n && has_member (range_with_len 1 m) n) ≡ has_member set n
    member n = grind (arith, common_steps, cases_Bool, in_bounds, has_member-range)

pub shrunk-follows : (weights : List ℕ) (m : ℕ) (rows : List Row) (set list : List ℕ) → IsIncreasing 1 m set → is_shrunk weights rows set list ≡ follows (is_choice Shrink weights m rows) (change Shrink) set list
shrunk-follows weights m rows set [] up = refl
shrunk-follows weights m rows set (c ∷ list) up =
    grind (arith, common_steps, shrunk-follows weights m rows (without_member set c) list (IsIncreasing-filter (λ x. not (x == c)) 1 m set up), open-left, IsIncreasing-filter, not)

list_any-same : {X : Type 0} (p q : X → Bool) (xs : List X) → ((x : X) → p x ≡ q x) → list_any p xs ≡ list_any q xs
list_any-same p q [] same = refl
list_any-same p q (x ∷ xs) same = ap (λ b. b || list_any p xs) (same x) ∙ ap (λ b. q x || b) (list_any-same p q xs same)

pub grown_set-made : (weights : List ℕ) (m : ℕ) (rows : List Row) (k : ℕ) (set : List ℕ) → is_grown_set weights m rows k set ≡ is_made (is_choice Grow weights m rows) (change Grow) m [] k set
grown_set-made weights m rows k set = grind (arith, common_steps, list_any-same, grown-follows, fold-grow)

pub left_set-made : (weights : List ℕ) (m : ℕ) (rows : List Row) (k : ℕ) (set : List ℕ) → is_left_set weights m rows k set ≡ is_made (is_choice Shrink weights m rows) (change Shrink) m (range_with_len 1 m) (m - k) set
left_set-made weights m rows k set =
    grind (arith, common_steps, list_any-same, shrunk-follows, IsIncreasing-range, fold-shrink)

-- ---- the winners

module _ (step : Step) (weights : List ℕ) (m : ℕ) (rows : List Row) (size k : ℕ) (test : List ℕ → Bool) where
  level-winners : ((set : List ℕ) → test set ≡ is_made (is_choice step weights m rows) (change step) m (start step m) size set) → ((set : List ℕ) → IsSized step m size set → length set ≡ k)
      → (sets : List (List ℕ)) → IsLevel step weights m rows size sets → sets ≡ filter test (increasing_lists 1 m k)
  level-winners tests sizes sets level =
      same_sorted nat_list_cmp_total sets (filter test (increasing_lists 1 m k)) level.order
      (IsStrictlySortedBy-filter (slice_cmp nat_cmp) test (increasing_lists 1 m k) (sorted_from_later (increasing_lists 1 m k) (increasing_lists-order 1 m k)))
      (λ set inside.
      let r = (level.members set).0 inside in
      let passes : test set ≡ true = tests set ∙ made_from_reached (is_choice step weights m rows) (change step) m (start step m) size set r (followed-candidates step weights m rows (start step m) r.list r.made) in
      Contains-filter test (increasing_lists 1 m k) set
      (increasing_lists-contains 1 m k set (reached-increasing step weights m rows size set r, sizes set (reached-sized step weights m rows size set r))) passes)
      (λ set inside.
      let passes = passes-from_filter test (increasing_lists 1 m k) set inside in
      (level.members set).1 (reached_from_made (is_choice step weights m rows) (change step) m (start step m) size set (sym (tests set) ∙ passes)))

pub winners-grown : (weights : List ℕ) (m : ℕ) (rows : List Row) (k : ℕ) (sets : List (List ℕ)) → IsLevel Grow weights m rows k sets → sets ≡ filter (is_grown_set weights m rows k) (increasing_lists 1 m k)
winners-grown weights m rows k sets level =
    level-winners Grow weights m rows k k (is_grown_set weights m rows k) (grown_set-made weights m rows k) (λ set sized. sized) sets level

pub winners-left : (weights : List ℕ) (m : ℕ) (rows : List Row) (k : ℕ) (sets : List (List ℕ)) → k ≤ m → IsLevel Shrink weights m rows (m - k) sets → sets ≡ filter (is_left_set weights m rows k) (increasing_lists 1 m k)
winners-left weights m rows k sets fits level =
    level-winners Shrink weights m rows (m - k) k (is_left_set weights m rows k) (left_set-made weights m rows k) (λ set sized. omega (arith, sized, fits)) sets level

-- the sets that all choices of a rule make are its winners
level-sequential : (rule : SeqRule) (e : Election) (k : ℕ) (sets : List (List ℕ)) → k ≤ e.m → IsLevel (step_of rule) (hit_weights rule e.m) e.m e.rows (choices_of rule e.m k) sets
    → sets ≡ sequential_winners rule e k
level-sequential SeqPav e k sets fits level = winners-grown (hit_weights SeqPav e.m) e.m e.rows k sets level
level-sequential SeqCc e k sets fits level = winners-grown (hit_weights SeqCc e.m) e.m e.rows k sets level
level-sequential RevSeqPav e k sets fits level = winners-left (hit_weights RevSeqPav e.m) e.m e.rows k sets fits level

-- the same, by other names for the parts of the level
pub winners-sequential : (rule : SeqRule) (e : Election) (k m size : ℕ) (step : Step) (weights table : List ℕ) (sets : List (List ℕ)) → k ≤ e.m → m ≡ e.m → step ≡ step_of rule → size ≡ choices_of rule m k
    → weights ≡ hit_weights rule m → table ≡ weights → IsLevel step table e.m e.rows size sets → sets ≡ sequential_winners rule e k
winners-sequential rule e k m size step weights table sets fits is by many are same level =
    grind (arith, common_steps, level-sequential)
