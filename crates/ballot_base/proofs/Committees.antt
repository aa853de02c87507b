-- Increasing lists of one length: which they are, their order, and what comes after one of them.
use Rattle.std.proofs.lemmas.Grind.{common_steps}
use Rattle.std.proofs.Common.{◌≡◌, ℕ, zero, suc, ◌+◌, ◌-◌, ◌<◌, ◌≤◌, ◌==◌, true, false, List, [], ◌∷◌, ◌++◌, refl, sym, ap, ◌∙◌, subst, arith, inl, inr, length, map, All, Contains, AllPairs, length-append, append_assoc, Greater, Option, Some, None, MatchOption, get_or}
use Rattle.std.specs.List.{range_with_len, AllByRecursion}
use Rattle.std.proofs.lemmas.Bool.{eq-eqb, ne_eqb, cases_eq, cases_lt, le-ltb, and_from, false≢true, false_from_ne_true}
use Rattle.std.specs.Ordering.{nat_cmp, is_gt}
use Rattle.std.specs.Str.{bytes_eq}
use Rattle.std.specs.Cmp.Lexicographic.{slice_cmp, bytes_decides}
use Rattle.std.proofs.lemmas.List.{map-append}
use Rattle.std.proofs.lemmas.List.Elements.{All-from_recursion, All-contains, Contains-append_left, Contains-append_right}
use Rattle.std.proofs.lemmas.List.Kept.{AllPairs-cons}
use Rattle.std.proofs.lemmas.List.Folds.{list_any_at, Any-from_list_any}
use Rattle.std.proofs.lemmas.List.FromFn.{length-range_with_len}
use Rattle.ballot_base.specs.Limits.{most_candidates}
use Rattle.ballot_base.specs.Lists.{IsIncreasing, lists_of, increasing_lists, is_committee, IsLater, AreInOrder, later_than}
use Rattle.ballot_base.specs.Steps.Subsets.{lists_from, sets_from, MayComeNext, IsLastSet, IsNextSet}
use Rattle.ballot_base.proofs.Increasing.{IsIncreasing-lower}
use Rattle.ballot_base.proofs.Later.{is_later-self, later_than-member}
use Rattle.ballot_base.proofs.FirstMember.{slice_cmp_same}
use Rattle.ballot_base.proofs.ListLemmas.{AllByRecursion-append, AllByRecursion-weaker, Contains-map}

-- ---- the lists from one of them on, case by case
lists_from-here : (count first x : ℕ) (rest : List ℕ) → x ≡ first → lists_from (suc count) first (x ∷ rest) ≡ map (λ list. first ∷ list) (lists_from count (first + 1) rest) ++ lists_of count (first + 1) (suc (length rest))
unfolding lists_from
lists_from-here count first x rest e = rw (eq-eqb x first e)

lists_from-later : (count first x : ℕ) (rest : List ℕ) → (x ≡ first → ⊥) → lists_from (suc count) first (x ∷ rest) ≡ lists_from count (first + 1) (x ∷ rest)
unfolding lists_from
lists_from-later count first x rest d = rw (ne_eqb x first d)

lists_from-empty : (count first : ℕ) → lists_from count first [] ≡ [] ∷ []
unfolding lists_from
lists_from-empty zero first = refl
lists_from-empty (suc count) first = refl

-- too few numbers make no list
lists_of-short : (count first size : ℕ) → count < size → lists_of count first size ≡ []
unfolding lists_of
lists_of-short count first zero h = absurd (omega arith)
lists_of-short zero first (suc size) h = refl
lists_of-short (suc count) first (suc size) h =
    rw (lists_of-short count (first + 1) size (omega arith), lists_of-short count (first + 1) (suc size) (omega arith))

lists_of-more : (count first size : ℕ) → lists_of (suc count) first (suc size) ≡ map (λ rest. first ∷ rest) (lists_of count (first + 1) size) ++ lists_of count (first + 1) (suc size)
unfolding lists_of
lists_of-more count first size = refl

lists_of-empty : (count first : ℕ) → lists_of count first zero ≡ [] ∷ []
unfolding lists_of
lists_of-empty zero first = refl
lists_of-empty (suc count) first = refl

-- from the first list on, all come
pub lists_from-first : (count first size : ℕ) → size ≤ count → lists_from count first (range_with_len first size) ≡ lists_of count first size
lists_from-first count first zero h = lists_from-empty count first ∙ sym (lists_of-empty count first)
lists_from-first zero first (suc size) h = absurd (omega arith)
lists_from-first (suc count) first (suc size) h =
    grind (arith, common_steps, lists_from-first count (first + 1) size (omega arith), lists_from-here, length-range_with_len, lists_of-more)

-- from the last list on, it alone comes
pub lists_from-last : (count first size low : ℕ) → size ≤ count → low + size ≡ first + count → lists_from count first (range_with_len low size) ≡ range_with_len low size ∷ []
lists_from-last count first zero low h e = lists_from-empty count first
lists_from-last zero first (suc size) low h e = absurd (omega arith)
lists_from-last (suc count) first (suc size) low h e =
    elim (cases_eq low first) [
      | inl same ↦
          lists_from-here count first low (range_with_len (low + 1) size) same
          ∙ (rw (lists_from-last count (first + 1) size (low + 1) (omega arith) (omega arith), length-range_with_len, lists_of-short count (first + 1) (suc size) (omega arith), same))
      | inr other ↦
          lists_from-later count first low (range_with_len (low + 1) size) other
          ∙ lists_from-last count (first + 1) (suc size) low (omega arith) (omega arith)
    ]

-- ---- one step
same_length : (front : List ℕ) (last tail low : ℕ) → length (front ++ last ∷ range_with_len low tail) ≡ length (front ++ range_with_len (last + 1) (suc tail))
same_length front last tail low = grind (arith, common_steps, length-append, length-range_with_len)

pub lists_from-next : (count first m : ℕ) (front : List ℕ) (last tail : ℕ) → first + count ≡ m + 1 → last + tail < m → IsIncreasing first m (front ++ last ∷ range_with_len (m + 1 - tail) tail) → lists_from count first (front ++ last ∷ range_with_len (m + 1 - tail) tail) ≡ (front ++ last ∷ range_with_len (m + 1 - tail) tail) ∷ lists_from count first (front ++ range_with_len (last + 1) (suc tail))
lists_from-next zero first m [] last tail e h i = absurd (omega (arith, i.0, i.1))
lists_from-next zero first m (x ∷ front) last tail e h i = absurd (omega (arith, i.0, i.1))
lists_from-next (suc count) first m [] last tail e h i =
    let top : List ℕ = range_with_len (m + 1 - tail) tail in
    let grown : List ℕ = range_with_len (last + 1 + 1) tail in
    let skip : lists_from (suc count) first ((last + 1) ∷ grown) ≡ lists_from count (first + 1) ((last + 1) ∷ grown) =
    lists_from-later count first (last + 1) grown (λ d. omega (arith, i.0, d)) in
    elim (cases_eq last first) [
      | inl same ↦
          let all : lists_from count (first + 1) ((last + 1) ∷ grown) ≡ lists_of count (first + 1) (suc tail) =
          subst (λ n. lists_from count (first + 1) (range_with_len (n + 1) (suc tail)) ≡ lists_of count (first + 1) (suc tail)) (sym same) (lists_from-first count (first + 1) (suc tail) (omega arith)) in
          lists_from-here count first last top same
          ∙ (rw (lists_from-last count (first + 1) tail (m + 1 - tail) (omega arith) (omega arith), length-range_with_len, skip, all, same))
      | inr other ↦
          lists_from-later count first last top other
          ∙ (lists_from-next count (first + 1) m [] last tail (omega arith) h (omega (arith, i.0, other), i.1, i.2)
          ∙ ap (λ ls. (last ∷ top) ∷ ls) (sym skip))
    ]
lists_from-next (suc count) first m (x ∷ front) last tail e h i =
    let set : List ℕ = front ++ last ∷ range_with_len (m + 1 - tail) tail in
    let next : List ℕ = front ++ range_with_len (last + 1) (suc tail) in
    elim (cases_eq x first) [
      | inl same ↦
          let rest = lists_from-next count (first + 1) m front last tail (omega arith) h (IsIncreasing-lower (first + 1) (x + 1) m set (omega (arith, same)) i.2) in
          lists_from-here count first x set same
          ∙ (rw (rest, same_length front last tail (m + 1 - tail), lists_from-here count first x next same, same))
      | inr other ↦
          lists_from-later count first x set other
          ∙ (lists_from-next count (first + 1) m (x ∷ front) last tail (omega arith) h (omega (arith, i.0, other), i.1, i.2)
          ∙ ap (λ ls. (x ∷ set) ∷ ls) (sym (lists_from-later count first x next other)))
    ]

-- ---- which lists they are
AllByRecursion-map : (P Q : List ℕ → Type 0) (f : List ℕ → List ℕ) → ((x : List ℕ) → P x → Q (f x)) → (xs : List (List ℕ)) → AllByRecursion P xs → AllByRecursion Q (map f xs)
AllByRecursion-map P Q f step [] h = tt
AllByRecursion-map P Q f step (x ∷ xs) h = (step x h.0, AllByRecursion-map P Q f step xs h.1)

-- an increasing list of this length
abbrev pub IsChosen : ℕ → ℕ → ℕ → List ℕ → Type 0
IsChosen first last size set = IsIncreasing first last set × (length set ≡ size)

pub lists_of-chosen : (count first last size : ℕ) → first + count ≤ last + 1 → AllByRecursion (IsChosen first last size) (lists_of count first size)
lists_of-chosen count first last zero h = rw (lists_of-empty count first) ((tt, refl), tt)
lists_of-chosen zero first last (suc size) h = rw (lists_of-short zero first (suc size) (omega arith)) tt
lists_of-chosen (suc count) first last (suc size) h =
    rw (lists_of-more count first size)
    (AllByRecursion-append (IsChosen first last (suc size)) (map (λ rest. first ∷ rest) (lists_of count (first + 1) size)) (lists_of count (first + 1) (suc size))
    (AllByRecursion-map (IsChosen (first + 1) last size) (IsChosen first last (suc size)) (λ rest. first ∷ rest) (λ x i. ((omega arith, omega arith, i.0), ap suc i.1)) (lists_of count (first + 1) size) (lists_of-chosen count (first + 1) last size (omega arith)))
    (AllByRecursion-weaker (IsChosen (first + 1) last (suc size)) (IsChosen first last (suc size)) (λ x i. (IsIncreasing-lower first (first + 1) last x (omega arith) i.0, i.1)) (lists_of count (first + 1) (suc size)) (lists_of-chosen count (first + 1) last (suc size) (omega arith))))

pub lists_of-contains : (count first last size : ℕ) (set : List ℕ) → last + 1 ≤ first + count → IsIncreasing first last set → length set ≡ size → Contains (lists_of count first size) set
lists_of-contains count first last size [] h i e = grind (arith, common_steps, lists_of-empty)
lists_of-contains zero first last size (x ∷ rest) h i e = absurd (omega (arith, i.0, i.1))
lists_of-contains (suc count) first last size (x ∷ rest) h i e =
    subst (λ n. Contains (lists_of (suc count) first n) (x ∷ rest)) e
    (rw (lists_of-more count first (length rest))
    (elim (cases_eq x first) [
      | inl same ↦
          Contains-append_left (map (λ list. first ∷ list) (lists_of count (first + 1) (length rest))) (lists_of count (first + 1) (suc (length rest))) (x ∷ rest)
          (subst (λ n. Contains (map (λ list. first ∷ list) (lists_of count (first + 1) (length rest))) (n ∷ rest)) (sym same)
          (Contains-map (λ list. first ∷ list) (lists_of count (first + 1) (length rest)) rest
          (lists_of-contains count (first + 1) last (length rest) rest (omega arith) (IsIncreasing-lower (first + 1) (x + 1) last rest (omega (arith, same)) i.2) refl)))
      | inr other ↦
          Contains-append_right (map (λ list. first ∷ list) (lists_of count (first + 1) (length rest))) (lists_of count (first + 1) (suc (length rest))) (x ∷ rest)
          (lists_of-contains count (first + 1) last (suc (length rest)) (x ∷ rest) (omega arith) (omega (arith, i.0, other), i.1, i.2) refl)
    ]))

-- ---- their order
abbrev After : List ℕ → List ℕ → Type 0
After x y = (length y ≡ length x) × (slice_cmp nat_cmp y x ≡ Greater)

IsLater-from_after : (x y : List ℕ) → After x y → IsLater y x
IsLater-from_after x y a = and_from (length y == length x) (is_gt (slice_cmp nat_cmp y x)) (eq-eqb (length y) (length x) a.0) (ap is_gt a.1)

-- each list comes after all before it
Rising : List (List ℕ) → Type 0
Rising [] = Unit {0}
Rising (x ∷ xs) = AllByRecursion (After x) xs × Rising xs

Rising-append : (xs ys : List (List ℕ)) → Rising xs → Rising ys → AllByRecursion (λ x. AllByRecursion (After x) ys) xs → Rising (xs ++ ys)
unfolding Rising
Rising-append [] ys h k b = k
Rising-append (x ∷ xs) ys h k b = (AllByRecursion-append (After x) xs ys h.0 b.0, Rising-append xs ys h.1 k b.1)

After-cons : (n : ℕ) (x y : List ℕ) → After x y → After (n ∷ x) (n ∷ y)
After-cons n x y a = (ap suc a.0, slice_cmp_same n y x ∙ a.1)

Rising-map : (n : ℕ) (xs : List (List ℕ)) → Rising xs → Rising (map (λ list. n ∷ list) xs)
unfolding Rising
Rising-map n [] h = tt
Rising-map n (x ∷ xs) h = (AllByRecursion-map (After x) (After (n ∷ x)) (λ list. n ∷ list) (λ y a. After-cons n x y a) xs h.0, Rising-map n xs h.1)

After-head : (first last size : ℕ) (x y : List ℕ) → length x ≡ size → IsChosen (first + 1) last (suc size) y → After (first ∷ x) y
After-head first last size x [] e c = absurd (omega (arith, c.1))
After-head first last size x (n ∷ rest) e c = grind (arith, common_steps, le-ltb, ne_eqb)

lists_of-rising : (count first size : ℕ) → Rising (lists_of count first size)
unfolding Rising
lists_of-rising count first zero = rw (lists_of-empty count first) (tt, tt)
lists_of-rising zero first (suc size) = rw (lists_of-short zero first (suc size) (omega arith)) tt
lists_of-rising (suc count) first (suc size) =
    let last : ℕ = first + count in
    let high : List (List ℕ) = lists_of count (first + 1) (suc size) in
    let low : List (List ℕ) = lists_of count (first + 1) size in
    let above = lists_of-chosen count (first + 1) last (suc size) (omega arith) in
    rw (lists_of-more count first size)
    (Rising-append (map (λ rest. first ∷ rest) low) high (Rising-map first low (lists_of-rising count (first + 1) size)) (lists_of-rising count (first + 1) (suc size))
    (AllByRecursion-map (IsChosen (first + 1) last size) (λ x. AllByRecursion (After x) high) (λ rest. first ∷ rest)
    (λ x i. AllByRecursion-weaker (IsChosen (first + 1) last (suc size)) (After (first ∷ x)) (λ y c. After-head first last size x y i.1 c) high above)
    low (lists_of-chosen count (first + 1) last size (omega arith))))

AllPairs-from_rising : (xs : List (List ℕ)) → Rising xs → AllPairs (λ x y. IsLater y x) xs
unfolding Rising
AllPairs-from_rising [] h = λ i j d l k. absurd (omega arith)
AllPairs-from_rising (x ∷ xs) h =
    grind (arith, common_steps, AllPairs-from_rising xs h.1, AllPairs-cons, All-from_recursion, AllByRecursion-weaker, After, IsLater-from_after)

-- ---- the same of the lists of numbers from first to last
lists_of-none : (first last size : ℕ) → AllByRecursion (IsChosen first last size) (lists_of 0 first size)
lists_of-none first last zero = rw (lists_of-empty 0 first) ((tt, refl), tt)
lists_of-none first last (suc size) = rw (lists_of-short 0 first (suc size) (omega arith)) tt

pub increasing_lists-chosen : (first last size : ℕ) → AllByRecursion (IsChosen first last size) (increasing_lists first last size)
increasing_lists-chosen first last size =
    elim (cases_lt (last + 1) first) [
      | inl none ↦
          let e : last + 1 - first ≡ 0 = omega arith in
          subst (λ n. AllByRecursion (IsChosen first last size) (lists_of n first size)) (sym e) (lists_of-none first last size)
      | inr some ↦ lists_of-chosen (last + 1 - first) first last size (omega arith)
    ]

pub increasing_lists-contains : (first last size : ℕ) (set : List ℕ) → IsChosen first last size set → Contains (increasing_lists first last size) set
increasing_lists-contains first last size set c = lists_of-contains (last + 1 - first) first last size set (omega arith) c.0 c.1

pub chosen-from_contains : (first last size : ℕ) (set : List ℕ) → Contains (increasing_lists first last size) set → IsChosen first last size set
chosen-from_contains first last size set h =
    grind (arith, common_steps, All-contains, IsChosen, All-from_recursion, increasing_lists-chosen)

pub increasing_lists-sizes : (first last size : ℕ) → All (λ set. length set ≡ size) (increasing_lists first last size)
increasing_lists-sizes first last size =
    grind (arith, common_steps, All-from_recursion, AllByRecursion-weaker, IsChosen, increasing_lists-chosen)

pub increasing_lists-order : (first last size : ℕ) → AllPairs (λ x y. IsLater y x) (increasing_lists first last size)
increasing_lists-order first last size = AllPairs-from_rising (increasing_lists first last size) (lists_of-rising (last + 1 - first) first size)

pub increasing_lists-once : (first last size : ℕ) → AllPairs (λ x y. x ≡ y → ⊥) (increasing_lists first last size)
increasing_lists-once first last size = λ i j d l h e.
    let xs : List (List ℕ) = increasing_lists first last size in
    false≢true (sym (is_later-self (get_or xs j d)) ∙ subst (λ x. IsLater (get_or xs j d) x) e (increasing_lists-order first last size i j d l h))

-- ---- the test for a committee
pub is_committee-true : (m k : ℕ) (list : List ℕ) → IsIncreasing 1 m list → length list ≡ k → is_committee m k list ≡ true
is_committee-true m k list increasing size =
    let (at, within, is) = increasing_lists-contains 1 m k list (increasing, size) in
    list_any_at (bytes_eq list) (increasing_lists 1 m k) at list within (ap (bytes_eq list) is ∙ (bytes_decides list list).1 refl)

pub is_committee-is : (m k : ℕ) (list : List ℕ) → is_committee m k list ≡ true → IsIncreasing 1 m list × (length list ≡ k)
is_committee-is m k list passes =
    let (at, other, within, is, same) = Any-from_list_any (bytes_eq list) (increasing_lists 1 m k) passes in
    chosen-from_contains 1 m k list (subst (λ set. Contains (increasing_lists 1 m k) set) (sym ((bytes_decides list other).0 same)) (at, within, is))

pub is_committee-false : (m k : ℕ) (list : List ℕ) → ((IsIncreasing 1 m list × (length list ≡ k)) → ⊥) → is_committee m k list ≡ false
is_committee-false m k list none = false_from_ne_true (is_committee m k list) (λ passes. none (is_committee-is m k list passes))

-- ---- a place and the next one
pub IsIncreasing-range : (from run last : ℕ) → from + run ≤ last + 1 → IsIncreasing from last (range_with_len from run)
IsIncreasing-range from zero last h = tt
IsIncreasing-range from (suc run) last h = (omega arith, omega arith, IsIncreasing-range (from + 1) run last (omega arith))

pub length-increasing : (first last : ℕ) (set : List ℕ) → IsIncreasing first last set → length set ≤ last + 1 - first
length-increasing first last [] i = omega arith
length-increasing first last (x ∷ xs) i = omega (arith, length-increasing (x + 1) last xs i.2, i.0, i.1)

IsIncreasing-grown : (first m : ℕ) (front : List ℕ) (last tail : ℕ) (rest : List ℕ) → last + tail < m → IsIncreasing first m (front ++ last ∷ rest) → IsIncreasing first m (front ++ range_with_len (last + 1) (suc tail))
IsIncreasing-grown first m [] last tail rest h i =
    IsIncreasing-lower first (last + 1) m (range_with_len (last + 1) (suc tail)) (omega (arith, i.0)) (IsIncreasing-range (last + 1) (suc tail) m (omega arith))
IsIncreasing-grown first m (x ∷ front) last tail rest h i = (i.0, i.1, IsIncreasing-grown (x + 1) m front last tail rest h i.2)

pub next_place : (m : ℕ) (set : List ℕ) (next : Option (List ℕ)) → m ≤ most_candidates → IsIncreasing 1 m set → MatchOption next (IsLastSet m set) (IsNextSet m set) → MayComeNext m next × (lists_from m 1 set ≡ set ∷ sets_from m next)
next_place m set None h i l = grind (arith, common_steps, length-increasing, lists_from-last)
next_place m set (Some next) h i (front, last, tail, less, e, f) =
    grind (arith, common_steps, lists_from-next, IsIncreasing-grown)

pub first_place : (m k : ℕ) → m ≤ most_candidates → k ≤ m → MayComeNext m (Some (range_with_len 1 k)) × (lists_from m 1 (range_with_len 1 k) ≡ increasing_lists 1 m k)
first_place m k h l = grind (arith, common_steps, IsIncreasing-range, lists_from-first)

-- the lists from one of them on are the last of all
lists_of-split : (count first last : ℕ) (set : List ℕ) → first + count ≡ last + 1 → IsIncreasing first last set
    → (before : List (List ℕ)) × (lists_of count first (length set) ≡ before ++ lists_from count first set)
lists_of-split count first last [] e i = ([], lists_of-empty count first ∙ sym (lists_from-empty count first))
lists_of-split zero first last (x ∷ rest) e i = absurd (omega (arith, i.0, i.1))
lists_of-split (suc count) first last (x ∷ rest) e i =
    let high : List (List ℕ) = lists_of count (first + 1) (suc (length rest)) in
    elim (cases_eq x first) [
      | inl same ↦
          let more = lists_of-split count (first + 1) last rest (omega arith) (IsIncreasing-lower (first + 1) (x + 1) last rest (omega (arith, same)) i.2) in
          let low : map (λ list. first ∷ list) (lists_of count (first + 1) (length rest))
          ≡ map (λ list. first ∷ list) more.0 ++ map (λ list. first ∷ list) (lists_from count (first + 1) rest) =
          ap (λ ls. map (λ list. first ∷ list) ls) more.1 ∙ map-append (λ list. first ∷ list) more.0 (lists_from count (first + 1) rest) in (
            map (λ list. first ∷ list) more.0,
            lists_of-more count first (length rest)
                ∙ (ap (λ ls. ls ++ high) low
                ∙ (append_assoc (map (λ list. first ∷ list) more.0) (map (λ list. first ∷ list) (lists_from count (first + 1) rest)) high
                ∙ ap (λ ls. map (λ list. first ∷ list) more.0 ++ ls) (sym (lists_from-here count first x rest same)))),
          )
      | inr other ↦
          let more = lists_of-split count (first + 1) last (x ∷ rest) (omega arith) (omega (arith, i.0, other), i.1, i.2) in
          let low : List (List ℕ) = map (λ list. first ∷ list) (lists_of count (first + 1) (length rest)) in (
            low ++ more.0,
            lists_of-more count first (length rest)
                ∙ (ap (λ ls. low ++ ls) more.1
                ∙ (sym (append_assoc low more.0 (lists_from count (first + 1) (x ∷ rest)))
                ∙ ap (λ ls. (low ++ more.0) ++ ls) (sym (lists_from-later count first x rest other)))),
          )
    ]

-- from the next place on come the lists that are later
pub after_place : (m k : ℕ) (set : List ℕ) (next : Option (List ℕ)) → m ≤ most_candidates → IsIncreasing 1 m set → length set ≡ k
    → MatchOption next (IsLastSet m set) (IsNextSet m set) → MayComeNext m next × (sets_from m next ≡ later_than (Some set) (increasing_lists 1 m k))
after_place m k set next most increasing size step =
    let place = next_place m set next most increasing step in
    let count : m + 1 - 1 ≡ m = omega arith in
    let split = lists_of-split m 1 m set (omega arith) increasing in
    let all : increasing_lists 1 m k ≡ split.0 ++ set ∷ sets_from m next =
    ap (λ n. lists_of n 1 k) count ∙ (ap (lists_of m 1) (sym size) ∙ (split.1 ∙ ap (λ ls. split.0 ++ ls) place.1)) in
    let order = subst (λ ls. AreInOrder ls) all (increasing_lists-order 1 m k) in
    (place.0, sym (ap (later_than (Some set)) all ∙ later_than-member split.0 set (sets_from m next) order))
