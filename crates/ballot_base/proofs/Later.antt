-- What is later than a list, among lists in order: the last of them.
use Rattle.std.proofs.lemmas.Grind.{common_steps}
use Rattle.std.proofs.Common.{◌≡◌, ℕ, suc, ◌==◌, Bool, true, false, cond, List, [], ◌∷◌, ◌++◌, refl, sym, ap, ◌∙◌, arith, length, filter, Ordering, Less, Equal, Greater, Some, AllPairs}
use Rattle.std.specs.List.{AllByRecursion}
use Rattle.std.specs.Ordering.{nat_cmp, is_gt}
use Rattle.std.specs.Cmp.Lexicographic.{slice_cmp}
use Rattle.std.proofs.lemmas.Bool.{eq-eqb, eqb-true, and_from, and_parts, and_right}
use Rattle.std.proofs.lemmas.Cmp.{nat_list_cmp_total, tied_itself}
use Rattle.std.proofs.lemmas.List.Elements.{filter-append, recursion_from_All}
use Rattle.std.specs.List.Sorted.{IsStrictlySortedBy}
use Rattle.ballot_base.specs.Lists.{is_later, IsLater, AreInOrder, later_than}
use Rattle.ballot_base.proofs.ListLemmas.{AllByRecursion-weaker}

-- ---- the order
greater_from_test : (o : Ordering) → is_gt o ≡ true → o ≡ Greater
greater_from_test Less e = cc
greater_from_test Equal e = cc
greater_from_test Greater e = refl

-- x is as long as y, and y comes before it
pub IsLater-parts : (x y : List ℕ) → IsLater x y → (length x ≡ length y) × (slice_cmp nat_cmp y x ≡ Less)
IsLater-parts x y later =
    grind (arith, common_steps, and_parts, eqb-true, nat_list_cmp_total, greater_from_test)

pub IsLater-from_parts : (x y : List ℕ) → length x ≡ length y → slice_cmp nat_cmp y x ≡ Less → IsLater x y
IsLater-from_parts x y long less = grind (arith, common_steps, and_from, eq-eqb, nat_list_cmp_total)

pub IsLater-trans : (x y z : List ℕ) → IsLater x y → IsLater y z → IsLater x z
IsLater-trans x y z first second =
    grind (arith, common_steps, IsLater-parts, IsLater-from_parts, nat_list_cmp_total)

-- nothing is later than itself, nor than what is later than it
pub is_later-self : (x : List ℕ) → is_later x x ≡ false
is_later-self x = and_right (length x == length x) (is_gt (slice_cmp nat_cmp x x)) (ap is_gt (tied_itself nat_list_cmp_total x))

pub is_later-earlier : (x y : List ℕ) → IsLater x y → is_later y x ≡ false
is_later-earlier x y later = and_right (length y == length x) (is_gt (slice_cmp nat_cmp y x)) (ap is_gt (IsLater-parts x y later).1)

-- ---- what a test keeps
pub filter-all : (p : List ℕ → Bool) (xs : List (List ℕ)) → AllByRecursion (λ x. p x ≡ true) xs → filter p xs ≡ xs
filter-all p [] all = refl
filter-all p (x ∷ xs) all = rw all.0 (ap (λ rest. x ∷ rest) (filter-all p xs all.1))

filter-none : (p : List ℕ → Bool) (xs : List (List ℕ)) → AllByRecursion (λ x. p x ≡ false) xs → filter p xs ≡ []
filter-none p [] all = refl
filter-none p (x ∷ xs) all = rw all.0 (filter-none p xs all.1)

-- ---- lists in order
pub sorted_from_later : (xs : List (List ℕ)) → AllPairs (λ x y. IsLater y x) xs → IsStrictlySortedBy (slice_cmp nat_cmp) xs
unfolding IsStrictlySortedBy
sorted_from_later [] pairs = tt
sorted_from_later (x ∷ xs) pairs = (
  recursion_from_All (λ y. slice_cmp nat_cmp x y ≡ Less) xs (λ k d inside. (IsLater-parts _ x (pairs 0 (suc k) d (omega arith) (omega (arith, inside)))).1),
  sorted_from_later xs (λ i j d less inside. pairs (suc i) (suc j) d (omega (arith, less)) (omega (arith, inside))),
)

AreInOrder-head : (x : List ℕ) (xs : List (List ℕ)) → AreInOrder (x ∷ xs) → AllByRecursion (λ y. IsLater y x) xs
AreInOrder-head x xs order = recursion_from_All (λ y. IsLater y x) xs (λ k d h. order 0 (suc k) d (omega arith) (omega arith))

AreInOrder-tail : (x : List ℕ) (xs : List (List ℕ)) → AreInOrder (x ∷ xs) → AreInOrder xs
AreInOrder-tail x xs order = λ i j d l h. order (suc i) (suc j) d (omega arith) (omega arith)

-- the list itself is the first that is not before it
before-none : (before : List (List ℕ)) (start : List ℕ) (after : List (List ℕ)) → AreInOrder (before ++ start ∷ after)
    → (AllByRecursion (λ x. is_later x start ≡ false) before) × AreInOrder (start ∷ after)
before-none [] start after order = (tt, order)
before-none (x ∷ before) start after order =
    let more = before-none before start after (AreInOrder-tail x (before ++ start ∷ after) order) in
    ((is_later-earlier start x (member before (AreInOrder-head x (before ++ start ∷ after) order)), more.0), more.1)
  where
    member : (front : List (List ℕ)) → AllByRecursion (λ y. IsLater y x) (front ++ start ∷ after) → IsLater start x
    member [] all = all.0
    member (y ∷ front) all = member front all.1

-- what is later than one of the lists are those after it
pub later_than-member : (before : List (List ℕ)) (start : List ℕ) (after : List (List ℕ)) → AreInOrder (before ++ start ∷ after)
    → later_than (Some start) (before ++ start ∷ after) ≡ after
later_than-member before start after order =
    let parts = before-none before start after order in
    filter-append (λ x. is_later x start) before (start ∷ after)
    ∙ (rw (filter-none (λ x. is_later x start) before parts.0, is_later-self start)
    (filter-all (λ x. is_later x start) after (AreInOrder-head start after parts.1)))

-- what is later than any list are the last of the lists
pub later_than-end : (start : List ℕ) (lists : List (List ℕ)) → AreInOrder lists → (before : List (List ℕ)) × (lists ≡ before ++ later_than (Some start) lists)
later_than-end start [] order = ([], refl)
later_than-end start (x ∷ lists) order = by (is_later x start) refl (later_than-end start lists (AreInOrder-tail x lists order))
  where
    by : (b : Bool) → is_later x start ≡ b → (before : List (List ℕ)) × (lists ≡ before ++ later_than (Some start) lists)
        → (before : List (List ℕ)) × (x ∷ lists ≡ before ++ cond b (x ∷ later_than (Some start) lists) (later_than (Some start) lists))
    by true e rest =
        let later = AllByRecursion-weaker (λ y. IsLater y x) (λ y. is_later y start ≡ true) (λ y above. IsLater-trans y x start above e) lists (AreInOrder-head x lists order) in
        ([], ap (λ l. x ∷ l) (sym (filter-all (λ y. is_later y start) lists later)))
    by false e rest = (x ∷ rest.0, ap (λ l. x ∷ l) rest.1)
