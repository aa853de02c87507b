-- Walks from a start.
use Rattle.std.proofs.lemmas.Grind.{common_steps}
use Rattle.std.proofs.Common.{◌≡◌, ℕ, zero, suc, ◌<◌, ◌≤◌, Bool, true, false, List, [], ◌∷◌, ◌++◌, refl, sym, ap, ◌∙◌, subst, arith, inl, inr, length, filter, drop, get_or, All, Option, None, Some, Ordering, Less, Equal, Greater}
use Rattle.std.specs.Prelude.{MatchOption, ⊤}
use Rattle.std.specs.List.{AllByRecursion}
use Rattle.std.specs.List.Sorted.{IsPartitionedBy, IsPartitionPoint}
use Rattle.std.specs.Cmp.Lexicographic.{slice_cmp}
use Rattle.std.specs.Ordering.{nat_cmp, is_gt, is_le}
use Rattle.std.proofs.lemmas.Bool.{cases_Bool, cases_eq, and_from, and_parts, eq-eqb, false≢true}
use Rattle.ballot_base.specs.Lists.{is_later, IsLater, AreInOrder, later_than}
use Rattle.ballot_base.proofs.Later.{IsLater-trans, later_than-member}
use Rattle.tie_walk.specs.Winners.{IsStart}

-- ---- two tests, one after the other
pub filter-swap : {X : Type 0} (p q : X → Bool) (xs : List X) → filter p (filter q xs) ≡ filter q (filter p xs)
filter-swap p q [] = refl
filter-swap p q (x ∷ xs) = grind (arith, common_steps, filter-swap p q xs)

-- the winners after a start, by a walk over the committees after it
pub later_than-filter : (p : List ℕ → Bool) (start : Option (List ℕ)) (lists : List (List ℕ)) → filter p (later_than start lists) ≡ later_than start (filter p lists)
later_than-filter p None lists = refl
later_than-filter p (Some start) lists = filter-swap p (λ list. is_later list start) lists

pub all-later_than : (P : List ℕ → Type 0) (start : Option (List ℕ)) (lists : List (List ℕ)) → AllByRecursion P lists → AllByRecursion P (later_than start lists)
all-later_than P None lists all = all
all-later_than P (Some start) [] all = tt
all-later_than P (Some start) (x ∷ lists) all =
    grind (arith, common_steps, all-later_than P (Some start) lists all.1, Some)

-- after one of the lists come those that stand after it
pub later_than-at : (lists before after : List (List ℕ)) (start : List ℕ) → AreInOrder lists → lists ≡ before ++ start ∷ after → later_than (Some start) lists ≡ after
later_than-at lists before after start order is = grind (arith, common_steps, later_than-member)

-- ---- the place of a start
after-greater : (o : Ordering) → is_le o ≡ true → is_gt o ≡ false
after-greater Less e = refl
after-greater Equal e = refl
after-greater Greater e = let no : false ≡ true = e in absurd (false≢true no)

greater-after : (o : Ordering) → is_le o ≡ false → is_gt o ≡ true
greater-after Less e = let no : true ≡ false = e in absurd (false≢true (sym no))
greater-after Equal e = let no : true ≡ false = e in absurd (false≢true (sym no))
greater-after Greater e = refl

abbrev pub is_up_to : List ℕ → List ℕ → Bool
is_up_to start set = is_le (slice_cmp nat_cmp set start)

later-from : (set start : List ℕ) → length set ≡ length start → is_up_to start set ≡ false → is_later set start ≡ true
later-from set start size e = grind (arith, common_steps, and_from, eq-eqb, greater-after)

earlier-from : (set start : List ℕ) → is_up_to start set ≡ true → is_later set start ≡ false
earlier-from set start e = grind (arith, common_steps, cases_Bool, false≢true, after-greater, and_parts)

pub up_to-partitioned : (sets : List (List ℕ)) (start : List ℕ) → AreInOrder sets → All (λ set. length set ≡ length start) sets → IsPartitionedBy (is_up_to start) sets
up_to-partitioned sets start order sizes i j d le inside e = elim (cases_eq i j) [
  | inl same ↦ subst (λ n. is_up_to start (get_or sets n d) ≡ true) (sym same) e
  | inr other ↦ elim (cases_Bool (is_up_to start (get_or sets i d))) [
    | inl here ↦ here
    | inr none ↦
        let first : IsLater (get_or sets i d) start = later-from (get_or sets i d) start (sizes i d (omega (arith, le, inside))) none in
        let second : IsLater (get_or sets j d) start = IsLater-trans (get_or sets j d) (get_or sets i d) start (order i j d (omega (arith, le, other)) inside) first in
        absurd (false≢true (sym (earlier-from (get_or sets j d) start e) ∙ second))
  ]
]

-- what a test keeps where it fails at the first elements and holds at the others
filter-from : (q : List ℕ → Bool) (xs : List (List ℕ)) (i : ℕ) → ((k : ℕ) (d : List ℕ) → k < i → k < length xs → q (get_or xs k d) ≡ false)
    → ((k : ℕ) (d : List ℕ) → i ≤ k → k < length xs → q (get_or xs k d) ≡ true) → drop i xs ≡ filter q xs
filter-from q [] zero before after = refl
filter-from q [] (suc i) before after = refl
filter-from q (x ∷ xs) zero before after =
    let here : q x ≡ true = after 0 x (omega arith) (omega arith) in
    rw here (ap (λ l. x ∷ l) (filter-from q xs 0 (λ k d low inside. absurd (omega (arith, low))) (λ k d low inside. after (suc k) d (omega arith) (omega (arith, inside)))))
filter-from q (x ∷ xs) (suc i) before after =
    let here : q x ≡ false = before 0 x (omega arith) (omega arith) in
    rw here (filter-from q xs i (λ k d low inside. before (suc k) d (omega (arith, low)) (omega (arith, inside))) (λ k d low inside. after (suc k) d (omega (arith, low)) (omega (arith, inside))))

pub later-at_point : (sets : List (List ℕ)) (start : List ℕ) (i : ℕ) → All (λ set. length set ≡ length start) sets
    → IsPartitionPoint (λ set. is_up_to start set ≡ true) (λ set. is_up_to start set ≡ false) sets i → drop i sets ≡ later_than (Some start) sets
later-at_point sets start i sizes point =
    filter-from (λ set. is_later set start) sets i
    (λ k d low inside. earlier-from (get_or sets k d) start (point.0 k d (omega arith) low))
    (λ k d low inside. later-from (get_or sets k d) start (sizes k d inside) (point.1 k d low inside))

-- a start has the size of the winners
pub starts-fit : (m k : ℕ) (after : Option (List ℕ)) (sets : List (List ℕ)) → IsStart m k after → All (λ set. length set ≡ k) sets
    → MatchOption after ⊤ (λ start. All (λ set. length set ≡ length start) sets)
starts-fit m k None sets start sizes = tt
starts-fit m k (Some set) sets start sizes = subst (λ n. All (λ s. length s ≡ n) sets) (sym start.1) sizes
