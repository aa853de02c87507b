-- Which lists are allocations, and their order.
use Rattle.std.proofs.Common.{◌≡◌, ℕ, zero, suc, ◌+◌, ◌-◌, ◌<◌, ◌≤◌, ◌==◌, ◌&&◌, Bool, true, false, cond, List, [], ◌∷◌, ◌++◌, refl, sym, ap, ◌∙◌, subst, inl, inr, arith, map, filter, length, sum, Contains, AllPairs, get_or, Equal}
use Rattle.std.specs.Prelude.{flat_map}
use Rattle.std.specs.List.{range_with_len, AllByRecursion}
use Rattle.std.specs.Cmp.Lexicographic.{slice_cmp}
use Rattle.std.specs.Ordering.{nat_cmp, is_gt}
use Rattle.std.proofs.lemmas.List.Elements.{All-from_recursion}
use Rattle.std.proofs.lemmas.List.Kept.{AllPairs-cons, AllPairs-filter}
use Rattle.std.proofs.lemmas.List.Sums.{sum_by-cons}
use Rattle.seat_share.specs.declared.method.Method.{Method}
use Rattle.seat_share.specs.Allocations.{lists_with_sum, allocations, is_later, IsLater}
use Rattle.seat_share.specs.Fair.{is_fair, IsFair}
use Rattle.seat_share.proofs.FairChoices.{from-flat_map, from-map, has-map, of-sum}
use Rattle.seat_share.proofs.LaterChoices.{cmp-same, later-above, later-same}
use Rattle.seat_share.proofs.LawLemmas.{facts}
use Rattle.seat_share.proofs.Members.{Has, and-false}
use Rattle.seat_share.proofs.Order.{absurd}
use Rattle.seat_share.proofs.Threshold.{impossible, none_or_some}

-- ---- members
module _ {X : Type 0} where
  contains-from_has : (xs : List X) (x : X) → Has xs x → Contains xs x
  contains-from_has [] x here = elim here [ ]
  contains-from_has (y ∷ ys) x (inl is) = (0, omega arith, is)
  contains-from_has (y ∷ ys) x (inr later) =
      let found = contains-from_has ys x later in (suc found.0, omega (arith, found.1), found.2)

  has-from_at : (xs : List X) (x : X) (k : ℕ) → k < length xs → get_or xs k x ≡ x → Has xs x
  has-from_at [] x k less is = impossible (omega (arith, less))
  has-from_at (y ∷ ys) x zero less is = inl is
  has-from_at (y ∷ ys) x (suc k) less is = inr (has-from_at ys x k (omega (arith, less)) is)

  has-filter : (p : X → Bool) (xs : List X) (x : X) → Has xs x → p x ≡ true → Has (filter p xs) x
  has-filter p [] x here h = here
  has-filter p (y ∷ ys) x (inl is) h = rw (ap p is ∙ h) (inl is)
  has-filter p (y ∷ ys) x (inr later) h =
      elim (p y) as (λ b. Has (cond b (y ∷ filter p ys) (filter p ys)) x) [
        | true ↦ inr (has-filter p ys x later h)
        | false ↦ has-filter p ys x later h
      ]

  filter-passes : (p : X → Bool) (xs : List X) (x : X) → Has (filter p xs) x → p x ≡ true
  filter-passes p [] x here = elim here [ ]
  filter-passes p (y ∷ ys) x here = go (p y) refl here (filter-passes p ys x)
    where
      go : (b : Bool) → p y ≡ b → Has (cond b (y ∷ filter p ys) (filter p ys)) x → (Has (filter p ys) x → p x ≡ true) → p x ≡ true
      go true h (inl is) rest = subst (λ z. p z ≡ true) is h
      go true h (inr later) rest = rest later
      go false h later rest = rest later

  has-left : (xs ys : List X) (x : X) → Has xs x → Has (xs ++ ys) x
  has-left [] ys x here = elim here [ ]
  has-left (y ∷ xs) ys x (inl is) = inl is
  has-left (y ∷ xs) ys x (inr later) = inr (has-left xs ys x later)

  has-right : (xs ys : List X) (x : X) → Has ys x → Has (xs ++ ys) x
  has-right [] ys x here = here
  has-right (y ∷ xs) ys x here = inr (has-right xs ys x here)

  has-flat_map : (g : ℕ → List X) (ns : List ℕ) (n : ℕ) (x : X) → Has ns n → Has (g n) x → Has (flat_map g ns) x
  has-flat_map g [] n x here h = elim here [ ]
  has-flat_map g (m ∷ ns) n x (inl is) h = has-left (g m) (flat_map g ns) x (subst (λ k. Has (g k) x) (sym is) h)
  has-flat_map g (m ∷ ns) n x (inr later) h = has-right (g m) (flat_map g ns) x (has-flat_map g ns n x later h)

  all-from_has : (P : X → Type 0) (xs : List X) → ((x : X) → Has xs x → P x) → AllByRecursion P xs
  all-from_has P [] each = tt
  all-from_has P (x ∷ xs) each = (each x (inl refl), all-from_has P xs (λ y here. each y (inr here)))

has-range : (first count n : ℕ) → first ≤ n → n < first + count → Has (range_with_len first count) n
has-range first zero n low high = impossible (omega (arith, low, high))
has-range first (suc count) n low high = elim (none_or_some (n - first)) [
  | inl same ↦ inl (omega (arith, low, same))
  | inr more ↦ inr (has-range (first + 1) count n (omega (arith, more)) (omega (arith, high)))
]

-- each list of so many numbers with the sum is there
of-list : (list : List ℕ) → Has (lists_with_sum (length list) (sum list)) list
unfolding lists_with_sum
of-list [] = inl refl
of-list (a ∷ list) =
    let split = sum_by-cons (λ x. x) a list in
    let left : sum (a ∷ list) - a ≡ sum list = omega (arith, split) in
    has-flat_map (λ first. map (λ rest. first ∷ rest) (lists_with_sum (length list) (sum (a ∷ list) - first))) (range_with_len 0 (suc (sum (a ∷ list)))) a (a ∷ list)
    (has-range 0 (suc (sum (a ∷ list))) a (omega arith) (omega (arith, split)))
    (subst (λ n. Has (map (λ rest. a ∷ rest) (lists_with_sum (length list) n)) (a ∷ list)) (sym left)
    (has-map (λ rest. a ∷ rest) (lists_with_sum (length list) (sum list)) list (of-list list)))

pub fair-from_contains : (method : Method) (votes : List ℕ) (seats : ℕ) (allocation : List ℕ) → Contains (allocations method votes seats) allocation → IsFair method votes seats allocation
fair-from_contains method votes seats allocation (k, less, is) =
    filter-passes (is_fair method votes seats) (lists_with_sum (length votes) seats) allocation
    (has-from_at (allocations method votes seats) allocation k less is)

pub contains-fair : (method : Method) (votes : List ℕ) (seats : ℕ) (allocation : List ℕ) → IsFair method votes seats allocation → Contains (allocations method votes seats) allocation
contains-fair method votes seats allocation fair =
    let f = facts method votes allocation seats fair in
    contains-from_has (allocations method votes seats) allocation
    (has-filter (is_fair method votes seats) (lists_with_sum (length votes) seats) allocation
    (subst (λ n. Has (lists_with_sum n seats) allocation) f.long (subst (λ n. Has (lists_with_sum (length allocation) n) allocation) f.all (of-list allocation))) fair)

-- ---- their order
-- each list is later than all before it
Rising : List (List ℕ) → Type 0
Rising [] = Unit {0}
Rising (x ∷ xs) = AllByRecursion (λ y. IsLater y x) xs × Rising xs

rising-append : (xs ys : List (List ℕ)) → Rising xs → Rising ys → ((x y : List ℕ) → Has xs x → Has ys y → IsLater y x) → Rising (xs ++ ys)
unfolding Rising
rising-append [] ys h k later = k
rising-append (x ∷ xs) ys h k later = (
  both xs ys h.0 (all-from_has (λ y. IsLater y x) ys (λ y here. later x y (inl refl) here)),
  rising-append xs ys h.1 k (λ z y here there. later z y (inr here) there),
)
  where
    both : (zs us : List (List ℕ)) → AllByRecursion (λ y. IsLater y x) zs → AllByRecursion (λ y. IsLater y x) us → AllByRecursion (λ y. IsLater y x) (zs ++ us)
    both [] us h k = k
    both (z ∷ zs) us h k = (h.0, both zs us h.1 k)

rising-map : (n : ℕ) (xs : List (List ℕ)) → Rising xs → Rising (map (λ x. n ∷ x) xs)
unfolding Rising
rising-map n [] h = tt
rising-map n (x ∷ xs) h = (each xs h.0, rising-map n xs h.1)
  where
    each : (ys : List (List ℕ)) → AllByRecursion (λ y. IsLater y x) ys → AllByRecursion (λ y. IsLater y (n ∷ x)) (map (λ y. n ∷ y) ys)
    each [] h = tt
    each (y ∷ ys) h = (later-same n y x ∙ h.0, each ys h.1)

low-range : (first count n : ℕ) → Has (range_with_len first count) n → first ≤ n
low-range first zero n here = elim here [ ]
low-range first (suc count) n (inl is) = omega (arith, is)
low-range first (suc count) n (inr later) = omega (arith, low-range (first + 1) count n later)

-- lists that begin with one number after the other
rising-flat : (h : ℕ → List (List ℕ)) (long first count : ℕ) → ((n : ℕ) → Rising (h n)) → ((n : ℕ) (y : List ℕ) → Has (h n) y → (rest : List ℕ) × (length rest ≡ long) × (n ∷ rest ≡ y))
    → Rising (flat_map h (range_with_len first count))
unfolding Rising
rising-flat h long first zero each begins = tt
rising-flat h long first (suc count) each begins =
    rising-append (h first) (flat_map h (range_with_len (first + 1) count)) (each first) (rising-flat h long (first + 1) count each begins) (λ x y here there.
    let found = from-flat_map h (range_with_len (first + 1) count) y there in
    let low = begins first x here in
    let high = begins found.0 y found.2 in
    let more = low-range (first + 1) count found.0 found.1 in
    subst (λ l. IsLater l x) high.2 (subst (λ l. IsLater (found.0 ∷ high.0) l) low.2 (later-above found.0 first high.0 low.0 (omega (arith, more)) (high.1 ∙ sym low.1))))

rising-lists : (count total : ℕ) → Rising (lists_with_sum count total)
unfolding lists_with_sum Rising
rising-lists zero zero = (tt, tt)
rising-lists zero (suc total) = tt
rising-lists (suc count) total =
    rising-flat (λ first. map (λ rest. first ∷ rest) (lists_with_sum count (total - first))) count 0 (suc total)
    (λ n. rising-map n (lists_with_sum count (total - n)) (rising-lists count (total - n)))
    (λ n y here. let found = from-map (λ rest. n ∷ rest) (lists_with_sum count (total - n)) y here in (found.0, (of-sum count (total - n) found.0 found.1).0, found.2))

pairs-from_rising : (xs : List (List ℕ)) → Rising xs → AllPairs (λ x y. IsLater y x) xs
unfolding Rising
pairs-from_rising [] h = λ i j d l k. impossible (omega (arith, k))
pairs-from_rising (x ∷ xs) h = AllPairs-cons (λ a b. IsLater b a) x xs (All-from_recursion (λ b. IsLater b x) xs h.0) (pairs-from_rising xs h.1)

pub allocations-rise : (method : Method) (votes : List ℕ) (seats : ℕ) → AllPairs (λ x y. IsLater y x) (allocations method votes seats)
allocations-rise method votes seats =
    AllPairs-filter (λ a b. IsLater b a) (is_fair method votes seats) (lists_with_sum (length votes) seats) (pairs-from_rising (lists_with_sum (length votes) seats) (rising-lists (length votes) seats))

cmp-self : (x : List ℕ) → slice_cmp nat_cmp x x ≡ Equal
cmp-self [] = refl
cmp-self (a ∷ x) = rw (cmp-same a) (cmp-self x)

not-later : (x : List ℕ) → is_later x x ≡ false
not-later x = ap (λ o. (length x == length x) && is_gt o) (cmp-self x) ∙ and-false (length x == length x)

pub allocations-once : (method : Method) (votes : List ℕ) (seats : ℕ) → AllPairs (λ x y. x ≡ y → ⊥) (allocations method votes seats)
allocations-once method votes seats = λ i j d l k e.
    let x : List ℕ = get_or (allocations method votes seats) j d in
    absurd (sym (not-later x) ∙ subst (λ y. IsLater x y) e (allocations-rise method votes seats i j d l k))
