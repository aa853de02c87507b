-- The walk over the winners: which prefixes are still to be entered, and which committees reach the best value.
use Rattle.std.proofs.lemmas.Grind.{common_steps}
use Rattle.std.proofs.Common.{◌≡◌, ℕ, zero, suc, ◌+◌, ◌-◌, ◌^◌, ◌<◌, ◌≤◌, ◌∙◌, true, false, cond, List, [], ◌∷◌, ◌++◌, Option, None, Some, refl, sym, ap, arith, length, length-append, append_assoc, append-nil}
use Rattle.std.specs.Prelude.{nat_le}
use Rattle.std.specs.List.{AllByRecursion}
use Rattle.std.proofs.Math.Nat.{pow-suc, pow-le-pow_right}
use Rattle.std.proofs.lemmas.Bool.{cases_Bool, cases_lt, le-leb, lt-leb, leb-true, and_parts, and_from}
use Rattle.std.proofs.lemmas.List.Elements.{filter-append}
use Rattle.ballot_base.specs.Lists.{IsIncreasing}
use Rattle.ballot_base.proofs.Increasing.{IsIncreasing-push, IsIncreasing-higher, with_member-above}
use Rattle.tie_walk.specs.Ceilings.{IsBound, is_open}
use Rattle.tie_walk.specs.Steps.Walks.{committees_below, committees_from, IsPlace, IsPast, work_left, those_reaching, open_below, open_after, open_from}
use Rattle.tie_walk.specs.declared.walk.Prefix.{Prefix}
use Rattle.tie_walk.proofs.WalkLemmas.{below-full, below-short, below-bounded, from-grown, from-past, work-grown}

-- ---- committees that reach the best value

module _ (value : List ℕ → ℕ) (best : ℕ) where
  pub reaching-append : (xs ys : List (List ℕ)) → those_reaching value best (xs ++ ys) ≡ those_reaching value best xs ++ those_reaching value best ys
  reaching-append xs ys = filter-append (λ s. nat_le best (value s)) xs ys

  pub none_reaching : (bound : ℕ) (lists : List (List ℕ)) → bound < best → AllByRecursion (λ s. value s ≤ bound) lists → those_reaching value best lists ≡ []
  none_reaching bound [] low all = refl
  none_reaching bound (l ∷ lists) low all = grind (arith, common_steps, none_reaching bound lists low all.1, lt-leb)

  -- what nothing is left of has nothing in its parts
  pub none-last : (xs ys : List (List ℕ)) → those_reaching value best (xs ++ ys) ≡ [] → those_reaching value best ys ≡ []
  none-last xs ys none = nothing (those_reaching value best xs) (those_reaching value best ys) (sym (reaching-append xs ys) ∙ none)
    where
      nothing : (front back : List (List ℕ)) → front ++ back ≡ [] → back ≡ []
      nothing [] back e = e
      nothing (x ∷ front) back e = absurd (cc)

  module _ (m k : ℕ) where
    pub reaching-short : (c : ℕ) (set : List ℕ) → length set + (m - c) < k → those_reaching value best (committees_below m k c set) ≡ []
    reaching-short c set few = ap (those_reaching value best) (below-short m k c set few)

    pub reaching-bound : (c : ℕ) (set : List ℕ) (bound : ℕ) → IsBound value m c set (k - length set) bound → bound < best → those_reaching value best (committees_below m k c set) ≡ []
    reaching-bound c set bound law low = none_reaching bound (committees_below m k c set) low (below-bounded m k value c set bound law)

    pub reaching-past : (prefix : Prefix) (next : Option Prefix) → IsPast prefix next → those_reaching value best (committees_below m k prefix.c prefix.set) ≡ []
        → those_reaching value best (committees_from m k (Some prefix)) ≡ those_reaching value best (committees_from m k next)
    reaching-past prefix next is none = grind (arith, common_steps, reaching-append, from-past)

    -- a whole committee, and what comes after it
    pub reaching-whole : (prefix : Prefix) (next : Option Prefix) → IsPast prefix next → length prefix.set ≡ k
        → those_reaching value best (committees_from m k (Some prefix)) ≡ cond (nat_le best (value prefix.set)) (prefix.set ∷ []) [] ++ those_reaching value best (committees_from m k next)
    reaching-whole prefix next is full = grind (arith, common_steps, reaching-append, below-full, from-past)

shrinks : (m c : ℕ) → c < m → 3 ^ (m - (c + 1)) < 3 ^ (m - c)
shrinks m c more =
    let count : m - c ≡ suc (m - (c + 1)) = omega arith in
    omega (arith, ap (λ n. 3 ^ n) count, pow-suc 3 (m - (c + 1)), some (m - (c + 1)))
  where
    some : (n : ℕ) → 1 ≤ 3 ^ n
    some n = pow-le-pow_right {n = 3} (omega arith) {i = 0} {j = n} (omega arith)

-- the first prefix below another has the same committees from it on
module _ (m k : ℕ) where
  pub from-first : (prefix next : Prefix) → prefix.c < m → IsPlace m k (Some prefix) → next.c ≡ prefix.c + 1
      → (length prefix.set < k → next.set ≡ prefix.set ++ (prefix.c + 1) ∷ []) → (length prefix.set ≡ k → next.set ≡ prefix.set)
      → (committees_from m k (Some next) ≡ committees_from m k (Some prefix)) × (work_left m (Some next) < work_left m (Some prefix))
  from-first prefix next more here at grown full =
      grind (arith, common_steps, cases_lt, from-grown, work-grown, below-full, shrinks)

  pub place-first : (prefix next : Prefix) → prefix.c < m → IsPlace m k (Some prefix) → next.c ≡ prefix.c + 1
      → (length prefix.set < k → next.set ≡ prefix.set ++ (prefix.c + 1) ∷ []) → (length prefix.set ≡ k → next.set ≡ prefix.set) → IsPlace m k (Some next)
  place-first prefix next more here at grown full =
      grind (arith, common_steps, cases_lt, IsIncreasing-push, IsIncreasing-higher, length-append)

-- ---- prefixes still to be entered

module _ (bound : ℕ → List ℕ → ℕ → ℕ) (m k best : ℕ) where
  pub open-is : (c : ℕ) (set : List ℕ) → length set ≤ k → k ≤ length set + (m - c) → best ≤ bound c set (k - length set) → is_open bound m k best c set ≡ true
  open-is c set few enough reaches = grind (arith, common_steps, and_from, le-leb)

  pub open-sizes : (c : ℕ) (set : List ℕ) → is_open bound m k best c set ≡ true → (length set ≤ k) × (k ≤ length set + (m - c))
  open-sizes c set is = grind (arith, common_steps, and_parts, leb-true)

  pub open-reaches : (c : ℕ) (set : List ℕ) → is_open bound m k best c set ≡ true → best ≤ bound c set (k - length set)
  open-reaches c set is = grind (arith, common_steps, and_parts, leb-true)

  pub shut-large : (c : ℕ) (set : List ℕ) → k < length set → is_open bound m k best c set ≡ false
  shut-large c set large = rw (lt-leb (length set) k large)

  pub shut-short : (c : ℕ) (set : List ℕ) → length set + (m - c) < k → is_open bound m k best c set ≡ false
  shut-short c set few = grind (arith, common_steps, cases_Bool, open-sizes)

  pub shut-low : (c : ℕ) (set : List ℕ) → bound c set (k - length set) < best → is_open bound m k best c set ≡ false
  shut-low c set low = grind (arith, common_steps, cases_Bool, open-reaches)

  pub open-none : (rest c : ℕ) (set : List ℕ) → is_open bound m k best c set ≡ false → open_below bound m k best rest c set ≡ 0
  open-none zero c set shut = rw shut
  open-none (suc rest) c set shut = rw shut

  -- a prefix, and what is below it with the next candidate and without
  pub open-split : (c : ℕ) (set : List ℕ) → c < m → IsIncreasing 1 c set → is_open bound m k best c set ≡ true
      → open_below bound m k best (m - c) c set
      ≡ 1 + open_below bound m k best (m - (c + 1)) (c + 1) (set ++ (c + 1) ∷ []) + open_below bound m k best (m - (c + 1)) (c + 1) set
  open-split c set more up is = grind (arith, common_steps, with_member-above)

  pub open-last : (c : ℕ) (set : List ℕ) → m ≤ c → is_open bound m k best c set ≡ true → open_below bound m k best (m - c) c set ≡ 1
  open-last c set last is = grind (arith, common_steps)

  pub open_after-push : (front set : List ℕ) (n : ℕ)
      → open_after bound m k best front (set ++ n ∷ []) ≡ open_below bound m k best (m - n) n (front ++ set) + open_after bound m k best front set
  open_after-push front [] n = omega (arith, ap (open_below bound m k best (m - n) n) (append-nil front))
  open_after-push front (x ∷ set) n = grind (arith, common_steps, open_after-push (front ++ x ∷ []) set n, append_assoc)

  pub open-past : (prefix : Prefix) (next : Option Prefix) → IsPast prefix next → open_from bound m k best next ≡ open_after bound m k best [] prefix.set
  open-past prefix None is = sym (ap (open_after bound m k best []) is)
  open-past prefix (Some place) is = sym (ap (open_after bound m k best []) is.0 ∙ open_after-push [] place.set place.c)

  -- a prefix that is not open is passed
  pub passed : (prefix : Prefix) (next : Option Prefix) → IsPast prefix next → is_open bound m k best prefix.c prefix.set ≡ false
      → open_from bound m k best next ≡ open_from bound m k best (Some prefix)
  passed prefix next is shut = omega (arith, open-past prefix next is, open-none (m - prefix.c) prefix.c prefix.set shut)

  -- one that is open is entered
  pub entered-first : (prefix next : Prefix) → prefix.c < m → IsPlace m k (Some prefix) → next.c ≡ prefix.c + 1
      → (length prefix.set < k → next.set ≡ prefix.set ++ (prefix.c + 1) ∷ []) → (length prefix.set ≡ k → next.set ≡ prefix.set)
      → is_open bound m k best prefix.c prefix.set ≡ true
      → 1 + open_from bound m k best (Some next) ≡ open_from bound m k best (Some prefix)
  entered-first prefix next more here at grown full is =
      grind (arith, common_steps, cases_lt, open-split, open_after-push, length-append, open-none, shut-large)

  pub entered-last : (prefix : Prefix) (next : Option Prefix) → IsPast prefix next → m ≤ prefix.c → is_open bound m k best prefix.c prefix.set ≡ true
      → 1 + open_from bound m k best next ≡ open_from bound m k best (Some prefix)
  entered-last prefix next past last is = omega (arith, open-past prefix next past, open-last prefix.c prefix.set last is)
