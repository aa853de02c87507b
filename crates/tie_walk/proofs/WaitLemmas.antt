-- How long a walk over the winners can be: no place has much work left, and where bounds are exact at the best value,
-- no winner is far.
use Rattle.std.proofs.lemmas.Grind.{common_steps}
use Rattle.std.proofs.Common.{◌≡◌, ℕ, ◌+◌, ◌-◌, ◌*◌, ◌^◌, ◌<◌, ◌≤◌, ◌||◌, ◌∙◌, Bool, true, false, cond, List, [], ◌∷◌, ◌++◌, Option, None, Some, refl, sym, ap, arith, inl, inr, lit<, length, filter, map, sum_by, append_assoc, append-nil}
use Rattle.std.specs.Prelude.{nat_le}
use Rattle.std.specs.List.{list_any}
use Rattle.std.proofs.Math.Nat.{pow-suc, pow-le-pow_right}
use Rattle.std.proofs.lemmas.Bool.{cases_Bool, cases_lt, le-leb, leb-true}
use Rattle.std.proofs.lemmas.List.Folds.{list_any-append, list_any_at}
use Rattle.std.proofs.lemmas.List.Sums.{sum_by-cons}
use Rattle.ballot_base.specs.Limits.{most_candidates}
use Rattle.ballot_base.specs.Lists.{IsIncreasing, increasing_lists}
use Rattle.ballot_base.proofs.Committees.{increasing_lists-contains, length-increasing}
use Rattle.tie_walk.specs.Ceilings.{IsAdded, IsTight, IsExactAtBest, is_open}
use Rattle.tie_walk.specs.Steps.Walks.{committees_below, IsPlace, IsPast, work_left, those_reaching, is_alive, waits_at, waits_after, waits_from, Progress, IsWait}
use Rattle.tie_walk.specs.declared.walk.Prefix.{Prefix}
use Rattle.tie_walk.proofs.OpenLemmas.{open-sizes, open-reaches}
use Rattle.tie_walk.proofs.WalkLemmas.{below-split, below-full}

powers-most : (m first c : ℕ) (set : List ℕ) → c ≤ m → IsIncreasing first c set → sum_by (λ n. 3 ^ (m - n)) set ≤ 3 ^ (m + 1 - first)
powers-most m first c [] inside up = omega arith
powers-most m first c (x ∷ set) inside up =
    grind (arith, common_steps, powers-most m (x + 1) c set inside up.2, sum_by-cons, pow-suc 3 (m - x), pow-le-pow_right)

all_powers : 2 * 3 ^ most_candidates < 2 ^ 126
all_powers = lit< tt

pub work-most : (m k : ℕ) (place : Option Prefix) → m ≤ most_candidates → IsPlace m k place → work_left m place < 2 ^ 126
work-most m k None most here = lit< tt
work-most m k (Some prefix) most here = grind (arith, common_steps, powers-most, pow-le-pow_right, all_powers)

-- ---- prefixes with a committee below that reaches the best value

any-map : {X Y : Type 0} (p : Y → Bool) (f : X → Y) (xs : List X) → list_any p (map f xs) ≡ list_any (λ x. p (f x)) xs
any-map p f [] = refl
any-map p f (x ∷ xs) = ap (λ b. p (f x) || b) (any-map p f xs)

none-any : {X : Type 0} (p : X → Bool) (xs : List X) → filter p xs ≡ [] → list_any p xs ≡ false
none-any {X = X} p [] none = refl
none-any {X = X} p (x ∷ xs) none = elim (cases_Bool (p x)) [
  | inl is ↦ absurd (filled (filter p xs) (sym (ap (λ b. cond b (x ∷ filter p xs) (filter p xs)) is) ∙ none))
  | inr not' ↦
      let rest : filter p xs ≡ [] = sym (ap (λ b. cond b (x ∷ filter p xs) (filter p xs)) not') ∙ none in
      ap (λ b. b || list_any p xs) not' ∙ none-any p xs rest
]
  where
    filled : (ys : List X) → x ∷ ys ≡ [] → ⊥
    filled ys e = absurd (cc)

module _ (value : List ℕ → ℕ) (m k best : ℕ) where
  pub alive-none : (c : ℕ) (set : List ℕ) → those_reaching value best (committees_below m k c set) ≡ [] → is_alive value m k best c set ≡ false
  alive-none c set none = none-any (λ list. nat_le best (value list)) (committees_below m k c set) none

  pub alive-added : (c : ℕ) (set added : List ℕ) → IsAdded m c (k - length set) added → best ≤ value (set ++ added) → is_alive value m k best c set ≡ true
  alive-added c set added is high =
      let lists = increasing_lists (c + 1) m (k - length set) in
      let inside = increasing_lists-contains (c + 1) m (k - length set) added is in
      any-map (λ list. nat_le best (value list)) (λ l. set ++ l) lists
      ∙ list_any_at (λ l. nat_le best (value (set ++ l))) lists inside.0 added inside.1
      (ap (λ l. nat_le best (value (set ++ l))) inside.2 ∙ le-leb best (value (set ++ added)) high)

  pub alive-open : (bound : ℕ → List ℕ → ℕ → ℕ) (c : ℕ) (set : List ℕ) → IsExactAtBest value bound m k best → c ≤ m → IsIncreasing 1 c set
      → is_open bound m k best c set ≡ true → is_alive value m k best c set ≡ true
  alive-open bound c set exact inside up is = grind (arith, common_steps, open-sizes, open-reaches, alive-added)

  pub alive-whole : (c : ℕ) (set : List ℕ) → length set ≡ k → is_alive value m k best c set ≡ true → best ≤ value set
  alive-whole c set full is = grind (arith, common_steps, cases_Bool, leb-true, below-full)

  -- ---- how many bounds are asked for until a winner is found

  waits-dead : (past c : ℕ) (set : List ℕ) → is_alive value m k best c set ≡ false → waits_at value m k best past c set ≡ 1 + past
  waits-dead past c set dead = rw dead

  waits-alive : (past c : ℕ) (set : List ℕ) → is_alive value m k best c set ≡ true → waits_at value m k best past c set ≡ 2 * (m - c) + 1
  waits-alive past c set alive = rw alive

  waits_after-push : (past : ℕ) (front set : List ℕ) (n : ℕ)
      → waits_after value m k best past front (set ++ n ∷ []) ≡ waits_at value m k best (waits_after value m k best past front set) n (front ++ set)
  waits_after-push past front [] n = ap (waits_at value m k best past n) (sym (append-nil front))
  waits_after-push past front (x ∷ set) n =
      grind (arith, common_steps, waits_after-push (waits_at value m k best past x front) (front ++ x ∷ []) set n, append_assoc)

  waits-past : (prefix : Prefix) (next : Option Prefix) → IsPast prefix next → waits_from value m k best next ≡ waits_after value m k best 0 [] prefix.set
  waits-past prefix None is = sym (ap (waits_after value m k best 0 []) is)
  waits-past prefix (Some place) is = sym (ap (waits_after value m k best 0 []) is.0 ∙ waits_after-push 0 [] place.set place.c)

  pub waits-some : (prefix : Prefix) → 1 ≤ waits_from value m k best (Some prefix)
  waits-some prefix = grind (arith, common_steps, cases_Bool, waits-alive, waits-dead)

  -- past a prefix with nothing below
  pub wait-past : (prefix : Prefix) (next : Option Prefix) → IsPast prefix next → is_alive value m k best prefix.c prefix.set ≡ false
      → waits_from value m k best (Some prefix) ≡ 1 + waits_from value m k best next
  wait-past prefix next is dead = grind (arith, common_steps, waits-past, waits-dead)

  -- down: where nothing is below the first child, something is below the second
  wait-child : (c : ℕ) (set : List ℕ) → c < m → length set < k → is_alive value m k best c set ≡ true
      → 1 + waits_at value m k best (waits_after value m k best 0 [] (set ++ (c + 1) ∷ [])) (c + 1) (set ++ (c + 1) ∷ [])
      ≤ waits_at value m k best (waits_after value m k best 0 [] set) c set
  wait-child c set more few alive =
      grind (arith, common_steps, cases_Bool, waits-alive, below-split, list_any-append, waits-dead, waits_after-push)

  pub wait-first : (prefix next : Prefix) → prefix.c < m → IsPlace m k (Some prefix) → next.c ≡ prefix.c + 1
      → (length prefix.set < k → next.set ≡ prefix.set ++ (prefix.c + 1) ∷ []) → (length prefix.set ≡ k → next.set ≡ prefix.set)
      → is_alive value m k best prefix.c prefix.set ≡ true
      → 1 + waits_from value m k best (Some next) ≤ waits_from value m k best (Some prefix)
  wait-first prefix next more here at grown full alive =
      grind (arith, common_steps, cases_lt, wait-child, below-full, waits-alive)

  -- ---- no place waits long

  waits_after-most : (most past first last : ℕ) (front list : List ℕ) → IsIncreasing first last list → past ≤ most → 2 * (m - first) + 1 ≤ most
      → waits_after value m k best past front list ≤ most + length list
  waits_after-most most past first last front [] up low high = omega (arith, low)
  waits_after-most most past first last front (n ∷ list) up low high =
      let here : waits_at value m k best past n front ≤ most + 1 = elim (cases_Bool (is_alive value m k best n front)) [
        | inl alive ↦ omega (arith, waits-alive past n front alive, high, up.0)
        | inr dead ↦ omega (arith, waits-dead past n front dead, low)
      ] in
      omega (arith, waits_after-most (most + 1) (waits_at value m k best past n front) (n + 1) last (front ++ n ∷ []) list up.2 here (omega (arith, high, up.0)))

  pub waits-most : (place : Option Prefix) → 1 ≤ m → IsPlace m k place → waits_from value m k best place ≤ 4 * m
  waits-most None some here = omega arith
  waits-most (Some prefix) some here =
      let past = waits_after-most (2 * (m - 1) + 1) 0 1 prefix.c [] prefix.set here.1 (omega arith) (omega arith) in
      let few = length-increasing 1 prefix.c prefix.set here.1 in
      let above = waits_after value m k best 0 [] prefix.set in
      elim (cases_Bool (is_alive value m k best prefix.c prefix.set)) [
        | inl alive ↦ omega (arith, some, waits-alive above prefix.c prefix.set alive)
        | inr dead ↦ omega (arith, some, waits-dead above prefix.c prefix.set dead, past, few, here.0)
      ]

  -- nor does any part of the walk
  pub wait-few : (from : Option Prefix) (before rest : Progress) (found : Option (List ℕ)) → 1 ≤ m → IsPlace m k from
      → IsWait value m k best from before found rest → rest.ceilings ≤ before.ceilings + 4 * m
  wait-few from before rest None some here is = omega (arith, is, waits-most from some here)
  wait-few from before rest (Some set) some here is = omega (arith, is, waits-most from some here)

-- where no bound is too high, each is exact at the best
pub tight-exact : (value : List ℕ → ℕ) (bound : ℕ → List ℕ → ℕ → ℕ) (m k best : ℕ) → IsTight value bound m k → IsExactAtBest value bound m k best
tight-exact value bound m k best tight c set left inside up size fits high =
    let some = tight c set left inside up size fits in
    (some.0, some.1, omega (arith, some.2, high))
