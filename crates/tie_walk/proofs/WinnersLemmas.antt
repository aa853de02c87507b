-- The winners are the committees with the greatest value.
use Rattle.std.proofs.lemmas.Grind.{common_steps}
use Rattle.std.proofs.Common.{◌≡◌, ℕ, ◌≤◌, ◌==◌, ◌&&◌, Bool, true, cond, List, [], ◌∷◌, refl, sym, ap, ◌∙◌, arith, map, filter, max, ◌+◌, ◌<◌}
use Rattle.std.specs.Prelude.{fold, nat_le, Contains}
use Rattle.std.specs.List.{list_all, AllByRecursion}
use Rattle.std.proofs.lemmas.Bool.{cases_lt, le-leb, lt-leb}
use Rattle.std.proofs.lemmas.List.Elements.{All-contains, All-from_recursion, All-weaker, recursion_from_All}
use Rattle.std.proofs.Math.Bool.{and_assoc}
use Rattle.ballot_base.specs.Lists.{IsIncreasing, increasing_lists}
use Rattle.ballot_base.proofs.Committees.{increasing_lists-chosen}
use Rattle.tie_walk.specs.Steps.Walks.{those_reaching}
use Rattle.tie_walk.specs.Winners.{best_value, is_unbeaten, winners}

module _ {X : Type 0} (value : X → ℕ) where
  -- the greatest of a number and the values
  abbrev pub greatest : ℕ → List X → ℕ
  greatest low sets = fold max low (map value sets)

  pub low-greatest : (low : ℕ) (sets : List X) → low ≤ greatest low sets
  low-greatest low [] = omega arith
  low-greatest low (set ∷ sets) = omega (arith, low-greatest (max low (value set)) sets)

  pub values-greatest : (low : ℕ) (sets : List X) → AllByRecursion (λ set. value set ≤ greatest low sets) sets
  values-greatest low [] = tt
  values-greatest low (set ∷ sets) = (omega (arith, low-greatest (max low (value set)) sets), values-greatest (max low (value set)) sets)

  -- a bound of all is a bound of the greatest
  pub bounds-greatest : (low bound : ℕ) (sets : List X) → (nat_le low bound && list_all (λ set. nat_le (value set) bound) sets) ≡ nat_le (greatest low sets) bound
  bounds-greatest low bound [] = grind arith
  bounds-greatest low bound (set ∷ sets) =
      grind (arith, common_steps, bounds-greatest (max low (value set)) bound sets, max, and_assoc)

pub same_filter : {X : Type 0} (p q : X → Bool) (xs : List X) → AllByRecursion (λ x. p x ≡ q x) xs → filter p xs ≡ filter q xs
same_filter p q [] same = refl
same_filter p q (x ∷ xs) same = ap (λ b. cond b (x ∷ filter p xs) (filter p xs)) same.0 ∙ ap (λ l. cond (q x) (x ∷ l) l) (same_filter p q xs same.1)

-- a number that is no greater than another is at least it exactly where the two are equal
pub at_least_is_equal : (n best : ℕ) → n ≤ best → nat_le best n ≡ (n == best)
at_least_is_equal n best most = grind arith

pub least : (n : ℕ) → nat_le 0 n ≡ true
least n = grind arith

same_tests : (value : List ℕ → ℕ) (all sets : List (List ℕ)) (best : ℕ) → best ≡ greatest value 0 all → AllByRecursion (λ set. value set ≤ best) sets
    → AllByRecursion (λ set. is_unbeaten value all set ≡ (value set == best)) sets
same_tests value all [] best is most = tt
same_tests value all (set ∷ sets) best is most = (
  ap (λ b. b && list_all (λ other. nat_le (value other) (value set)) all) (sym (least (value set))) ∙ bounds-greatest value 0 (value set) all ∙ ap (λ b. nat_le b (value set)) (sym is) ∙ at_least_is_equal (value set) best most.0,
  same_tests value all sets best is most.1,
)

-- the winners are the committees with the best value
pub winners-best : (value : List ℕ → ℕ) (m k : ℕ) → winners value m k ≡ filter (λ set. value set == best_value value m k) (increasing_lists 1 m k)
winners-best value m k =
    let all = increasing_lists 1 m k in
    same_filter (is_unbeaten value all) (λ set. value set == best_value value m k) all
    (same_tests value all all (best_value value m k) refl (values-greatest value 0 all))

-- each committee has candidates 1 to m
pub committees-increasing : (m k : ℕ) → AllByRecursion (λ set. IsIncreasing 1 m set) (increasing_lists 1 m k)
committees-increasing m k =
    grind (arith, common_steps, recursion_from_All, All-weaker, All-from_recursion, increasing_lists-chosen)

-- ---- values above a floor

pub greatest-low : (value : List ℕ → ℕ) (low : ℕ) (sets : List (List ℕ)) → low ≤ greatest value low sets
greatest-low value low sets = low-greatest value low sets

-- those that do not reach what is at most one above a number do not matter to the greatest of the number and of them all
pub greatest-above : (value : List ℕ → ℕ) (least low : ℕ) (sets : List (List ℕ)) → least ≤ low + 1 → greatest value low (those_reaching value least sets) ≡ greatest value low sets
greatest-above value least low [] h = refl
greatest-above value least low (set ∷ sets) h =
    grind (arith, common_steps, greatest-above value least (max low (value set)) sets (omega (arith, h)), greatest-above value least low sets h, cases_lt, le-leb, max, lt-leb)

-- those from the number on decide alone
pub greatest-begun : (value : List ℕ → ℕ) (low : ℕ) (sets others : List (List ℕ)) → those_reaching value low sets ≡ those_reaching value low others → greatest value low sets ≡ greatest value low others
greatest-begun value low sets others is =
    sym (greatest-above value low low sets (omega arith)) ∙ ap (greatest value low) is ∙ greatest-above value low low others (omega arith)

-- the next one above the floor is the next greatest
pub greatest-next : (value : List ℕ → ℕ) (floor : ℕ) (sets rest : List (List ℕ)) (set : List ℕ) → those_reaching value (floor + 1) sets ≡ set ∷ those_reaching value (floor + 1) rest → floor < value set
    → greatest value (value set) rest ≡ greatest value floor sets
greatest-next value floor sets rest set next above =
    let over : floor ≤ value set = omega (arith, above) in
    let same : max floor (value set) ≡ value set = omega (arith, over) in
    sym (
    sym (greatest-above value (floor + 1) floor sets (omega arith)) ∙ ap (greatest value floor) next ∙ ap (λ n. greatest value n (those_reaching value (floor + 1) rest)) same
    ∙ greatest-above value (floor + 1) (value set) rest (omega (arith, over)))

pub greatest-done : (value : List ℕ → ℕ) (floor : ℕ) (sets : List (List ℕ)) → those_reaching value (floor + 1) sets ≡ [] → greatest value floor sets ≡ floor
greatest-done value floor sets none = sym (greatest-above value (floor + 1) floor sets (omega arith)) ∙ ap (greatest value floor) none

-- what bounds a number and all values bounds the greatest
pub greatest-most : (value : List ℕ → ℕ) (low bound : ℕ) (sets : List (List ℕ)) → low ≤ bound → AllByRecursion (λ set. value set ≤ bound) sets → greatest value low sets ≤ bound
greatest-most value low bound [] under all = under
greatest-most value low bound (set ∷ sets) under all = greatest-most value (max low (value set)) bound sets (omega (arith, under, all.0)) all.1

greatest-max : (value : List ℕ → ℕ) (low n : ℕ) (sets : List (List ℕ)) → greatest value (max low n) sets ≡ max low (greatest value n sets)
greatest-max value low n [] = refl
greatest-max value low n (set ∷ sets) =
    grind (arith, common_steps, greatest-max value low (max n (value set)) sets, max)

-- the value of one of them may come first
pub greatest-first : (value : List ℕ → ℕ) (set : List ℕ) (sets : List (List ℕ)) → Contains sets set → greatest value (value set) sets ≡ greatest value 0 sets
greatest-first value set sets inside =
    let most : value set ≤ greatest value 0 sets =
    All-contains (λ s. value s ≤ greatest value 0 sets) sets set (All-from_recursion (λ s. value s ≤ greatest value 0 sets) sets (values-greatest value 0 sets)) inside in
    let zero-first : max (value set) 0 ≡ value set = omega arith in
    ap (λ x. greatest value x sets) (sym zero-first) ∙ greatest-max value (value set) 0 sets ∙ omega (arith, most)

-- the winners are the committees from the best value on
pub winners-from_best : (value : List ℕ → ℕ) (m k : ℕ) → winners value m k ≡ filter (λ set. nat_le (best_value value m k) (value set)) (increasing_lists 1 m k)
winners-from_best value m k =
    let all = increasing_lists 1 m k in
    winners-best value m k
    ∙ same_filter (λ set. value set == best_value value m k) (λ set. nat_le (best_value value m k) (value set)) all (equal all (values-greatest value 0 all))
  where
    equal : (sets : List (List ℕ)) → AllByRecursion (λ set. value set ≤ best_value value m k) sets
        → AllByRecursion (λ set. (value set == best_value value m k) ≡ nat_le (best_value value m k) (value set)) sets
    equal [] all = tt
    equal (set ∷ sets) all = (sym (at_least_is_equal (value set) (best_value value m k) all.0), equal sets all.1)
