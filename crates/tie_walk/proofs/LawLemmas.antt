-- Which committees win, their order, and that there is one.
use Rattle.std.proofs.lemmas.Grind.{common_steps}
use Rattle.std.proofs.Common.{◌≡◌, ℕ, zero, suc, ◌≤◌, ◌==◌, Bool, true, false, cond, List, [], ◌∷◌, refl, sym, subst, arith, inl, inr, ◌⊎◌, filter, max, length, Contains, AllPairs}
use Rattle.std.specs.List.{range_with_len}
use Rattle.std.proofs.lemmas.Bool.{eq-eqb, eqb-true, cases_lt}
use Rattle.std.proofs.lemmas.List.Elements.{All-contains, All-contains_itself, All-filter, All-from_recursion, filter_passes}
use Rattle.std.proofs.lemmas.List.FromFn.{length-range_with_len}
use Rattle.std.proofs.lemmas.List.Kept.{AllPairs-filter}
use Rattle.ballot_base.specs.Lists.{IsIncreasing, increasing_lists, IsLater}
pub use Rattle.ballot_base.proofs.Committees.{IsIncreasing-range}
use Rattle.ballot_base.proofs.Committees.{chosen-from_contains, increasing_lists-contains, increasing_lists-order, increasing_lists-once}
use Rattle.ballot_base.proofs.ListLemmas.{Contains-later}
use Rattle.tie_walk.specs.Winners.{best_value, is_unbeaten, winners}
use Rattle.tie_walk.proofs.WinnersLemmas.{greatest, values-greatest, winners-best}

-- ---- what a filter keeps
pub Contains-from_filter : {X : Type 0} (p : X → Bool) (xs : List X) (x : X) → Contains (filter p xs) x → Contains xs x
Contains-from_filter p xs x c = All-contains (Contains xs) (filter p xs) x (All-filter p (Contains xs) xs (All-contains_itself xs)) c

pub passes-from_filter : {X : Type 0} (p : X → Bool) (xs : List X) (x : X) → Contains (filter p xs) x → p x ≡ true
passes-from_filter p xs x c = All-contains (λ y. p y ≡ true) (filter p xs) x (filter_passes p xs) c

pub Contains-filter : {X : Type 0} (p : X → Bool) (xs : List X) (x : X) → Contains xs x → p x ≡ true → Contains (filter p xs) x
Contains-filter p [] x c passes = absurd (omega (arith, c.1))
Contains-filter p (y ∷ ys) x (zero, inside, is) passes = grind (arith, common_steps)
Contains-filter p (y ∷ ys) x (suc i, inside, is) passes =
    let rest = Contains-filter p ys x (i, omega (arith, inside), is) passes in
    elim (p y) as (λ b. Contains (cond b (y ∷ filter p ys) (filter p ys)) x) [
      | true ↦ Contains-later y x (filter p ys) rest
      | false ↦ rest
    ]

-- ---- the greatest value is reached
greatest-reached : (value : List ℕ → ℕ) (low : ℕ) (sets : List (List ℕ)) → (greatest value low sets ≡ low) ⊎ ((set : List ℕ) × Contains sets set × (value set ≡ greatest value low sets))
greatest-reached value low [] = inl refl
greatest-reached value low (set ∷ sets) =
    grind (arith, common_steps, greatest-reached value (max low (value set)) sets, max, cases_lt, Contains-later)

pub no_greater_value : (value : List ℕ → ℕ) (m k : ℕ) (set : List ℕ) → Contains (increasing_lists 1 m k) set → value set ≤ best_value value m k
no_greater_value value m k set c =
    let all = increasing_lists 1 m k in
    grind (arith, common_steps, greatest value 0 all, All-contains, All-from_recursion, values-greatest value 0 all)

-- the first committee
first_committee : (m k : ℕ) → k ≤ m → Contains (increasing_lists 1 m k) (range_with_len 1 k)
first_committee m k fits =
    increasing_lists-contains 1 m k (range_with_len 1 k) (IsIncreasing-range 1 k m (omega arith), length-range_with_len 1 k)

-- a committee has the greatest value
some_best : (value : List ℕ → ℕ) (m k : ℕ) → k ≤ m → (set : List ℕ) × Contains (increasing_lists 1 m k) set × (value set ≡ best_value value m k)
some_best value m k fits =
    let first = range_with_len 1 k in
    let inside = first_committee m k fits in
    elim (greatest-reached value 0 (increasing_lists 1 m k)) [
      | inl none ↦ (first, inside, omega (arith, none, no_greater_value value m k first inside))
      | inr some ↦ some
    ]

-- ---- which committees win
pub winner-from_best : (value : List ℕ → ℕ) (m k : ℕ) (set : List ℕ) → Contains (increasing_lists 1 m k) set → value set ≡ best_value value m k → Contains (winners value m k) set
winner-from_best value m k set inside is =
    subst (λ sets. Contains sets set) (sym (winners-best value m k))
    (Contains-filter (λ other. value other == best_value value m k) (increasing_lists 1 m k) set inside (eq-eqb (value set) (best_value value m k) is))

pub some_winner : (value : List ℕ → ℕ) (m k : ℕ) → k ≤ m → (set : List ℕ) × Contains (winners value m k) set × (value set ≡ best_value value m k)
some_winner value m k fits = grind (arith, common_steps, some_best value m k fits, winner-from_best)

pub winner-is : (value : List ℕ → ℕ) (m k : ℕ) (set : List ℕ) → Contains (winners value m k) set → IsIncreasing 1 m set × (length set ≡ k) × (value set ≡ best_value value m k)
winner-is value m k set c =
    let all = increasing_lists 1 m k in
    let kept : Contains (filter (λ other. value other == best_value value m k) all) set = subst (λ sets. Contains sets set) (winners-best value m k) c in
    let chosen = chosen-from_contains 1 m k set (Contains-from_filter (λ other. value other == best_value value m k) all set kept) in
    (chosen.0, chosen.1, eqb-true (value set) (best_value value m k) (passes-from_filter (λ other. value other == best_value value m k) all set kept))

pub winner-from_is : (value : List ℕ → ℕ) (m k : ℕ) (set : List ℕ) → IsIncreasing 1 m set × (length set ≡ k) × (value set ≡ best_value value m k) → Contains (winners value m k) set
winner-from_is value m k set (increasing, size, is) = winner-from_best value m k set (increasing_lists-contains 1 m k set (increasing, size)) is

-- ---- their order
pub winners-order : (value : List ℕ → ℕ) (m k : ℕ) → AllPairs (λ x y. IsLater y x) (winners value m k)
winners-order value m k =
    AllPairs-filter (λ x y. IsLater y x) (is_unbeaten value (increasing_lists 1 m k)) (increasing_lists 1 m k) (increasing_lists-order 1 m k)

pub winners-once : (value : List ℕ → ℕ) (m k : ℕ) → AllPairs (λ x y. x ≡ y → ⊥) (winners value m k)
winners-once value m k =
    AllPairs-filter (λ x y. x ≡ y → ⊥) (is_unbeaten value (increasing_lists 1 m k)) (increasing_lists 1 m k) (increasing_lists-once 1 m k)
