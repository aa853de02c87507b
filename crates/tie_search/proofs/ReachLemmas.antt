-- The greatest value of a committee.
use Rattle.std.proofs.Common.{◌≡◌, ℕ, zero, suc, ◌+◌, ◌<◌, ◌≤◌, ◌||◌, ◌∙◌, Bool, true, false, List, [], ◌∷◌, ◌++◌, refl, sym, ap, arith, length, Contains}
use Rattle.std.proofs.Math.Bool.{or-true}
use Rattle.std.specs.List.{list_any}
use Rattle.ballot_base.specs.Lists.{IsIncreasing}
use Rattle.ballot_base.specs.CandSet.{has_member}
use Rattle.ballot_base.proofs.Committees.{increasing_lists-contains}
use Rattle.ballot_base.proofs.Increasing.{IsIncreasing-lower}
use Rattle.tie_walk.specs.Ceilings.{IsBound}
use Rattle.tie_walk.specs.Winners.{best_value}
use Rattle.tie_walk.proofs.LawLemmas.{no_greater_value, some_winner, winner-is}
use Rattle.row_multipliers.specs.Completions.{IsCompletion}
use Rattle.row_multipliers.proofs.CompletionLemmas.{member-low, member-high}

-- ---- tests of lists

pub any-true : {X : Type 0} (p : X → Bool) (xs : List X) (x : X) → Contains xs x → p x ≡ true → list_any p xs ≡ true
any-true p [] x c passes = absurd (omega (arith, c.1))
any-true p (y ∷ ys) x (zero, inside, is) passes = ap (λ b. b || list_any p ys) (ap p is ∙ passes)
any-true p (y ∷ ys) x (suc i, inside, is) passes = ap (λ b. p y || b) (any-true p ys x (i, omega (arith, inside), is) passes) ∙ or-true (p y)

pub any-found : {X : Type 0} (p : X → Bool) (xs : List X) → list_any p xs ≡ true → (x : X) × Contains xs x × (p x ≡ true)
any-found p [] h = absurd cc
any-found {X} p (y ∷ ys) h = by (p y) refl (λ there. any-found p ys there)
  where
    by : (b : Bool) → p y ≡ b → (list_any p ys ≡ true → (x : X) × Contains ys x × (p x ≡ true)) → (x : X) × Contains (y ∷ ys) x × (p x ≡ true)
    by true here later = (y, (0, omega arith, refl), here)
    by false here later =
        let rest = later (ap (λ b. b || list_any p ys) (sym here) ∙ h) in
        (rest.0, (suc rest.1.0, omega (arith, rest.1.1), rest.1.2), rest.2)

-- ---- lists one after another

pub increasing-append : (first middle last : ℕ) (xs ys : List ℕ) → first ≤ middle + 1 → middle ≤ last → IsIncreasing first middle xs → IsIncreasing (middle + 1) last ys → IsIncreasing first last (xs ++ ys)
increasing-append first middle last [] ys low high up after = IsIncreasing-lower first (middle + 1) last ys low after
increasing-append first middle last (x ∷ xs) ys low high up after =
    (up.0, omega (arith, up.1), increasing-append (x + 1) middle last xs ys (omega (arith, up.1)) high up.2 after)

-- ---- the greatest value

-- a committee of k completes the empty set
pub completes-none : (m k : ℕ) (all committee : List ℕ) → ((n : ℕ) → 0 < n → n ≤ m → has_member all n ≡ true) → IsIncreasing 1 m committee → length committee ≡ k
    → IsCompletion m [] all k committee
completes-none m k all committee all-in up size = record {
  candidates = up;
  whole = λ n h. absurd cc;
  within = λ n h. all-in n (let low : 1 ≤ n = member-low 1 m committee n up h in omega arith) (member-high 1 m committee n up h);
  size = omega (arith, size);
}

-- a committee that none exceeds has the greatest value
pub best-found : (value : List ℕ → ℕ) (m k : ℕ) (committee : List ℕ) → k ≤ m → IsIncreasing 1 m committee → length committee ≡ k
    → IsBound value m 0 [] k (value committee) → value committee ≡ best_value value m k
best-found value m k committee fits up size none =
    let some = some_winner value m k fits in
    let winner = winner-is value m k some.0 some.1 in
    let most : value some.0 ≤ value committee = none some.0 winner.0 winner.1 in
    omega (arith, most, winner.2, no_greater_value value m k committee (increasing_lists-contains 1 m k committee (up, size)))
