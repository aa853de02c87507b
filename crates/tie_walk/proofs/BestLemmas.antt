-- From a good committee on to the greatest value.
use Rattle.std.proofs.lemmas.Grind.{common_steps}
use Rattle.std.proofs.Common.{◌≡◌, ℕ, ◌+◌, ◌-◌, ◌<◌, ◌≤◌, ◌∙◌, ◌⊎◌, true, false, List, [], ◌∷◌, ◌++◌, Option, None, Some, refl, sym, ap, subst, arith, inl, inr, length, map}
use Rattle.std.specs.Prelude.{nat_le, not}
use Rattle.std.specs.List.{AllByRecursion, range_with_len}
use Rattle.std.proofs.lemmas.List.Elements.{filter_passes, recursion_from_All}
use Rattle.std.proofs.lemmas.Bool.{and_from, cases_Bool, cases_eq, cases_lt, false≢true, leb-true}
use Rattle.ballot_base.specs.Lists.{IsIncreasing, increasing_lists}
use Rattle.ballot_base.specs.CandSet.{has_member, other_members, with_member}
use Rattle.ballot_base.proofs.Committees.{IsChosen, increasing_lists-chosen, increasing_lists-contains}
use Rattle.ballot_base.proofs.Increasing.{IsIncreasing-higher, IsIncreasing-lower, IsIncreasing-push, IsIncreasing-filter, IsIncreasing-with_member, has_member-below, has_member-filter, has_member_tail, length-with_member}
use Rattle.ballot_base.proofs.ListLemmas.{AllByRecursion-append}
use Rattle.tie_walk.specs.Ceilings.{IsBound}
use Rattle.tie_walk.specs.Steps.Walks.{committees_below, committees_after, committees_from, IsPlace, those_reaching}
use Rattle.tie_walk.specs.declared.walk.Prefix.{Prefix}
use Rattle.tie_walk.specs.Winners.{best_value}
use Rattle.tie_walk.proofs.WalkLemmas.{below-bounded, from-root}
use Rattle.tie_walk.proofs.LawLemmas.{IsIncreasing-range}
use Rattle.tie_walk.proofs.StepLemmas.{has_member-range}
use Rattle.tie_walk.proofs.WinnersLemmas.{greatest, greatest-low, greatest-most, greatest-next, greatest-first}

-- ---- the committees from a place on

joined : (first c m : ℕ) (set added : List ℕ) → first ≤ c + 1 → c ≤ m → IsIncreasing first c set → IsIncreasing (c + 1) m added → IsIncreasing first m (set ++ added)
joined first c m [] added low high up more = IsIncreasing-lower first (c + 1) m added low more
joined first c m (x ∷ set) added low high up more = (up.0, omega (arith, up.1, high), joined (x + 1) c m set added (omega (arith, up.1)) high up.2 more)

module _ (m k : ℕ) where
  below-candidates : (c : ℕ) (set : List ℕ) → c ≤ m → IsIncreasing 1 c set → AllByRecursion (IsIncreasing 1 m) (committees_below m k c set)
  below-candidates c set within up = each (increasing_lists (c + 1) m (k - length set)) (increasing_lists-chosen (c + 1) m (k - length set))
    where
      each : (lists : List (List ℕ)) → AllByRecursion (IsChosen (c + 1) m (k - length set)) lists → AllByRecursion (IsIncreasing 1 m) (map (λ l. set ++ l) lists)
      each [] all = tt
      each (l ∷ lists) all = (joined 1 c m set l (omega arith) within up all.0.0, each lists all.1)

  after-candidates : (last : ℕ) (front rest : List ℕ) → IsIncreasing 1 last front → IsIncreasing (last + 1) m rest → AllByRecursion (IsIncreasing 1 m) (committees_after m k front rest)
  after-candidates last front [] up more = tt
  after-candidates last front (n ∷ rest) up more =
      grind (arith, common_steps, after-candidates n (front ++ n ∷ []) rest (IsIncreasing-push 1 last front n up (omega (arith, more.0)) (omega (arith, more.0))) more.2, AllByRecursion-append, IsIncreasing-push, below-candidates, IsIncreasing-higher)

  pub from-candidates : (place : Option Prefix) → IsPlace m k place → AllByRecursion (IsIncreasing 1 m) (committees_from m k place)
  from-candidates None here = tt
  from-candidates (Some prefix) here =
      let all : IsIncreasing 1 m prefix.set = IsIncreasing-higher 1 prefix.c m prefix.set here.0 here.1 in
      AllByRecursion-append (IsIncreasing 1 m) (committees_below m k prefix.c prefix.set) (committees_after m k [] prefix.set)
      (below-candidates prefix.c prefix.set here.0 here.1) (after-candidates 0 [] prefix.set tt all)

-- the first that reaches the least value
pub first-reaching : (P : List ℕ → Type 0) (value : List ℕ → ℕ) (least : ℕ) (sets rest : List (List ℕ)) (set : List ℕ) → AllByRecursion P sets
    → those_reaching value least sets ≡ set ∷ rest → P set × (least ≤ value set)
first-reaching P value least [] rest set all is = absurd (cc)
first-reaching P value least (x ∷ sets) rest set all is = elim (cases_Bool (nat_le least (value x))) [
  | inl high ↦
      let here : x ∷ those_reaching value least sets ≡ set ∷ rest = rw high at is in
      let same : x ≡ set = cc in
      (subst P same all.0, subst (λ s. least ≤ value s) same (leb-true least (value x) high))
  | inr low ↦
      let later : those_reaching value least sets ≡ set ∷ rest = rw low at is in
      first-reaching P value least sets rest set all.1 later
]

-- ---- the greatest value

module _ (value : List ℕ → ℕ) (m k : ℕ) where
  -- that of any committee may come first
  pub greatest-good : (set : List ℕ) → IsIncreasing 1 m set → length set ≡ k → greatest value (value set) (increasing_lists 1 m k) ≡ best_value value m k
  greatest-good set up size = greatest-first value set (increasing_lists 1 m k) (increasing_lists-contains 1 m k set (up, size))

  -- none is above the bound of no decision
  pub best-most : (bound : ℕ) → IsBound value m 0 [] k bound → best_value value m k ≤ bound
  best-most bound law =
      let size : k ≡ k - length {A = ℕ} [] = omega arith in
      let all : AllByRecursion (λ s. value s ≤ bound) (committees_below m k 0 []) = below-bounded m k value 0 [] bound (subst (λ n. IsBound value m 0 [] n bound) size law) in
      greatest-most value 0 bound (increasing_lists 1 m k) (omega arith) (subst (AllByRecursion (λ s. value s ≤ bound)) (from-root m k) all)

  pub best-reached : (best bound : ℕ) (rest : List (List ℕ)) → greatest value best rest ≡ best_value value m k → IsBound value m 0 [] k bound → bound ≤ best → best ≡ best_value value m k
  best-reached best bound rest is law reached = omega (arith, is, greatest-low value best rest, best-most bound law, reached)

-- one more that was found is a committee above the greatest so far, and may take its place
pub greatest-found : (value : List ℕ → ℕ) (m k best floor : ℕ) (from rest : Option Prefix) (set : List ℕ) → IsPlace m k from
    → those_reaching value (floor + 1) (committees_from m k from) ≡ set ∷ those_reaching value (floor + 1) (committees_from m k rest)
    → greatest value floor (committees_from m k from) ≡ best
    → IsIncreasing 1 m set × (floor < value set) × (greatest value (value set) (committees_from m k rest) ≡ best)
greatest-found value m k best floor from rest set place next so_far =
    let here = first-reaching (IsIncreasing 1 m) value (floor + 1) (committees_from m k from) (those_reaching value (floor + 1) (committees_from m k rest)) set (from-candidates m k from place) next in
    let above : floor < value set = omega (arith, here.1) in
    (here.0, above, greatest-next value floor (committees_from m k from) (committees_from m k rest) set next above ∙ so_far)

-- ---- members

-- who has all candidates has as many
pub all-members : (first last : ℕ) (set : List ℕ) → IsIncreasing first last set → ((n : ℕ) → first ≤ n → n ≤ last → has_member set n ≡ true) → last + 1 ≤ first + length set
all-members first last [] up all = elim (cases_lt last first) [
  | inl none ↦ omega (arith, none)
  | inr some ↦ absurd (false≢true (all first (omega arith) some))
]
all-members first last (x ∷ set) up all = elim (cases_eq first x) [
  | inl same ↦
      let rest = all-members (x + 1) last set up.2 (λ n low high. sym (has_member_tail x n set (λ e. omega (arith, e, low))) ∙ all n (omega (arith, same, low)) high) in
      omega (arith, rest, same)
  | inr other ↦
      let out : has_member (x ∷ set) first ≡ false = has_member-below x last (x ∷ set) first (omega arith, up.1, up.2) (omega (arith, up.0, other)) in
      absurd (false≢true (sym out ∙ all first (omega arith) (omega (arith, up.0, up.1))))
]

-- there are others where there is room
others-some : (m : ℕ) (set : List ℕ) → IsIncreasing 1 m set → length set < m → other_members (range_with_len 1 m) set ≡ [] → ⊥
others-some m set up room none =
    let all = all-members 1 m set up (λ n low high. elim (cases_Bool (has_member set n)) [
      | inl inside ↦ inside
      | inr outside ↦
          let range = range_with_len 1 m in
          let is = has_member-filter (λ x. not (has_member set x)) range n ∙ and_from (not (has_member set n)) (has_member range n) (ap not outside) (has_member-range 1 m n low (omega (arith, high))) in
          absurd (false≢true (sym (ap (λ l. has_member l n) none) ∙ is))
    ]) in
    omega (arith, all, room)

-- the others that are left, and the set with one candidate more, unless all others are left
pub record IsGrowing (m : ℕ) (set : List ℕ) (best : ℕ) (grown left : List ℕ) : Type 0 where
  pub rises : IsIncreasing 1 m left
  pub others : AllByRecursion (λ n. not (has_member set n) ≡ true) left
  pub more : (IsIncreasing 1 m grown × (length grown ≡ length set + 1)) ⊎ ((best ≡ 0) × (left ≡ other_members (range_with_len 1 m) set))

pub growing-begun : (m : ℕ) (set grown : List ℕ) → IsGrowing m set 0 grown (other_members (range_with_len 1 m) set)
growing-begun m set grown =
    let test = λ (n : ℕ). not (has_member set n) in
    record {
      rises = IsIncreasing-filter test 1 m (range_with_len 1 m) (IsIncreasing-range 1 m m (omega arith));
      others = recursion_from_All (λ n. test n ≡ true) (other_members (range_with_len 1 m) set) (filter_passes test (range_with_len 1 m));
      more = inr (refl, refl);
    }

pub growing-kept : (m : ℕ) (set : List ℕ) (best value n : ℕ) (grown left rest : List ℕ) → left ≡ n ∷ rest → value < best → IsGrowing m set best grown left → IsGrowing m set best grown rest
growing-kept m set best value n grown left rest is low was =
    let next : IsGrowing m set best grown (n ∷ rest) = subst (IsGrowing m set best grown) is was in
    record {
      rises = IsIncreasing-lower 1 (n + 1) m rest (omega arith) next.rises.2;
      others = next.others.1;
      more = elim next.more [ inl more ↦ inl more | inr none ↦ absurd (omega (arith, low, none.0)) ];
    }

pub growing-found : (m : ℕ) (set : List ℕ) (best old n : ℕ) (more grown left rest : List ℕ) → left ≡ n ∷ rest → IsIncreasing 1 m set → more ≡ with_member set n
    → IsGrowing m set old grown left → IsGrowing m set best more rest
growing-found m set best old n more grown left rest is up found was =
    let next : IsGrowing m set old grown (n ∷ rest) = subst (IsGrowing m set old grown) is was in
    record {
      rises = IsIncreasing-lower 1 (n + 1) m rest (omega arith) next.rises.2;
      others = next.others.1;
      more = inl (grind (arith, common_steps, IsIncreasing-with_member, length-with_member, cases_Bool, next));
    }

pub growing-done : (m : ℕ) (set : List ℕ) (best : ℕ) (grown left : List ℕ) → IsIncreasing 1 m set → length set < m → left ≡ [] → IsGrowing m set best grown left
    → IsIncreasing 1 m grown × (length grown ≡ length set + 1)
growing-done m set best grown left up room none was = elim was.more [
  | inl more ↦ more
  | inr all ↦ absurd (others-some m set up room (sym all.1 ∙ none))
]
