-- The levels of the sequential rules: what they have, and that the last one has the winners.
use Rattle.std.proofs.lemmas.Grind.{common_steps}
use Rattle.std.proofs.Common.{◌≡◌, ℕ, zero, suc, ◌+◌, ◌≤◌, ◌==◌, Bool, true, false, not, List, [], ◌∷◌, sym, ◌∙◌, subst, arith, filter, Contains}
use Rattle.std.specs.List.{range_with_len}
use Rattle.std.specs.List.Sorted.{IsStrictlySortedBy}
use Rattle.std.proofs.lemmas.Bool.{cases_lt, and_parts}
use Rattle.ballot_base.specs.Lists.{IsIncreasing}
use Rattle.ballot_base.specs.CandSet.{has_member}
use Rattle.ballot_base.specs.Ballots.{Row}
use Rattle.ballot_base.proofs.Increasing.{IsIncreasing-filter, IsIncreasing-with_member, has_member-below, has_member-above, has_member-filter}
use Rattle.ballot_base.proofs.ListLemmas.{Contains-map, Contains-from_map, Contains-from_flat_map}
use Rattle.tie_walk.specs.Steps.Choices.{may_choose, change, open_candidates, is_choice, changes, IsNextLevel, start, follows, IsReached, IsLevel}
use Rattle.tie_walk.specs.declared.sequential.Step.{Step}
use Rattle.tie_walk.specs.declared.sequential.Step.TheVariants.{Grow, Shrink}
use Rattle.tie_walk.proofs.LawLemmas.{passes-from_filter, Contains-filter, IsIncreasing-range}
use Rattle.tie_walk.proofs.Choices.{AreCandidates, Contains-flat_map, Contains-range, reached_none, reached_start, reached_more, reached_last}

-- ---- what a change makes of a set

change-increasing : (step : Step) (m : ℕ) (set : List ℕ) (c : ℕ) → 1 ≤ c → c ≤ m → IsIncreasing 1 m set → IsIncreasing 1 m (change step set c)
change-increasing Grow m set c low high up = IsIncreasing-with_member 1 m set c low high up
change-increasing Shrink m set c low high up = IsIncreasing-filter (λ x. not (x == c)) 1 m set up

-- ---- choices are candidates

pub both_false : (b : Bool) → b ≡ false → b ≡ true → ⊥
both_false b left right = let e : false ≡ true = sym left ∙ right in cc

pub in_bounds : (m : ℕ) (set : List ℕ) (c : ℕ) → IsIncreasing 1 m set → has_member set c ≡ true → (1 ≤ c) × (c ≤ m)
in_bounds m set c up inside = grind (arith, common_steps, cases_lt, both_false, has_member-below, has_member-above)

module _ (step : Step) (weights : List ℕ) (m : ℕ) (rows : List Row) where
  pub choice-parts : (set : List ℕ) (c : ℕ) → is_choice step weights m rows set c ≡ true → ((1 ≤ c) × (c ≤ m)) × (may_choose step set c ≡ true)
  choice-parts set c is =
      let all = open_candidates step m set in
      let inside = (and_parts (has_member all c) _ is).0 in
      let parts = and_parts (may_choose step set c) (has_member (range_with_len 1 m) c) (sym (has_member-filter (may_choose step set) (range_with_len 1 m) c) ∙ inside) in
      (in_bounds m (range_with_len 1 m) c (IsIncreasing-range 1 m m (omega arith)) parts.1, parts.0)

  pub followed-candidates : (set list : List ℕ) → follows (is_choice step weights m rows) (change step) set list ≡ true → AreCandidates m list
  followed-candidates set [] made = tt
  followed-candidates set (c ∷ list) made =
      let parts = and_parts (is_choice step weights m rows set c) (follows (is_choice step weights m rows) (change step) (change step set c) list) made in
      ((choice-parts set c parts.0).0, followed-candidates (change step set c) list parts.1)

  start-increasing : IsIncreasing 1 m (start step m)
  start-increasing = grind (arith, common_steps, IsIncreasing-range)

  pub reached-increasing : (size : ℕ) (set : List ℕ) → IsReached (is_choice step weights m rows) (change step) (start step m) size set → IsIncreasing 1 m set
  reached-increasing zero set r = subst (λ s. IsIncreasing 1 m s) (sym (reached_start (is_choice step weights m rows) (change step) (start step m) set r)) start-increasing
  reached-increasing (suc size) set r =
      let last = reached_last (is_choice step weights m rows) (change step) (start step m) size set (subst (λ n. IsReached (is_choice step weights m rows) (change step) (start step m) n set) (omega arith) r) in
      let candidate = (choice-parts last.old last.choice last.allowed).0 in
      subst (λ s. IsIncreasing 1 m s) last.is (change-increasing step m last.old last.choice candidate.0 candidate.1 (reached-increasing size last.old last.reached))

  -- ---- the next level

  changes-parts : (set made : List ℕ) → Contains (changes step weights m rows set) made → (c : ℕ) × (is_choice step weights m rows set c ≡ true) × (change step set c ≡ made)
  unfolding changes
  changes-parts set made inside =
      let some = Contains-from_map (change step set) (filter (is_choice step weights m rows set) (range_with_len 1 m)) made inside in
      (some.0, passes-from_filter (is_choice step weights m rows set) (range_with_len 1 m) some.0 some.1, some.2)

  changes-contains : (set : List ℕ) (c : ℕ) → is_choice step weights m rows set c ≡ true → Contains (changes step weights m rows set) (change step set c)
  unfolding changes
  changes-contains set c is =
      let candidate = (choice-parts set c is).0 in
      Contains-map (change step set) (filter (is_choice step weights m rows set) (range_with_len 1 m)) c
      (Contains-filter (is_choice step weights m rows set) (range_with_len 1 m) c (Contains-range m c candidate.0 candidate.1) is)

  pub level-next : (size : ℕ) (sets next : List (List ℕ)) → IsLevel step weights m rows size sets → IsNextLevel step weights m rows sets next → IsLevel step weights m rows (size + 1) next
  level-next size sets next level made = record {
    order = made.order;
    members = λ set. (
      λ inside.
          let some = Contains-from_flat_map (changes step weights m rows) sets set ((made.members set).0 inside) in
          let parts = changes-parts some.0 set some.2 in
          subst (λ s. IsReached (is_choice step weights m rows) (change step) (start step m) (size + 1) s) parts.2
          (reached_more (is_choice step weights m rows) (change step) (start step m) size some.0 parts.0 ((level.members some.0).0 some.1) parts.1),
      λ reached.
          let last = reached_last (is_choice step weights m rows) (change step) (start step m) size set reached in
          let here : Contains (changes step weights m rows last.old) set = subst (λ s. Contains (changes step weights m rows last.old) s) last.is (changes-contains last.old last.choice last.allowed) in
          (made.members set).1 (Contains-flat_map (changes step weights m rows) sets last.old set ((level.members last.old).1 last.reached) here),
    );
  }

  pub level-first : (sets : List (List ℕ)) → sets ≡ start step m ∷ [] → IsLevel step weights m rows 0 sets
  unfolding IsStrictlySortedBy
  level-first sets is = grind (arith, common_steps, reached_none, reached_start)
