-- Clones tie: where a candidate may be chosen, so may each clone of it that is as free, also at each other set with as
-- many of each class of clones.
use Rattle.std.proofs.lemmas.Grind.{common_steps}
use Rattle.std.proofs.Common.{◌≡◌, ℕ, zero, suc, ◌-◌, ◌<◌, ◌≤◌, ◌&&◌, ◌∙◌, true, false, not, List, [], sym, ap, arith, inl, inr}
use Rattle.std.specs.List.{list_all, range_with_len}
use Rattle.std.proofs.lemmas.Bool.{cases_Bool, and_parts, and_from, le-leb, leb-true, not-false}
use Rattle.ballot_base.specs.Lists.{IsIncreasing}
use Rattle.ballot_base.specs.CandSet.{has_member}
use Rattle.ballot_base.specs.Ballots.{Row}
use Rattle.ballot_base.specs.Clones.{are_clones, clones_among}
use Rattle.ballot_base.proofs.Increasing.{has_member-filter}
use Rattle.tie_walk.specs.Steps.Choices.{may_choose, change, worth, is_no_better, open_candidates, is_choice}
use Rattle.tie_walk.specs.declared.sequential.Step.{Step}
use Rattle.tie_walk.specs.declared.sequential.Step.TheVariants.{Grow, Shrink}
use Rattle.tie_walk.proofs.LawLemmas.{IsIncreasing-range}
use Rattle.tie_walk.proofs.LevelLemmas.{in_bounds}
use Rattle.tie_walk.proofs.RowSums.{AreBallots}
use Rattle.sequential_winners.specs.Steps.Levels.{picked, is_first_open, IsAhead, IsFalling}
use Rattle.sequential_winners.proofs.CloneLemmas.{clones-itself, clones-turned, clones-joined, clones-sameness}
use Rattle.sequential_winners.proofs.Lists.{all-at, all-from, all-pass, some-fails, open-is, open-from}
use Rattle.sequential_winners.proofs.Numbers.{bit, some-passes, member-counts, same-right}
use Rattle.sequential_winners.proofs.Picked.{count-open, count-change, count-undone, undone, IsUndone}
use Rattle.sequential_winners.proofs.RowLemmas.{no-better}

pub no_better-joined : (step : Step) (x y z : ℕ) → is_no_better step x y ≡ true → is_no_better step y z ≡ true → is_no_better step x z ≡ true
no_better-joined Grow x y z xy yz = le-leb x z (omega (arith, leb-true x y xy, leb-true y z yz))
no_better-joined Shrink x y z xy yz = le-leb z x (omega (arith, leb-true y x xy, leb-true z y yz))

module _ (step : Step) (weights : List ℕ) (m : ℕ) (rows : List Row) where
  pub choice-open : (set : List ℕ) (c : ℕ) → is_choice step weights m rows set c ≡ true → has_member (open_candidates step m set) c ≡ true
  choice-open set c is = (and_parts (has_member (open_candidates step m set) c) (list_all (λ d. is_no_better step (worth step weights rows set d) (worth step weights rows set c)) (open_candidates step m set)) is).0

  pub choice-best : (set : List ℕ) (c d : ℕ) → is_choice step weights m rows set c ≡ true → has_member (open_candidates step m set) d ≡ true
      → is_no_better step (worth step weights rows set d) (worth step weights rows set c) ≡ true
  choice-best set c d is free = grind (arith, common_steps, all-at, and_parts, is, free)

  pub choice-from : (set : List ℕ) (c : ℕ) → has_member (open_candidates step m set) c ≡ true
      → ((d : ℕ) → has_member (open_candidates step m set) d ≡ true → is_no_better step (worth step weights rows set d) (worth step weights rows set c) ≡ true)
      → is_choice step weights m rows set c ≡ true
  choice-from set c free each = grind (arith, common_steps, and_from, free, all-from)

  -- where fewer of each class are picked, a clone of each who may be chosen may be chosen too
  pub open-moves : (set other : List ℕ) (c : ℕ) → IsIncreasing 1 m set → IsIncreasing 1 m other → IsAhead step m rows other set
      → has_member (open_candidates step m set) c ≡ true → (d : ℕ) × (has_member (open_candidates step m other) d ≡ true) × (are_clones rows c d ≡ true)
  open-moves set other c up up' ahead free =
      some-passes (are_clones rows c) (open_candidates step m other)
      (omega (
        arith,
        ahead c,
        count-open step (are_clones rows c) m set up,
        count-open step (are_clones rows c) m other up',
        member-counts (are_clones rows c) (open_candidates step m set) c free (clones-itself rows c),
      ))

  -- clones that are chosen leave as many of each class
  pub change-ahead : (set other : List ℕ) (c d : ℕ) → IsIncreasing 1 m set → IsIncreasing 1 m other → has_member (open_candidates step m set) c ≡ true → has_member (open_candidates step m other) d ≡ true
      → are_clones rows c d ≡ true → IsAhead step m rows set other → IsAhead step m rows (change step set c) (change step other d)
  change-ahead set other c d up up' free free' cd ahead x =
      omega (
        arith,
        ahead x,
        count-change step (are_clones rows x) m set c up free,
        count-change step (are_clones rows x) m other d up' free',
        ap bit (same-right (are_clones rows) (clones-sameness rows) c d x cd),
      )

  -- a set with as many of each class as one that a choice has made is made by a clone of the choice
  pub clone-undone : (set : List ℕ) (c : ℕ) (made : List ℕ) → IsIncreasing 1 m set → IsIncreasing 1 m made → has_member (open_candidates step m set) c ≡ true
      → IsAhead step m rows (change step set c) made → IsAhead step m rows made (change step set c)
      → (d : ℕ) × (are_clones rows c d ≡ true) × (u : IsUndone step m made d) × IsAhead step m rows set u.old × IsAhead step m rows u.old set
  clone-undone set c made up up' free ahead behind =
      let more = λ (x : ℕ). count-change step (are_clones rows x) m set c up free in
      let d = some-passes (are_clones rows c) (picked step m made) (omega (arith, ahead c, more c, ap bit (clones-itself rows c))) in
      let u = undone step m made d.0 up' d.1 in
      let less = λ (x : ℕ). count-undone step (are_clones rows x) m made d.0 u in
      let same = λ (x : ℕ). ap bit (same-right (are_clones rows) (clones-sameness rows) c d.0 x d.2) in
      (d.0, d.2, u, λ x. omega (arith, ahead x, more x, less x, same x), λ x. omega (arith, behind x, more x, less x, same x))

  module _ (ballots : AreBallots m rows) (falls : IsFalling weights) where
    -- where more of each class are picked, a clone is no better
    pub no-better-ahead : (set other : List ℕ) (c d : ℕ) → IsIncreasing 1 m set → IsIncreasing 1 m other → IsAhead step m rows set other → are_clones rows c d ≡ true
        → has_member (open_candidates step m other) d ≡ true → is_no_better step (worth step weights rows other d) (worth step weights rows set c) ≡ true
    no-better-ahead set other c d up up' ahead cd free =
        no-better m rows weights set other c d step [] [] ballots falls
        (record {
          up = up;
          up' = up';
          clones = cd;
          free = free;
          within = λ e. omega (arith, ahead e);
        })
        (all-pass (λ (row : Row). has_member row.0 d ≡ true → 0 ≤ 0) rows (λ row approved. omega arith))

    -- a clone of a tied candidate ties, at each set with as many of each class
    pub choice-moves : (set other : List ℕ) (c d : ℕ) → IsIncreasing 1 m set → IsIncreasing 1 m other → IsAhead step m rows set other → IsAhead step m rows other set
        → is_choice step weights m rows set c ≡ true → are_clones rows c d ≡ true → has_member (open_candidates step m other) d ≡ true → is_choice step weights m rows other d ≡ true
    choice-moves set other c d up up' ahead behind is cd free =
        let back = no-better-ahead other set d c up' up behind (clones-turned rows c d cd) (choice-open set c is) in
        choice-from other d free
        (λ e free'.
        let f = open-moves other set e up' up ahead free' in
        let far = no-better-ahead set other f.0 e up up' ahead (clones-turned rows e f.0 f.2) free' in
        no_better-joined step (worth step weights rows other e) (worth step weights rows set c) (worth step weights rows other d)
        (no_better-joined step (worth step weights rows other e) (worth step weights rows set f.0) (worth step weights rows set c) far (choice-best set c f.0 is f.1)) back)

    -- a lower clone that is free ties too
    lower-tied : (set : List ℕ) (c : ℕ) → IsIncreasing 1 m set → is_choice step weights m rows set c ≡ true → is_first_open step (clones_among m rows c) set c ≡ false
        → (d : ℕ) × (d < c) × (is_choice step weights m rows set d ≡ true) × (are_clones rows c d ≡ true)
    lower-tied set c up is later =
        let some = some-fails (λ d. not (has_member (clones_among m rows c) d && may_choose step set d)) (range_with_len 1 (c - 1)) later in
        let d : ℕ = some.0 in
        let bounds = in_bounds (c - 1) (range_with_len 1 (c - 1)) d (IsIncreasing-range 1 (c - 1) (c - 1) (omega arith)) some.1 in
        let parts = and_parts (has_member (clones_among m rows c) d) (may_choose step set d) (not-false (has_member (clones_among m rows c) d && may_choose step set d) some.2) in
        let among = and_parts (are_clones rows c d) (has_member (range_with_len 1 m) d) (sym (has_member-filter (are_clones rows c) (range_with_len 1 m) d) ∙ parts.0) in
        let within = in_bounds m (range_with_len 1 m) d (IsIncreasing-range 1 m m (omega arith)) among.1 in
        let free = open-from step m set d within.0 within.1 parts.1 in
        (d, omega (arith, bounds.0, bounds.1), choice-moves set set c d up up (λ x. omega arith) (λ x. omega arith) is among.0 free, among.0)

    -- of clones that tie there is a first one
    first-below : (n : ℕ) (set : List ℕ) (c : ℕ) → c ≤ n → IsIncreasing 1 m set → is_choice step weights m rows set c ≡ true
        → (d : ℕ) × (is_choice step weights m rows set d ≡ true) × (is_first_open step (clones_among m rows d) set d ≡ true) × (are_clones rows c d ≡ true)
    first-below zero set c most up is = absurd (omega (arith, most, (open-is step m set c (choice-open set c is)).0.0))
    first-below (suc n) set c most up is = elim (cases_Bool (is_first_open step (clones_among m rows c) set c)) [
      | inl first ↦ (c, is, first, clones-itself rows c)
      | inr later ↦
          let d = lower-tied set c up is later in
          let e = first-below n set d.0 (omega (arith, most, d.1)) up d.2 in
          (e.0, e.1, e.2, clones-joined rows c d.0 e.0 d.3 e.3)
    ]

    pub first-tied : (set : List ℕ) (c : ℕ) → IsIncreasing 1 m set → is_choice step weights m rows set c ≡ true
        → (d : ℕ) × (is_choice step weights m rows set d ≡ true) × (is_first_open step (clones_among m rows d) set d ≡ true) × (are_clones rows c d ≡ true)
    first-tied set c up is = first-below c set c (omega arith) up is
