-- The choices that lead from a set to another one.
use Rattle.std.proofs.lemmas.Grind.{common_steps}
use Rattle.std.proofs.Common.{◌≡◌, ℕ, zero, suc, ◌+◌, ◌-◌, ◌≤◌, not, ◌∙◌, Bool, true, List, [], ◌∷◌, refl, sym, ap, subst, arith, inl, inr, filter, length}
use Rattle.std.specs.Prelude.{fold}
use Rattle.std.specs.List.{range_with_len}
use Rattle.std.proofs.lemmas.Bool.{cases_Bool, cases_lt, and_parts}
use Rattle.ballot_base.specs.Lists.{IsIncreasing}
use Rattle.ballot_base.specs.CandSet.{has_member}
use Rattle.ballot_base.specs.Ballots.{Row}
use Rattle.ballot_base.specs.Clones.{are_clones}
use Rattle.tie_walk.specs.Steps.Choices.{change, follows, is_choice, open_candidates, start}
use Rattle.tie_walk.specs.declared.sequential.Step.{Step}
use Rattle.tie_walk.specs.declared.sequential.Step.TheVariants.{Grow, Shrink}
use Rattle.tie_walk.proofs.Choices.{reached_none, reached_more, reached_last}
use Rattle.tie_walk.proofs.LevelLemmas.{reached-increasing}
use Rattle.tie_walk.proofs.RowSums.{AreBallots}
use Rattle.tie_walk.proofs.SequenceLemmas.{IsSized, reached-sized}
use Rattle.sequential_winners.specs.Steps.Levels.{picked, chosen, IsAhead, IsFalling, IsReachedBy, IsAlike, LeadsTo}
use Rattle.sequential_winners.proofs.CloneLemmas.{clones-turned, clones-joined, clones-sameness}
use Rattle.sequential_winners.proofs.Lists.{members-of}
use Rattle.sequential_winners.proofs.Numbers.{bit, some-more, some-passes, length-within, count-class, within-turned}
use Rattle.sequential_winners.proofs.Picked.{chosen-left, count-open, change-increasing, count-change, chosen-change}
use Rattle.sequential_winners.proofs.SpanLemmas.{IsSpan}
use Rattle.sequential_winners.proofs.TiedClones.{open-moves, change-ahead, clone-undone, choice-open, choice-moves}

pub reached-chosen : (step : Step) (weights : List ℕ) (m : ℕ) (rows : List Row) (size : ℕ) (set : List ℕ) → IsReachedBy step weights m rows size set → chosen step m set ≡ size
reached-chosen step weights m rows size set r =
    by step (reached-increasing step weights m rows size set r) (reached-sized step weights m rows size set r)
  where
    by : (s : Step) → IsIncreasing 1 m set → IsSized s m size set → chosen s m set ≡ size
    by Grow up sized = sized
    by Shrink up sized = omega (arith, sized, chosen-left m set up)

-- as many choices lead no further
pub ahead-turned : (step : Step) (m : ℕ) (rows : List Row) (x y : List ℕ) → chosen step m y ≤ chosen step m x → IsAhead step m rows x y → IsAhead step m rows y x
ahead-turned step m rows x y most ahead = within-turned (are_clones rows) (clones-sameness rows) (picked step m x) (picked step m y) ahead most

-- further on, no fewer choices were made
pub chosen-ahead : (step : Step) (m : ℕ) (rows : List Row) (x y : List ℕ) → IsAhead step m rows x y → chosen step m x ≤ chosen step m y
chosen-ahead step m rows x y ahead = length-within (are_clones rows) (clones-sameness rows) (picked step m x) (picked step m y) ahead

-- choices lead further on
module _ (step : Step) (weights : List ℕ) (m : ℕ) (rows : List Row) where
  pub leads-ahead : (n : ℕ) (made now : List ℕ) → IsIncreasing 1 m now → LeadsTo step weights m rows made n now → IsAhead step m rows now made
  leads-ahead zero made now up leads = leads.0
  leads-ahead (suc n) made now up leads =
      let c : ℕ = leads.0 in
      let free = choice-open step weights m rows now c leads.1 in λ x.
      omega (arith, leads-ahead n made (change step now c) (change-increasing step m now c up free) leads.2 x, count-change step (are_clones rows x) m now c up free)

-- ---- the choices that lead to a set

module _ (step : Step) (weights : List ℕ) (m : ℕ) (rows : List Row) (ballots : AreBallots m rows) (falls : IsFalling weights) where
  -- the same choices, of clones, lead on from a set with as many of each class
  pub leads-moved : (n : ℕ) (made set other : List ℕ) → IsIncreasing 1 m set → IsIncreasing 1 m other → IsAlike step weights m rows set other → LeadsTo step weights m rows made n set
      → LeadsTo step weights m rows made n other
  leads-moved zero made set other up up' alike leads = (λ x. omega (arith, alike.1 x, leads.0 x), λ x. omega (arith, alike.0 x, leads.1 x))
  leads-moved (suc n) made set other up up' alike leads =
      let c : ℕ = leads.0 in
      let free = choice-open step weights m rows set c leads.1 in
      let d = open-moves step weights m rows set other c up up' alike.1 free in (
        d.0,
        choice-moves step weights m rows ballots falls set other c d.0 up up' alike.0 alike.1 leads.1 d.2 d.1,
        leads-moved n made (change step set c) (change step other d.0) (change-increasing step m set c up free) (change-increasing step m other d.0 up' d.1) (
          change-ahead step weights m rows set other c d.0 up up' free d.1 d.2 alike.0,
          change-ahead step weights m rows other set d.0 c up' up d.1 free (clones-turned rows c d.0 d.2) alike.1,
        )
            leads.2,
      )

  pub leads-joined : (a b : ℕ) (set middle made : List ℕ) → IsIncreasing 1 m set → IsIncreasing 1 m middle → LeadsTo step weights m rows middle a set → LeadsTo step weights m rows made b middle
      → LeadsTo step weights m rows made (a + b) set
  leads-joined zero b set middle made up up' first then =
      let e : b ≡ 0 + b = omega arith in
      subst (λ n. LeadsTo step weights m rows made n set) e (leads-moved b made middle set up' up (first.1, first.0) then)
  leads-joined (suc a) b set middle made up up' first then =
      let e : suc (a + b) ≡ suc a + b = omega arith in
      subst (λ n. LeadsTo step weights m rows made n set) e
      ((first.0, first.1, leads-joined a b (change step set first.0) middle made (change-increasing step m set first.0 up (choice-open step weights m rows set first.0 first.1)) up' first.2 then))

  -- a set with as many of each class as a reached one is reached
  alike-reached : (n : ℕ) (set made : List ℕ) → IsReachedBy step weights m rows n set → IsIncreasing 1 m made → IsAlike step weights m rows set made → IsReachedBy step weights m rows n made
  alike-reached zero set made r up alike =
      subst (IsReachedBy step weights m rows 0)
      (first-made step m made (omega (arith, chosen-ahead step m rows made set alike.1, reached-chosen step weights m rows 0 set r)) up) (reached_none (is_choice step weights m rows) (change step) (start step m))
    where
      none-fail : (p : ℕ → Bool) (xs : List ℕ) → length (filter (λ x. not (p x)) xs) ≡ 0 → filter p xs ≡ xs
      none-fail p [] none = refl
      none-fail p (x ∷ xs) none = grind (arith, common_steps, cases_Bool, none-fail p xs, filter, not)

      first-made : (step : Step) (m : ℕ) (made : List ℕ) → chosen step m made ≡ 0 → IsIncreasing 1 m made → start step m ≡ made
      first-made Grow m [] none up = refl
      first-made Grow m (x ∷ xs) none up = absurd (omega (arith, none))
      first-made Shrink m made none up = sym (none-fail (has_member made) (range_with_len 1 m) none) ∙ members-of m made up
  alike-reached (suc n) set made r up alike =
      let last = reached_last (is_choice step weights m rows) (change step) (start step m) n set (subst (λ i. IsReachedBy step weights m rows i set) (omega arith) r) in
      let old : List ℕ = last.old in
      let c : ℕ = last.choice in
      let old-up = reached-increasing step weights m rows n old last.reached in
      let free = choice-open step weights m rows old c last.allowed in
      let u = clone-undone step weights m rows old c made old-up up free (subst (λ s. IsAhead step m rows s made) (sym last.is) alike.0) (subst (IsAhead step m rows made) (sym last.is) alike.1) in
      let e : n + 1 ≡ suc n = omega arith in
      subst (λ i. IsReachedBy step weights m rows i made) e
      (subst (IsReachedBy step weights m rows (n + 1)) u.2.is
      (reached_more (is_choice step weights m rows) (change step) (start step m) n u.2.old u.0 (alike-reached n old u.2.old last.reached u.2.increasing (u.3, u.4))
      (choice-moves step weights m rows ballots falls old u.2.old c u.0 old-up u.2.increasing u.3 u.4 last.allowed u.1 u.2.free)))

  -- what choices lead to from a reached set is reached
  pub leads-reached : (n size : ℕ) (set made : List ℕ) → IsReachedBy step weights m rows size set → IsIncreasing 1 m made → LeadsTo step weights m rows made n set → IsReachedBy step weights m rows (size + n) made
  leads-reached zero size set made r up leads =
      let e : size ≡ size + 0 = omega arith in
      subst (λ i. IsReachedBy step weights m rows i made) e (alike-reached size set made r up leads)
  leads-reached (suc n) size set made r up leads =
      let e : size + 1 + n ≡ size + suc n = omega arith in
      subst (λ i. IsReachedBy step weights m rows i made) e
      (leads-reached n (size + 1) (change step set leads.0) made (reached_more (is_choice step weights m rows) (change step) (start step m) size set leads.0 r leads.1) up leads.2)

  list-leads : (list set : List ℕ) → follows (is_choice step weights m rows) (change step) set list ≡ true → LeadsTo step weights m rows (fold (change step) set list) (length list) set
  list-leads [] set made = (λ x. omega arith, λ x. omega arith)
  list-leads (c ∷ list) set made =
      let parts = and_parts (is_choice step weights m rows set c) (follows (is_choice step weights m rows) (change step) (change step set c) list) made in
      let e : suc (length list) ≡ length (c ∷ list) = omega arith in
      subst (λ n. LeadsTo step weights m rows (fold (change step) (change step set c) list) n set) e (c, parts.0, list-leads list (change step set c) parts.1)

  pub reached-leads : (n : ℕ) (made : List ℕ) → IsReachedBy step weights m rows n made → LeadsTo step weights m rows made n (start step m)
  reached-leads n made r =
      subst (λ s. LeadsTo step weights m rows s n (start step m)) r.ends
      (subst (λ i. LeadsTo step weights m rows (fold (change step) (start step m) r.list) i (start step m)) r.long (list-leads r.list (start step m) r.made))

  -- ---- between a set and its end

  -- choices lead to each set between, if those may be made that lead no further
  module _ (set last : List ℕ) (may : (made : List ℕ) (c : ℕ) → IsIncreasing 1 m made → IsAhead step m rows set made → has_member (open_candidates step m made) c ≡ true → IsAhead step m rows (change step made c) last → is_choice step weights m rows made c ≡ true) where
    pub may-leads : (n : ℕ) (made now : List ℕ) → IsIncreasing 1 m now → IsIncreasing 1 m made → IsAhead step m rows set now → IsAhead step m rows now made → IsAhead step m rows made last
        → chosen step m made ≡ chosen step m now + n → LeadsTo step weights m rows made n now
    may-leads zero made now up up' from ahead until sized = (ahead, ahead-turned step m rows now made (omega (arith, sized)) ahead)
    may-leads (suc n) made now up up' from ahead until sized =
        let t = some-more (are_clones rows) (clones-sameness rows) (picked step m now) (picked step m made) (omega (arith, sized)) in
        let c = some-passes (are_clones rows t.0) (open_candidates step m now)
        (omega (arith, t.2, count-open step (are_clones rows t.0) m now up, count-open step (are_clones rows t.0) m made up')) in
        let more = λ (x : ℕ). count-change step (are_clones rows x) m now c.0 up c.1 in
        let next : IsAhead step m rows (change step now c.0) made = λ x. elim (cases_Bool (are_clones rows x c.0)) [
          | inl same ↦
              let xt = clones-joined rows x c.0 t.0 same (clones-turned rows t.0 c.0 c.2) in
              omega (
                arith,
                t.2,
                more x,
                ap bit same,
                count-class (are_clones rows) (clones-sameness rows) x t.0 (picked step m now) xt,
                count-class (are_clones rows) (clones-sameness rows) x t.0 (picked step m made) xt,
              )
          | inr other ↦ omega (arith, ahead x, more x, ap bit other)
        ] in (
          c.0,
          may now c.0 up from c.1 (λ x. omega (arith, next x, until x)),
          may-leads n made (change step now c.0) (change-increasing step m now c.0 up c.1) up' (λ x. omega (arith, from x, more x)) next until
              (omega (arith, sized, chosen-change step m now c.0 up c.1)),
        )

  module _ (set last : List ℕ) (span : IsSpan step weights m rows set last) where
    pub span-leads : (n : ℕ) (made now : List ℕ) → IsIncreasing 1 m now → IsIncreasing 1 m made → IsAhead step m rows set now → IsAhead step m rows now made → IsAhead step m rows made last
        → chosen step m made ≡ chosen step m now + n → LeadsTo step weights m rows made n now
    span-leads n made now up up' from ahead until sized = may-leads set last span.may n made now up up' from ahead until sized

    -- choices that end before the end lead to a set between
    pub leads-within : (n : ℕ) (made now : List ℕ) → IsIncreasing 1 m now → IsAhead step m rows set now → IsAhead step m rows now last → chosen step m now + n ≤ chosen step m last
        → LeadsTo step weights m rows made n now → IsAhead step m rows set made × IsAhead step m rows made last
    leads-within zero made now up from until few leads = (λ x. omega (arith, from x, leads.0 x), λ x. omega (arith, until x, leads.1 x))
    leads-within (suc n) made now up from until few leads =
        let c : ℕ = leads.0 in
        let free = choice-open step weights m rows now c leads.1 in
        leads-within n made (change step now c) (change-increasing step m now c up free) (λ x. omega (arith, from x, count-change step (are_clones rows x) m now c up free))
        (span.stays now c up from until (omega (arith, few)) leads.1) (omega (arith, few, chosen-change step m now c up free)) leads.2

    -- choices that go past the end lead through it
    at-last : (n : ℕ) (made now : List ℕ) → IsIncreasing 1 m now → IsAhead step m rows now last → chosen step m last ≤ chosen step m now → LeadsTo step weights m rows made n now
        → LeadsTo step weights m rows made (chosen step m now + n - chosen step m last) last
    at-last n made now up until over leads =
        let e : n ≡ chosen step m now + n - chosen step m last = omega (arith, over, chosen-ahead step m rows now last until) in
        subst (λ i. LeadsTo step weights m rows made i last) e (leads-moved n made now last up span.increasing (until, ahead-turned step m rows now last over until) leads)

    pub leads-past : (n : ℕ) (made now : List ℕ) → IsIncreasing 1 m now → IsAhead step m rows set now → IsAhead step m rows now last → chosen step m last ≤ chosen step m now + n
        → LeadsTo step weights m rows made n now → LeadsTo step weights m rows made (chosen step m now + n - chosen step m last) last
    leads-past zero made now up from until many leads = at-last zero made now up until (omega (arith, many)) leads
    leads-past (suc i) made now up from until many leads = elim (cases_lt (chosen step m now) (chosen step m last)) [
      | inl less ↦
          let c : ℕ = leads.0 in
          let free = choice-open step weights m rows now c leads.1 in
          let one = chosen-change step m now c up free in
          let e : chosen step m (change step now c) + i - chosen step m last ≡ chosen step m now + suc i - chosen step m last = omega (arith, one) in
          subst (λ j. LeadsTo step weights m rows made j last) e
          (leads-past i made (change step now c) (change-increasing step m now c up free) (λ x. omega (arith, from x, count-change step (are_clones rows x) m now c up free)) (span.stays now c up from until less leads.1)
          (omega (arith, many, one)) leads.2)
      | inr over ↦ at-last (suc i) made now up until over leads
    ]
