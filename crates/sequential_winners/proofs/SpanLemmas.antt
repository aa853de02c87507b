-- Where choices may be made in any order: exactly those are made that lead no further than to the end.
use Rattle.std.proofs.lemmas.Grind.{common_steps}
use Rattle.std.proofs.Common.{◌≡◌, ℕ, is_some, ◌+◌, ◌<◌, ◌≤◌, ◌==◌, ◌&&◌, ◌^◌, ◌-◌, ◌∙◌, Bool, true, false, cond, List, [], ◌∷◌, Some, None, refl, sym, ap, subst, arith, inl, inr, length, count_by}
use Rattle.std.specs.Prelude.{fold, nat_le, nat_lt}
use Rattle.std.specs.List.{list_all, range_with_len}
use Rattle.std.proofs.lemmas.Bool.{cases_Bool, cases_lt, and_parts, and_from, both_ways, le-leb, leb-true, ltb-true, eqb-true, or_right}
use Rattle.std.proofs.lemmas.List.FromFn.{length-range_with_len}
use Rattle.ballot_base.specs.Lists.{IsIncreasing}
use Rattle.ballot_base.specs.CandSet.{has_member, without_member}
use Rattle.ballot_base.specs.Ballots.{Row, hits}
use Rattle.ballot_base.specs.Clones.{are_clones, clones_among}
use Rattle.ballot_base.proofs.Increasing.{IsIncreasing-filter, has_member-filter, has_member_head, has_member-below}
use Rattle.tie_walk.specs.Sequences.{gain, loss, others}
use Rattle.tie_walk.specs.Steps.Choices.{change, is_choice, is_no_better, open_candidates, worth}
use Rattle.tie_walk.specs.declared.sequential.Step.{Step}
use Rattle.tie_walk.specs.declared.sequential.Step.TheVariants.{Grow, Shrink}
use Rattle.tie_walk.proofs.LawLemmas.{IsIncreasing-range}
use Rattle.tie_walk.proofs.LevelLemmas.{choice-parts}
use Rattle.tie_walk.proofs.RowSums.{AreBallots}
use Rattle.tie_walk.proofs.StepLemmas.{has_member-range, lowest, bounds-lowest}
use Rattle.tie_walk.proofs.WinnersLemmas.{greatest, bounds-greatest}
use Rattle.sequential_winners.specs.Clones.{clone_count}
use Rattle.sequential_winners.specs.Steps.Levels.{tied_worth, end_or, is_first_open, is_settled, ties, shares_no_voter, is_independent, end, picked, chosen, IsAhead, IsFalling}
use Rattle.sequential_winners.proofs.CloneLemmas.{clones-itself, clones-turned, clones-joined, clones-sameness, hits-members}
use Rattle.sequential_winners.proofs.Lists.{all-at, all-pass, count-others}
use Rattle.sequential_winners.proofs.Numbers.{bit, some-passes, some-more, member-counts, count-cons, count-class, count-without, length-sum}
use Rattle.sequential_winners.proofs.Picked.{count-open, change-increasing, count-change, open-stays}
use Rattle.sequential_winners.proofs.RowLemmas.{each-row, few-of, worse, no-better}
use Rattle.sequential_winners.proofs.TiedClones.{no_better-joined, no-better-ahead, open-moves, choice-from, choice-best, choice-open, first-tied}

-- ---- the set after all of some choices

pub changed-all : (step : Step) (m first : ℕ) (set added : List ℕ) → IsIncreasing 1 m set → IsIncreasing first m added
    → ((c : ℕ) → has_member added c ≡ true → has_member (open_candidates step m set) c ≡ true)
    → IsIncreasing 1 m (fold (change step) set added) × ((p : ℕ → Bool) → count_by p (picked step m (fold (change step) set added)) ≡ count_by p (picked step m set) + count_by p added)
changed-all step m first set [] up up' free = (up, λ p. omega arith)
changed-all step m first set (x ∷ added) up up' free =
    let here = free x (has_member_head x added) in
    let rest = changed-all step m (x + 1) (change step set x) added (change-increasing step m set x up here) up'.2 (λ c inside.
    let later : c ≡ x → ⊥ = λ e. both_ways (has_member added c) (has_member-below (x + 1) m added c up'.2 (omega (arith, e))) inside in
    open-stays step m set x c later (free c (or_right (x == c) (has_member added c) inside))) in
    (rest.0, λ p. omega (arith, rest.1 p, count-change step p m set x up here, count-cons p x added))

module _ (step : Step) (weights : List ℕ) (m : ℕ) (rows : List Row) (set last : List ℕ) where
  -- from a set to its end exactly the choices are made that lead no further
  pub record IsSpan : Type 0 where
    pub increasing : IsIncreasing 1 m last
    pub ahead : IsAhead step m rows set last
    pub stays : (made : List ℕ) (c : ℕ) → IsIncreasing 1 m made → IsAhead step m rows set made → IsAhead step m rows made last → chosen step m made < chosen step m last
        → is_choice step weights m rows made c ≡ true → IsAhead step m rows (change step made c) last
    pub may : (made : List ℕ) (c : ℕ) → IsIncreasing 1 m made → IsAhead step m rows set made → has_member (open_candidates step m made) c ≡ true
        → IsAhead step m rows (change step made c) last → is_choice step weights m rows made c ≡ true

module _ (step : Step) (weights : List ℕ) (m : ℕ) (rows : List Row) (set : List ℕ) where
  pub tied-is : (t : ℕ) → has_member (ties step weights m rows set) t ≡ true → is_choice step weights m rows set t ≡ true
  tied-is t inside = grind (arith, common_steps, and_parts, has_member-filter)

  pub tied-open : (t : ℕ) → has_member (ties step weights m rows set) t ≡ true → has_member (open_candidates step m set) t ≡ true
  tied-open t inside = choice-open step weights m rows set t (tied-is t inside)

  pub tied-increasing : IsIncreasing 1 m (ties step weights m rows set)
  tied-increasing =
      IsIncreasing-filter (λ c. is_choice step weights m rows set c && is_first_open step (clones_among m rows c) set c) 1 m (range_with_len 1 m) (IsIncreasing-range 1 m m (omega arith))

  tied-last : IsIncreasing 1 m set → IsIncreasing 1 m (fold (change step) set (ties step weights m rows set))
      × ((p : ℕ → Bool) → count_by p (picked step m (fold (change step) set (ties step weights m rows set))) ≡ count_by p (picked step m set) + count_by p (ties step weights m rows set))
  tied-last up = changed-all step m 1 set (ties step weights m rows set) up tied-increasing tied-open

-- ---- an independent set

module _ (step : Step) (weights : List ℕ) (m : ℕ) (rows : List Row) (ballots : AreBallots m rows) (falls : IsFalling weights) (set : List ℕ) (up : IsIncreasing 1 m set) where
  same : (c d : ℕ) → are_clones rows c d ≡ true → (xs : List ℕ) → clone_count rows xs c ≡ clone_count rows xs d
  same c d cd xs = count-class (are_clones rows) (clones-sameness rows) c d xs cd

  abbrev all : List ℕ
  all = ties step weights m rows set

  abbrev last : List ℕ
  last = fold (change step) set all

  last-count : (p : ℕ → Bool) → count_by p (picked step m last) ≡ count_by p (picked step m set) + count_by p all
  last-count = (tied-last step weights m rows set up).1

  pub tied-class : (c : ℕ) → is_choice step weights m rows set c ≡ true → (t : ℕ) × (has_member all t ≡ true) × (are_clones rows c t ≡ true)
  tied-class c is = grind (arith, common_steps, first-tied, choice-parts, has_member-filter, and_from, has_member-range)

  module _ (made : List ℕ) (up' : IsIncreasing 1 m made) (ahead : IsAhead step m rows set made) (c : ℕ) (free : has_member (open_candidates step m made) c ≡ true) where
    -- nobody is better later than those who tie
    pub at-most : (t : ℕ) → is_choice step weights m rows set t ≡ true → is_no_better step (worth step weights rows made c) (worth step weights rows set t) ≡ true
    at-most t is =
        let d = open-moves step weights m rows made set c up' up ahead free in
        no_better-joined step (worth step weights rows made c) (worth step weights rows set d.0) (worth step weights rows set t)
        (no-better-ahead step weights m rows ballots falls set made d.0 c up up' ahead (clones-turned rows c d.0 d.2) free) (choice-best step weights m rows set t d.0 is d.1)

    -- of a class of which more are picked at the end, a candidate is no worse
    tied-worth : shares_no_voter rows all ≡ true → IsAhead step m rows made last → clone_count rows (picked step m made) c < clone_count rows (picked step m last) c
        → (t : ℕ) × (has_member all t ≡ true) × (is_no_better step (worth step weights rows set t) (worth step weights rows made c) ≡ true)
    tied-worth apart above less =
        let t = some-passes (are_clones rows c) all (omega (arith, ahead c, less, last-count (are_clones rows c))) in
        let fewer = λ (p : ℕ → Bool). count-without p 1 m all t.0 (tied-increasing step weights m rows set) t.1 in (
          t.0,
          t.1,
          no-better m rows weights made set c t.0 step [] (without_member all t.0) ballots falls (record {
            up = up';
            up' = up;
            clones = t.2;
            free = tied-open step weights m rows set t.0 t.1;
            within = λ x. elim (cases_Bool (are_clones rows x t.0)) [
              | inl is ↦
                  omega (
                    arith,
                    same x t.0 is (picked step m made),
                    same c t.0 t.2 (picked step m made),
                    same x t.0 is (picked step m last),
                    same c t.0 t.2 (picked step m last),
                    less,
                    last-count (are_clones rows x),
                    fewer (are_clones rows x),
                    ap bit is,
                  )
              | inr other ↦ omega (arith, above x, last-count (are_clones rows x), fewer (are_clones rows x), ap bit other)
            ];
          })
              (each-row m rows (λ (row : Row). hits row.0 all ≤ 1) (λ (row : Row). has_member row.0 t.0 ≡ true → 0 + count_by (has_member row.0) (without_member all t.0) ≤ count_by (has_member row.0) []) ballots (few-of all rows apart)
              (λ row ballot whole few approved. omega (arith, few, hits-members m row.0 all ballot (tied-increasing step weights m rows set), fewer (has_member row.0), ap bit approved))),
        )

    -- of a class of which no more are picked at the end, a candidate is worse
    tied-less : ((t : ℕ) → is_choice step weights m rows set t ≡ true → 0 < worth step weights rows set t) → clone_count rows (picked step m last) c ≤ clone_count rows (picked step m made) c
        → (t : ℕ) → is_choice step weights m rows set t ≡ true → is_no_better step (worth step weights rows set t) (worth step weights rows made c) ≡ true → ⊥
    tied-less positive full t is fine = elim (cases_lt 0 (clone_count rows all c)) [
      | inl some ↦
          let u = some-passes (are_clones rows c) all (omega (arith, some)) in
          let within : (x : ℕ) → clone_count rows (picked step m set) x + clone_count rows (c ∷ []) x ≤ clone_count rows (picked step m made) x + 0 = λ x.
          elim (cases_Bool (are_clones rows x c)) [
            | inl alike ↦
                omega (
                  arith,
                  some,
                  full,
                  count-cons (are_clones rows x) c [],
                  ap bit alike,
                  same x c alike (picked step m made),
                  same x c alike (picked step m set),
                  last-count (are_clones rows c),
                )
            | inr other ↦ omega (arith, ahead x, count-cons (are_clones rows x) c [], ap bit other)
          ] in
          both_ways (is_no_better step (worth step weights rows set u.0) (worth step weights rows made c))
          (worse m rows weights set made u.0 c step (c ∷ []) [] ballots falls
          (record {
            up = up;
            up' = up';
            clones = clones-turned rows c u.0 u.2;
            free = free;
            within = within;
          }) (all-pass (λ (row : Row). has_member row.0 c ≡ true → 1 ≤ count_by (has_member row.0) (c ∷ [])) rows (λ row approved. omega (arith, count-cons (has_member row.0) c [], ap bit approved))) (positive u.0 (tied-is step weights m rows set u.0 u.1)))
          (no_better-joined step (worth step weights rows set u.0) (worth step weights rows set t) (worth step weights rows made c)
          (choice-best step weights m rows set t u.0 is (tied-open step weights m rows set u.0 u.1)) fine)
      | inr none ↦
          let d = open-moves step weights m rows made set c up' up ahead free in
          let low = no_better-joined step (worth step weights rows set t) (worth step weights rows made c) (worth step weights rows set d.0) fine
          (no-better-ahead step weights m rows ballots falls set made d.0 c up up' ahead (clones-turned rows c d.0 d.2) free) in
          let u = tied-class d.0 (choice-from step weights m rows set d.0 d.1
          (λ e free'. no_better-joined step (worth step weights rows set e) (worth step weights rows set t) (worth step weights rows set d.0) (choice-best step weights m rows set t e is free') low)) in
          omega (arith, none, member-counts (are_clones rows c) all u.0 u.1 (clones-joined rows c d.0 u.0 d.2 u.2))
    ]

  -- each of the ties brings the best worth
  pub tied-reaches : (t : ℕ) → is_choice step weights m rows set t ≡ true → tied_worth step weights m rows set ≤ worth step weights rows set t
  tied-reaches t is = by step (and_parts (has_member (open_candidates step m set) t) (list_all (λ d. is_no_better step (worth step weights rows set d) (worth step weights rows set t)) (open_candidates step m set)) is)
    where
      by : (s : Step) → (has_member (open_candidates s m set) t ≡ true) × (list_all (λ d. is_no_better s (worth s weights rows set d) (worth s weights rows set t)) (open_candidates s m set) ≡ true)
          → tied_worth s weights m rows set ≤ worth s weights rows set t
      by Grow parts =
          let w : ℕ → ℕ = gain weights rows set in
          leb-true (greatest w 0 (others m set)) (w t) (sym (bounds-greatest w 0 (w t) (others m set)) ∙ and_from (nat_le 0 (w t)) (list_all (λ d. nat_le (w d) (w t)) (others m set)) (le-leb 0 (w t) (omega arith)) parts.1)
      by Shrink parts =
          let w : ℕ → ℕ = loss weights rows set in
          let free : List ℕ = open_candidates Shrink m set in
          let low : ℕ = lowest w (2 ^ 128 - 1) free in
          let each = and_parts (nat_le low (2 ^ 128 - 1)) (list_all (λ d. nat_le low (w d)) free) (bounds-lowest w (2 ^ 128 - 1) low free ∙ le-leb low low (omega arith)) in
          leb-true low (w t) (all-at (λ d. nat_le low (w d)) free t each.1 parts.0)

  pub tied-positive : 0 < tied_worth step weights m rows set → (t : ℕ) → is_choice step weights m rows set t ≡ true → 0 < worth step weights rows set t
  tied-positive some t is = omega (arith, some, tied-reaches t is)

  independent-span : 0 < tied_worth step weights m rows set → shares_no_voter rows all ≡ true → IsSpan step weights m rows set last
  independent-span some apart =
      record {
        increasing = (tied-last step weights m rows set up).0;
        ahead = λ x. omega (arith, last-count (are_clones rows x));
        stays = λ made c up' ahead above fewer is.
            let free = choice-open step weights m rows made c is in
            let more = λ (x : ℕ). count-change step (are_clones rows x) m made c up' free in
            elim (cases_lt (clone_count rows (picked step m made) c) (clone_count rows (picked step m last) c)) [
              | inl less ↦ λ x. elim (cases_Bool (are_clones rows x c)) [
                | inl alike ↦ omega (arith, less, more x, ap bit alike, same x c alike (picked step m made), same x c alike (picked step m last))
                | inr other ↦ omega (arith, above x, more x, ap bit other)
              ]
              | inr full ↦
                  let y = some-more (are_clones rows) (clones-sameness rows) (picked step m made) (picked step m last) fewer in
                  let z = some-passes (are_clones rows y.0) (open_candidates step m made)
                  (omega (arith, y.2, count-open step (are_clones rows y.0) m made up', count-open step (are_clones rows y.0) m last (tied-last step weights m rows set up).0)) in
                  let t = tied-worth made up' ahead z.0 z.1 apart above (omega (arith, y.2, same y.0 z.0 z.2 (picked step m made), same y.0 z.0 z.2 (picked step m last))) in
                  absurd (tied-less made up' ahead c free (tied-positive some) full t.0 (tied-is step weights m rows set t.0 t.1)
                  (no_better-joined step (worth step weights rows set t.0) (worth step weights rows made z.0) (worth step weights rows made c) t.2 (choice-best step weights m rows made c z.0 is z.1)))
            ];
        may = λ made c up' ahead free above.
            let more = λ (x : ℕ). count-change step (are_clones rows x) m made c up' free in
            let t = tied-worth made up' ahead c free apart (λ x. omega (arith, above x, more x)) (omega (arith, above c, more c, ap bit (clones-itself rows c))) in
            choice-from step weights m rows made c free (λ d free'.
            no_better-joined step (worth step weights rows made d) (worth step weights rows set t.0) (worth step weights rows made c)
            (at-most made up' ahead d free' t.0 (tied-is step weights m rows set t.0 t.1)) t.2);
      }

-- ---- a settled set

module _ (weights : List ℕ) (m : ℕ) (rows : List Row) (ballots : AreBallots m rows) (falls : IsFalling weights) (set : List ℕ) (up : IsIncreasing 1 m set) (settled : is_settled Grow weights m rows set ≡ true) where
  -- a set to which nobody brings anything gains nothing by anybody later
  nothing-left : (made : List ℕ) (c : ℕ) → IsIncreasing 1 m made → IsAhead Grow m rows set made → has_member (others m made) c ≡ true → gain weights rows made c ≡ 0
  nothing-left made c up' ahead free =
      let d = open-moves Grow weights m rows made set c up' up ahead free in
      let falls-to = leb-true (gain weights rows made c) (gain weights rows set d.0) (no-better-ahead Grow weights m rows ballots falls set made d.0 c up up' ahead (clones-turned rows c d.0 d.2) free) in
      omega (arith, falls-to, eqb-true (gain weights rows set d.0) 0 (all-at (λ e. gain weights rows set e == 0) (others m set) d.0 settled d.1))

  below-all : (made : List ℕ) → IsIncreasing 1 m made → IsAhead Grow m rows made (range_with_len 1 m)
  below-all made up' x = omega (arith, count-others (are_clones rows x) m made up')

  settled-span : IsSpan Grow weights m rows set (range_with_len 1 m)
  settled-span = record {
    increasing = IsIncreasing-range 1 m m (omega arith);
    ahead = below-all set up;
    stays = λ made c up' ahead above fewer is. below-all (change Grow made c) (change-increasing Grow m made c up' (choice-open Grow weights m rows made c is));
    may = λ made c up' ahead free above. choice-from Grow weights m rows made c free (λ d free'. le-leb (gain weights rows made d) (gain weights rows made c) (omega (arith, nothing-left made d up' ahead free')));
  }

-- from a set to its end exactly the choices are made that lead no further
pub end-span : (step : Step) (weights : List ℕ) (m : ℕ) (rows : List Row) → AreBallots m rows → IsFalling weights → (set last : List ℕ) → IsIncreasing 1 m set
    → end step weights m rows set ≡ Some last → IsSpan step weights m rows set last × (chosen step m set < m → chosen step m set < chosen step m last)
unfolding end
end-span step weights m rows ballots falls set last up is = by step (is_settled step weights m rows set) (is_independent step weights m rows set) refl refl is
  where
    by : (s : Step) (b i : Bool) → is_settled s weights m rows set ≡ b → is_independent s weights m rows set ≡ i → cond b (Some (range_with_len 1 m)) (cond i (Some (fold (change s) set (ties s weights m rows set))) None) ≡ Some last
        → IsSpan s weights m rows set last × (chosen s m set < m → chosen s m set < chosen s m last)
    by Grow true i settled some e =
        let at : range_with_len 1 m ≡ last = ap (end_or []) e in
        (subst (IsSpan Grow weights m rows set) at (settled-span weights m rows ballots falls set up settled), λ few. omega (arith, few, ap length at, length-range_with_len 1 m))
    by Shrink true i settled some e = absurd (let f : false ≡ true = settled in cc)
    by s false true settled independent e =
        let all : List ℕ = ties s weights m rows set in
        let at : fold (change s) set all ≡ last = ap (end_or []) e in
        let both = and_parts (nat_lt 0 (tied_worth s weights m rows set)) (nat_le 2 (length all) && shares_no_voter rows all) independent in
        let parts = and_parts (nat_le 2 (length all)) (shares_no_voter rows all) both.1 in (
          subst (IsSpan s weights m rows set) at (independent-span s weights m rows ballots falls set up (ltb-true 0 (tied_worth s weights m rows set) both.0) parts.1),
          λ few. omega (
            arith,
            last-count s weights m rows ballots falls set up (λ (x : ℕ). true),
            length-sum (picked s m set),
            length-sum all,
            length-sum (picked s m (fold (change s) set all)),
            ap (chosen s m) at,
            leb-true 2 (length all) parts.0,
          ),
        )
    by s false false settled dependent e = absurd (let f : false ≡ true = ap is_some e in cc)
