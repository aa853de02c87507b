-- Grown and shrunk lists, and which committees win by them.
use Rattle.std.proofs.Common.{◌≡◌, ℕ, zero, suc, ◌-◌, ◌<◌, ◌≤◌, true, List, [], ◌∷◌, refl, sym, ◌∙◌, arith, filter, length, take, get_or, Contains, All, AllPairs}
use Rattle.std.specs.Prelude.{fold, ◌↔◌}
use Rattle.std.specs.List.{range_with_len}
use Rattle.std.proofs.lemmas.Bool.{and_parts, and_from}
use Rattle.std.proofs.lemmas.List.Elements.{All-filter}
use Rattle.std.proofs.lemmas.List.Kept.{AllPairs-filter}
use Rattle.ballot_base.specs.Lists.{IsLater, increasing_lists}
use Rattle.ballot_base.specs.CandSet.{with_member, without_member}
use Rattle.ballot_base.specs.Ballots.{Row, Election}
use Rattle.ballot_base.proofs.Committees.{increasing_lists-contains, increasing_lists-order, increasing_lists-once, increasing_lists-sizes}
use Rattle.tie_walk.specs.Sequences.{has_greatest_gain, has_least_loss, is_grown, is_shrunk, is_grown_set, is_left_set, is_sequential_winner, sequential_winners}
use Rattle.tie_walk.specs.Steps.Choices.{change, is_choice, IsReached}
use Rattle.tie_walk.specs.declared.sequential.SeqRule.{SeqRule}
use Rattle.tie_walk.specs.declared.sequential.Step.TheVariants.{Grow, Shrink}
use Rattle.tie_walk.proofs.Choices.{reached_from_made, made_from_reached}
use Rattle.tie_walk.proofs.LawLemmas.{passes-from_filter, Contains-filter, IsIncreasing-range}
use Rattle.tie_walk.proofs.LevelLemmas.{followed-candidates, reached-increasing}
use Rattle.tie_walk.proofs.SequenceLemmas.{fold-grow, fold-shrink, grown-follows, shrunk-follows, grown_set-made, left_set-made, reached-sized}

-- ---- place by place

module _ (weights : List ℕ) (m : ℕ) (rows : List Row) where
  pub grown-each : (before list : List ℕ) → is_grown weights m rows before list ≡ true
      → (i : ℕ) → i < length list → has_greatest_gain weights m rows (fold with_member before (take i list)) (get_or list i 0) ≡ true
  grown-each before [] made i inside = absurd (omega (arith, inside))
  grown-each before (c ∷ list) made zero inside = (and_parts (has_greatest_gain weights m rows before c) (is_grown weights m rows (with_member before c) list) made).0
  grown-each before (c ∷ list) made (suc i) inside =
      grown-each (with_member before c) list (and_parts (has_greatest_gain weights m rows before c) (is_grown weights m rows (with_member before c) list) made).1 i (omega (arith, inside))

  pub each-grown : (before list : List ℕ) → ((i : ℕ) → i < length list → has_greatest_gain weights m rows (fold with_member before (take i list)) (get_or list i 0) ≡ true)
      → is_grown weights m rows before list ≡ true
  each-grown before [] each = refl
  each-grown before (c ∷ list) each =
      and_from (has_greatest_gain weights m rows before c) (is_grown weights m rows (with_member before c) list) (each 0 (omega arith))
      (each-grown (with_member before c) list (λ i inside. each (suc i) (omega (arith, inside))))

  pub shrunk-each : (left list : List ℕ) → is_shrunk weights rows left list ≡ true
      → (i : ℕ) → i < length list → has_least_loss weights rows (fold without_member left (take i list)) (get_or list i 0) ≡ true
  shrunk-each left [] made i inside = absurd (omega (arith, inside))
  shrunk-each left (c ∷ list) made zero inside = (and_parts (has_least_loss weights rows left c) (is_shrunk weights rows (without_member left c) list) made).0
  shrunk-each left (c ∷ list) made (suc i) inside =
      shrunk-each (without_member left c) list (and_parts (has_least_loss weights rows left c) (is_shrunk weights rows (without_member left c) list) made).1 i (omega (arith, inside))

  pub each-shrunk : (left list : List ℕ) → ((i : ℕ) → i < length list → has_least_loss weights rows (fold without_member left (take i list)) (get_or list i 0) ≡ true)
      → is_shrunk weights rows left list ≡ true
  each-shrunk left [] each = refl
  each-shrunk left (c ∷ list) each =
      and_from (has_least_loss weights rows left c) (is_shrunk weights rows (without_member left c) list) (each 0 (omega arith))
      (each-shrunk (without_member left c) list (λ i inside. each (suc i) (omega (arith, inside))))

  -- ---- the committees that win

  pub grown-winner : (k : ℕ) (set : List ℕ) → Contains (filter (is_grown_set weights m rows k) (increasing_lists 1 m k)) set
      ↔ ((list : List ℕ) × (length list ≡ k) × (is_grown weights m rows [] list ≡ true) × (fold with_member [] list ≡ set))
  grown-winner k set = (
    λ inside.
        let passes = passes-from_filter (is_grown_set weights m rows k) (increasing_lists 1 m k) set inside in
        let r = reached_from_made (is_choice Grow weights m rows) (change Grow) m [] k set (sym (grown_set-made weights m rows k set) ∙ passes) in
        (r.list, r.long, grown-follows weights m rows [] r.list ∙ r.made, sym (fold-grow [] r.list) ∙ r.ends),
    λ some.
        let r : IsReached (is_choice Grow weights m rows) (change Grow) [] k set =
        record { list = some.0; long = some.1; made = sym (grown-follows weights m rows [] some.0) ∙ some.2; ends = fold-grow [] some.0 ∙ some.3 } in
        let passes = grown_set-made weights m rows k set ∙ made_from_reached (is_choice Grow weights m rows) (change Grow) m [] k set r (followed-candidates Grow weights m rows [] r.list r.made) in
        Contains-filter (is_grown_set weights m rows k) (increasing_lists 1 m k) set
        (increasing_lists-contains 1 m k set (reached-increasing Grow weights m rows k set r, reached-sized Grow weights m rows k set r)) passes,
  )

  pub left-winner : (k : ℕ) (set : List ℕ) → k ≤ m → Contains (filter (is_left_set weights m rows k) (increasing_lists 1 m k)) set
      ↔ ((list : List ℕ) × (length list ≡ m - k) × (is_shrunk weights rows (range_with_len 1 m) list ≡ true) × (fold without_member (range_with_len 1 m) list ≡ set))
  left-winner k set fits =
      let all = range_with_len 1 m in
      let up = IsIncreasing-range 1 m m (omega arith) in (
        λ inside.
            let passes = passes-from_filter (is_left_set weights m rows k) (increasing_lists 1 m k) set inside in
            let r = reached_from_made (is_choice Shrink weights m rows) (change Shrink) m all (m - k) set (sym (left_set-made weights m rows k set) ∙ passes) in
            (r.list, r.long, shrunk-follows weights m rows all r.list up ∙ r.made, sym (fold-shrink all r.list) ∙ r.ends),
        λ some.
            let r : IsReached (is_choice Shrink weights m rows) (change Shrink) all (m - k) set =
            record { list = some.0; long = some.1; made = sym (shrunk-follows weights m rows all some.0 up) ∙ some.2; ends = fold-shrink all some.0 ∙ some.3 } in
            let passes = left_set-made weights m rows k set ∙ made_from_reached (is_choice Shrink weights m rows) (change Shrink) m all (m - k) set r (followed-candidates Shrink weights m rows all r.list r.made) in
            let sized = reached-sized Shrink weights m rows (m - k) set r in
            Contains-filter (is_left_set weights m rows k) (increasing_lists 1 m k) set
            (increasing_lists-contains 1 m k set (reached-increasing Shrink weights m rows (m - k) set r, omega (arith, sized, fits))) passes,
      )

-- ---- their order

pub sequential-later : (rule : SeqRule) (e : Election) (k : ℕ) → AllPairs (λ x y. IsLater y x) (sequential_winners rule e k)
sequential-later rule e k = AllPairs-filter (λ x y. IsLater y x) (is_sequential_winner rule e k) (increasing_lists 1 e.m k) (increasing_lists-order 1 e.m k)

pub sequential-sizes : (rule : SeqRule) (e : Election) (k : ℕ) → All (λ set. length set ≡ k) (sequential_winners rule e k)
sequential-sizes rule e k = All-filter (is_sequential_winner rule e k) (λ set. length set ≡ k) (increasing_lists 1 e.m k) (increasing_lists-sizes 1 e.m k)

pub sequential-once : (rule : SeqRule) (e : Election) (k : ℕ) → AllPairs (λ x y. x ≡ y → ⊥) (sequential_winners rule e k)
sequential-once rule e k = AllPairs-filter (λ x y. x ≡ y → ⊥) (is_sequential_winner rule e k) (increasing_lists 1 e.m k) (increasing_lists-once 1 e.m k)
