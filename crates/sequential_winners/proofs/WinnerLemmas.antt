-- The committees of the families of the last level are the winners of a sequential rule.
use Rattle.std.proofs.lemmas.Grind.{common_steps}
use Rattle.std.proofs.Common.{◌≡◌, ℕ, zero, suc, ◌+◌, ◌-◌, ◌*◌, ◌/◌, ◌<◌, ◌≤◌, ◌∙◌, Bool, true, Some, List, refl, sym, ap, arith, inl, inr, length, get_or, Contains, add-one}
use Rattle.std.proofs.Math.Nat.{mul-le-mul, mul-div_cancel'}
use Rattle.std.specs.Prelude.{nat_le}
use Rattle.std.specs.List.{list_any, range_with_len}
use Rattle.std.proofs.lemmas.Bool.{cases_lt, le-leb, leb-true, ne_eqb}
use Rattle.std.proofs.lemmas.List.{get_or_past}
use Rattle.std.proofs.lemmas.List.Folds.{Any-from_list_any, list_any-from_Any}
use Rattle.ballot_base.specs.Lists.{IsIncreasing}
use Rattle.ballot_base.specs.CommonMultiple.{common_multiple}
use Rattle.ballot_base.proofs.Committees.{length-increasing}
use Rattle.ballot_base.specs.Ballots.{Row, Election}
use Rattle.tie_walk.specs.Sequences.{hit_weight, hit_weights, weight, is_sequential_winner}
use Rattle.tie_walk.specs.Steps.Choices.{step_of, choices_of, change, is_choice, start}
use Rattle.tie_walk.specs.declared.sequential.SeqRule.{SeqRule}
use Rattle.tie_walk.specs.declared.sequential.SeqRule.TheVariants.{SeqPav, SeqCc, RevSeqPav}
use Rattle.tie_walk.proofs.Choices.{is_made, reached_from_made, made_from_reached}
use Rattle.tie_walk.proofs.HitWeights.{hit_weights-length, hit_weights-at}
use Rattle.tie_walk.proofs.LevelLemmas.{in_bounds, followed-candidates}
use Rattle.tie_walk.proofs.SequenceLemmas.{grown_set-made, left_set-made}
use Rattle.tie_walk.proofs.StepLemmas.{has_member-range}
use Rattle.ballot_base.specs.Clones.{are_clones}
use Rattle.ballot_base.proofs.LeastMultiples.{common_multiple_some, common_multiple_divides}
use Rattle.sequential_winners.specs.Clones.{clone_count, has_as_many}
use Rattle.sequential_winners.specs.Steps.Levels.{chosen, end_by, AllCount, IsBelow, IsFalling, IsReachedBy}
use Rattle.sequential_winners.proofs.CloneLemmas.{clones-sameness}
use Rattle.sequential_winners.proofs.Lists.{all-at, all-from}
use Rattle.sequential_winners.proofs.Numbers.{some-passes, count-class}
use Rattle.sequential_winners.proofs.Picked.{chosen-left}
use Rattle.sequential_winners.proofs.SpanLemmas.{end-span}
use Rattle.tie_walk.proofs.RowSums.{AreBallots}

-- ---- after a hit that brings something, the next one brings less

exact-falls : (n a b j : ℕ) → 1 ≤ j → n ≡ j * a → n ≡ (j + 1) * b → b ≤ a - 1
exact-falls n a b j low at next = grind (arith, common_steps, cases_lt, mul-le-mul)

shares-fall : (m j : ℕ) → 1 ≤ j → j + 1 ≤ m → common_multiple m / (j + 1) ≤ common_multiple m / j - 1
shares-fall m j low high = grind (arith, common_steps, mul-div_cancel', common_multiple_divides, exact-falls)

hit-falls : (rule : SeqRule) (m j : ℕ) → 1 ≤ j → j + 1 ≤ m → hit_weight rule m (j + 1) ≤ hit_weight rule m j - 1
hit-falls SeqPav m j low high = shares-fall m j low high
hit-falls SeqCc m j low high = rw (ne_eqb (j + 1) 1 (λ e. omega (arith, e, low))) (omega arith)
hit-falls RevSeqPav m j low high = shares-fall m j low high

pub hit_weights-fall : (rule : SeqRule) (m : ℕ) → IsFalling (hit_weights rule m)
hit_weights-fall rule m zero low = absurd (omega (arith, low))
hit_weights-fall rule m (suc j) low =
    grind (arith, common_steps, get_or, add-one, cases_lt, hit_weights-at, hit-falls, get_or_past, hit_weights-length)

-- under reverse sequential approval voting each hit counts
pub hit_weights-count : (rule : SeqRule) (m : ℕ) → AllCount (step_of rule) m (hit_weights rule m)
hit_weights-count SeqPav m = tt
hit_weights-count SeqCc m = tt
hit_weights-count RevSeqPav m = each
  where
    some-share : (n d : ℕ) → d * (n / d) ≡ n → 0 < n → 0 < n / d
    some-share n d whole some = elim (cases_lt 0 (n / d)) [
      | inl is ↦ is
      | inr fails ↦ let e : n / d ≡ 0 = omega (arith, fails) in let f : d * 0 ≡ 0 = grind arith in absurd (omega (arith, some, sym whole ∙ ap (λ q. d * q) e ∙ f))
    ]

    each : (j : ℕ) → 1 ≤ j → j ≤ m → 0 < weight (hit_weights RevSeqPav m) j
    each zero low high = absurd (omega (arith, low))
    each (suc j) low high =
        let at : weight (hit_weights RevSeqPav m) (suc j) ≡ common_multiple m / (j + 1) = hit_weights-at RevSeqPav m j (omega (arith, high)) in
        omega (arith, at, some-share (common_multiple m) (j + 1) (mul-div_cancel' (j + 1) (common_multiple_divides m (j + 1) (omega arith) (omega (arith, high)))) (common_multiple_some m))

-- ---- as many of each class, as a test

module _ (m : ℕ) (rows : List Row) (set committee : List ℕ) where
  pub many-from : IsBelow rows set committee → has_as_many m rows committee set ≡ true
  many-from below =
      all-from (λ c. nat_le (clone_count rows set c) (clone_count rows committee c)) (range_with_len 1 m) (λ c inside. le-leb (clone_count rows set c) (clone_count rows committee c) (below c))

  pub below-from : IsIncreasing 1 m set → has_as_many m rows committee set ≡ true → IsBelow rows set committee
  below-from up all c = elim (cases_lt 0 (clone_count rows set c)) [
    | inl some ↦
        let t = some-passes (are_clones rows c) set (omega (arith, some)) in
        let bounds = in_bounds m set t.0 up t.1 in
        let here : clone_count rows set t.0 ≤ clone_count rows committee t.0 =
        leb-true (clone_count rows set t.0) (clone_count rows committee t.0)
        (all-at (λ d. nat_le (clone_count rows set d) (clone_count rows committee d)) (range_with_len 1 m) t.0 all (has_member-range 1 m t.0 bounds.0 (omega (arith, bounds.1)))) in
        omega (
          arith,
          count-class (are_clones rows) (clones-sameness rows) c t.0 set t.2,
          count-class (are_clones rows) (clones-sameness rows) c t.0 committee t.2,
        )
    | inr none ↦ omega (arith, none)
  ]

-- ---- some of a list

pub any-from : {X : Type 0} (p : X → Bool) (xs : List X) (x : X) → Contains xs x → p x ≡ true → list_any p xs ≡ true
any-from p xs x inside passes = list_any-from_Any p xs (inside.0, x, inside.1, inside.2, passes)

pub any-at : {X : Type 0} (p : X → Bool) (xs : List X) → list_any p xs ≡ true → (x : X) × Contains xs x × (p x ≡ true)
any-at p xs any = let some = Any-from_list_any p xs any in (some.1, (some.0, some.2, some.3), some.4)

-- ---- the sets that the choices of a rule make

rule-made : (rule : SeqRule) (e : Election) (k : ℕ) (set : List ℕ)
    → is_sequential_winner rule e k set ≡ is_made (is_choice (step_of rule) (hit_weights rule e.m) e.m e.rows) (change (step_of rule)) e.m (start (step_of rule) e.m) (choices_of rule e.m k) set
rule-made SeqPav e k set = grown_set-made (hit_weights SeqPav e.m) e.m e.rows k set
rule-made SeqCc e k set = grown_set-made (hit_weights SeqCc e.m) e.m e.rows k set
rule-made RevSeqPav e k set = left_set-made (hit_weights RevSeqPav e.m) e.m e.rows k set

pub rule-size : (rule : SeqRule) (m k : ℕ) (set : List ℕ) → k ≤ m → IsIncreasing 1 m set
    → (length set ≡ k → chosen (step_of rule) m set ≡ choices_of rule m k) × (chosen (step_of rule) m set ≡ choices_of rule m k → length set ≡ k)
rule-size SeqPav m k set fits up = (λ is. is, λ is. is)
rule-size SeqCc m k set fits up = (λ is. is, λ is. is)
rule-size RevSeqPav m k set fits up = (λ is. omega (arith, is, fits, chosen-left m set up), λ is. omega (arith, is, fits, chosen-left m set up))

-- how many choices lead to a set, and to an end
pub set-size : (rule : SeqRule) (m : ℕ) (set : List ℕ) → IsIncreasing 1 m set → (length set ≤ m) × (chosen (step_of rule) m set ≡ choices_of rule m (length set))
set-size rule m set up =
    let fits : length set ≤ m = omega (arith, length-increasing 1 m set up) in
    (fits, (rule-size rule m (length set) set fits up).0 refl)

pub end-size : (rule : SeqRule) (e : Election) (set last : List ℕ) → AreBallots e.m e.rows → IsIncreasing 1 e.m set → end_by rule e set ≡ Some last → (length last ≤ e.m) × (chosen (step_of rule) e.m last ≡ choices_of rule e.m (length last))
end-size rule e set last ballots up is =
    set-size rule e.m last (end-span (step_of rule) (hit_weights rule e.m) e.m e.rows ballots (hit_weights-fall rule e.m) set last up is).0.increasing

module _ (rule : SeqRule) (e : Election) (k : ℕ) (set : List ℕ) where
  pub reached-wins : IsReachedBy (step_of rule) (hit_weights rule e.m) e.m e.rows (choices_of rule e.m k) set → is_sequential_winner rule e k set ≡ true
  reached-wins r =
      let step = step_of rule in
      let may = is_choice step (hit_weights rule e.m) e.m e.rows in
      rule-made rule e k set
      ∙ made_from_reached may (change step) e.m (start step e.m) (choices_of rule e.m k) set r (followed-candidates step (hit_weights rule e.m) e.m e.rows (start step e.m) r.list r.made)

  pub winner-reached : is_sequential_winner rule e k set ≡ true → IsReachedBy (step_of rule) (hit_weights rule e.m) e.m e.rows (choices_of rule e.m k) set
  winner-reached wins =
      let step = step_of rule in
      reached_from_made (is_choice step (hit_weights rule e.m) e.m e.rows) (change step) e.m (start step e.m) (choices_of rule e.m k) set (sym (rule-made rule e k set) ∙ wins)
