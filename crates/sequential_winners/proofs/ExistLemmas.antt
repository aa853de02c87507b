-- Some sequence of choices makes a committee: at each set somebody ties for the best.
use Rattle.std.proofs.Common.{◌≡◌, ℕ, zero, suc, ◌+◌, ◌≤◌, ◌==◌, ◌∙◌, Bool, true, false, cond, List, [], ◌∷◌, refl, sym, ap, subst, arith, inl, inr, ◌⊎◌, length}
use Rattle.std.proofs.lemmas.Bool.{cases_lt, cases_eq, le-leb, or_right}
use Rattle.ballot_base.specs.Lists.{IsIncreasing, increasing_lists}
use Rattle.ballot_base.specs.CandSet.{has_member}
use Rattle.ballot_base.specs.Ballots.{Row, Election}
use Rattle.ballot_base.proofs.Committees.{increasing_lists-contains}
use Rattle.ballot_base.proofs.Increasing.{has_member_head, has_member_tail}
use Rattle.tie_walk.specs.Sequences.{hit_weights, is_sequential_winner, sequential_winners}
use Rattle.tie_walk.specs.Steps.Choices.{step_of, choices_of, change, worth, is_no_better, open_candidates, is_choice, start}
use Rattle.tie_walk.specs.Winners.{best_value, winners}
use Rattle.tie_walk.specs.declared.sequential.SeqRule.{SeqRule}
use Rattle.tie_walk.specs.declared.sequential.SeqRule.TheVariants.{SeqPav, SeqCc, RevSeqPav}
use Rattle.tie_walk.specs.declared.sequential.Step.{Step}
use Rattle.tie_walk.specs.declared.sequential.Step.TheVariants.{Grow, Shrink}
use Rattle.tie_walk.proofs.HitWeights.{one-most}
use Rattle.tie_walk.proofs.Choices.{reached_none, reached_more}
use Rattle.tie_walk.proofs.LawLemmas.{no_greater_value}
use Rattle.tie_walk.proofs.LevelLemmas.{reached-increasing}
use Rattle.tie_walk.proofs.WinnersLemmas.{greatest-most, same_filter, winners-best}
use Rattle.sequential_winners.specs.Families.{Sequential, is_winner}
use Rattle.sequential_winners.specs.Steps.Levels.{IsReachedBy}
use Rattle.sequential_winners.proofs.Lists.{all-pass}
use Rattle.sequential_winners.proofs.Leads.{reached-chosen}
use Rattle.sequential_winners.proofs.Picked.{chosen-open}
use Rattle.sequential_winners.proofs.TiedClones.{no_better-joined, choice-from}
use Rattle.sequential_winners.proofs.WinnerLemmas.{rule-size, reached-wins}

-- ---- one of those that nobody is better than

no_better-total : (step : Step) (x y : ℕ) → (is_no_better step x y ≡ true) ⊎ (is_no_better step y x ≡ true)
no_better-total Grow x y = elim (cases_lt x y) [ inl less ↦ inl (le-leb x y (omega (arith, less))) | inr more ↦ inr (le-leb y x more) ]
no_better-total Shrink x y = elim (cases_lt x y) [ inl less ↦ inr (le-leb x y (omega (arith, less))) | inr more ↦ inl (le-leb y x more) ]

no_better-itself : (step : Step) (x : ℕ) → is_no_better step x x ≡ true
no_better-itself Grow x = le-leb x x (omega arith)
no_better-itself Shrink x = le-leb x x (omega arith)

at-each : (P : ℕ → Type 0) (x : ℕ) (xs : List ℕ) → P x → ((d : ℕ) → has_member xs d ≡ true → P d) → (d : ℕ) → has_member (x ∷ xs) d ≡ true → P d
at-each P x xs here rest d inside = elim (cases_eq x d) [
  | inl same ↦ subst P same here
  | inr other ↦ rest d (sym (has_member_tail x d xs other) ∙ inside)
]

some-best : (step : Step) (w : ℕ → ℕ) (x : ℕ) (xs : List ℕ) → (c : ℕ) × (has_member (x ∷ xs) c ≡ true) × ((d : ℕ) → has_member (x ∷ xs) d ≡ true → is_no_better step (w d) (w c) ≡ true)
some-best step w x [] =
    (x, has_member_head x [], at-each (λ d. is_no_better step (w d) (w x) ≡ true) x [] (no_better-itself step (w x)) (λ d inside. absurd (let e : false ≡ true = inside in cc)))
some-best step w x (y ∷ ys) =
    let rest = some-best step w y ys in
    elim (no_better-total step (w x) (w rest.0)) [
      | inl fine ↦ (rest.0, or_right (x == rest.0) (has_member (y ∷ ys) rest.0) rest.1, at-each (λ d. is_no_better step (w d) (w rest.0) ≡ true) x (y ∷ ys) fine rest.2)
      | inr more ↦ (
        x,
        has_member_head x (y ∷ ys),
        at-each (λ d. is_no_better step (w d) (w x) ≡ true) x (y ∷ ys) (no_better-itself step (w x)) (λ d inside. no_better-joined step (w d) (w rest.0) (w x) (rest.2 d inside) more),
      )
    ]

-- ---- somebody is free as long as choices are left

module _ (step : Step) (weights : List ℕ) (m : ℕ) (rows : List Row) where
  choice-of : (set all : List ℕ) → all ≡ open_candidates step m set → 1 ≤ length all → (c : ℕ) × (is_choice step weights m rows set c ≡ true)
  choice-of set [] is some = absurd (omega (arith, some))
  choice-of set (x ∷ xs) is some =
      let best = some-best step (worth step weights rows set) x xs in
      (best.0, choice-from step weights m rows set best.0 (ap (λ l. has_member l best.0) (sym is) ∙ best.1) (λ d inside. best.2 d (ap (λ l. has_member l d) is ∙ inside)))

  some-reached : (size : ℕ) → size ≤ m → (set : List ℕ) × IsReachedBy step weights m rows size set
  some-reached zero fits = (start step m, reached_none (is_choice step weights m rows) (change step) (start step m))
  some-reached (suc size) fits =
      let old = some-reached size (omega (arith, fits)) in
      let up = reached-increasing step weights m rows size old.0 old.1 in
      let c = choice-of old.0 (open_candidates step m old.0) refl (omega (arith, fits, chosen-open step m old.0 up, reached-chosen step weights m rows size old.0 old.1)) in
      let next : size + 1 ≡ suc size = omega arith in
      (change step old.0 c.0, subst (λ n. IsReachedBy step weights m rows n (change step old.0 c.0)) next (reached_more (is_choice step weights m rows) (change step) (start step m) size old.0 c.0 old.1 c.1))

-- ---- some committee wins

pub some-wins : (rule : SeqRule) (e : Election) (k : ℕ) → k ≤ e.m → (set : List ℕ) × (is_sequential_winner rule e k set ≡ true) × IsIncreasing 1 e.m set × (length set ≡ k)
some-wins rule e k fits =
    let size = choices_of rule e.m k in
    let s = some-reached (step_of rule) (hit_weights rule e.m) e.m e.rows size (most rule) in
    let up = reached-increasing (step_of rule) (hit_weights rule e.m) e.m e.rows size s.0 s.1 in
    (s.0, reached-wins rule e k s.0 s.1, up, (rule-size rule e.m k s.0 fits up).1 (reached-chosen (step_of rule) (hit_weights rule e.m) e.m e.rows size s.0 s.1))
  where
    most : (r : SeqRule) → choices_of r e.m k ≤ e.m
    most SeqPav = fits
    most SeqCc = fits
    most RevSeqPav = omega arith

-- ---- the winners of the values are those of the rule

bit-is : (b : Bool) → (cond b 1 0 == 1) ≡ b
bit-is true = refl
bit-is false = refl

pub winners-are : (s : Sequential) → s.k ≤ s.election.m → winners (λ w. cond (is_winner s w) 1 0) s.election.m s.k ≡ sequential_winners s.rule s.election s.k
winners-are s fits =
    let value : List ℕ → ℕ = λ (w : List ℕ). cond (is_winner s w) 1 0 in
    let all = increasing_lists 1 s.election.m s.k in
    let one = some-wins s.rule s.election s.k fits in
    let reached : value one.0 ≤ best_value value s.election.m s.k = no_greater_value value s.election.m s.k one.0 (increasing_lists-contains 1 s.election.m s.k one.0 (one.2, one.3)) in
    let most : best_value value s.election.m s.k ≤ 1 = greatest-most value 0 1 all (omega arith) (all-pass (λ w. value w ≤ 1) all (λ w. one-most (is_winner s w))) in
    let best : best_value value s.election.m s.k ≡ 1 = omega (arith, reached, most, ap {B = ℕ} (λ b. cond b 1 0) one.1) in
    winners-best value s.election.m s.k
    ∙ same_filter (λ w. value w == best_value value s.election.m s.k) (is_winner s) all
    (all-pass (λ w. (value w == best_value value s.election.m s.k) ≡ is_winner s w) all (λ w. ap (λ n. value w == n) best ∙ bit-is (is_winner s w)))
