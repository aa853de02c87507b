-- Bounds that are the value of a completion: under approval voting and satisfaction approval voting each candidate gives
-- a committee the same, whoever else is in it.
use Rattle.std.proofs.lemmas.Grind.{common_steps}
use Rattle.std.proofs.Common.{◌≡◌, ℕ, zero, suc, ◌+◌, ◌-◌, ◌*◌, ◌<◌, ◌≤◌, ◌∙◌, cond, List, [], ◌∷◌, ◌++◌, refl, sym, ap, arith, inl, inr, length, length-append, append_assoc, get_or, sum_by, add-one, append-nil}
use Rattle.std.proofs.lemmas.Bool.{cases_lt}
use Rattle.std.proofs.lemmas.List.Sums.{sum_by-cons}
use Rattle.ballot_base.specs.Limits.{most_members}
use Rattle.ballot_base.specs.Lists.{IsIncreasing}
use Rattle.ballot_base.specs.CandSet.{has_member}
use Rattle.ballot_base.specs.CommonMultiple.{common_multiple}
use Rattle.ballot_base.specs.Increments.{increments}
use Rattle.ballot_base.specs.declared.increments.ThieleRule.TheVariants.{Av}
use Rattle.ballot_base.specs.Ballots.{Row, Election, IsElection, hits}
use Rattle.ballot_base.proofs.Increasing.{IsIncreasing-push, IsIncreasing-lower, IsIncreasing-higher, with_member-above, has_member-above}
use Rattle.ballot_base.proofs.WeightLemmas.{increments-within}
use Rattle.tie_walk.specs.Ceilings.{IsTight, ceiling, gain_at, greatest_sum}
use Rattle.tie_walk.specs.Sequences.{gain}
use Rattle.tie_walk.specs.Steps.Tables.{IsApproval, parts, score}
use Rattle.tie_walk.specs.Values.{thiele_value, satisfaction_value}
use Rattle.tie_walk.specs.declared.sequential.Step.TheVariants.{Grow}
use Rattle.tie_walk.proofs.Gains.{thiele-ceiling, thiele-nothing, thiele-partial, satisfaction-more, satisfaction-nothing}
use Rattle.tie_walk.proofs.GreatestSums.{best_of, best_of-none, best_of-short, best_of-more, greatest_sum-none, greatest_sum-same, ceiling-whole, same_sum}
use Rattle.tie_walk.proofs.Distances.{common-least_right}
use Rattle.tie_walk.proofs.RowSums.{AreBallots, length-common}
use Rattle.tie_walk.proofs.WorthLemmas.{partial, worth-whole}

-- some list has the greatest sum
module _ (worth : ℕ → ℕ) (last : ℕ) where
  pub attained : (n first size : ℕ) → size ≤ n → first + n ≤ last + 1
      → (list : List ℕ) × IsIncreasing first last list × (length list ≡ size) × (sum_by worth list ≡ best_of worth n first size)
  attained n first zero few fits = ([], tt, refl, sym (best_of-none worth n first))
  attained zero first (suc size) few fits = absurd (omega (arith, few))
  attained (suc n) first (suc size) few fits =
      let enough : size ≤ n = omega (arith, few) in
      let more = best_of-more worth n first size enough in
      elim (cases_lt (best_of worth n (first + 1) size + worth first) (best_of worth n (first + 1) (suc size))) [
        | inr low ↦
            let rest = attained n (first + 1) size enough (omega (arith, fits)) in (
              first ∷ rest.0,
              (omega arith, omega (arith, fits), rest.1),
              omega (arith, rest.2),
              omega (arith, sum_by-cons worth first rest.0, rest.3, more, low),
            )
        | inl high ↦ elim (cases_lt n (suc size)) [
          | inl short ↦ absurd (omega (arith, high, best_of-short worth n (first + 1) (suc size) short))
          | inr room ↦
              let rest = attained n (first + 1) (suc size) room (omega (arith, fits)) in (
                rest.0,
                IsIncreasing-lower first (first + 1) last rest.0 (omega arith) rest.1,
                rest.2,
                omega (arith, rest.3, more, high),
              )
        ]
      ]

-- each candidate gives a set with fewer than k members the same
module _ (value : List ℕ → ℕ) (m k : ℕ) (worth : ℕ → ℕ)
    (same : (set : List ℕ) (d x : ℕ) → IsIncreasing 1 d set → d < x → x ≤ m → length set < k → value (set ++ x ∷ []) ≡ value set + worth x) where
  additive : (set added : List ℕ) (d : ℕ) → IsIncreasing 1 d set → IsIncreasing (d + 1) m added → length set + length added ≤ k
      → value (set ++ added) ≡ value set + sum_by worth added
  additive set [] d up above few = omega (arith, ap value (append-nil set))
  additive set (x ∷ added) d up above few =
      let over : d < x = omega (arith, above.0) in
      let next = additive (set ++ x ∷ []) added x (IsIncreasing-push 1 d set x up (omega (arith, over)) over) above.2 (omega (arith, length-append set (x ∷ []), few)) in
      omega (
        arith,
        ap value (sym (append_assoc set (x ∷ []) added)),
        same set d x up over above.1 (omega (arith, few)),
        sum_by-cons worth x added,
      )

  gains-same : (set : List ℕ) (c : ℕ) → IsIncreasing 1 c set → length set < k → (x : ℕ) → c + 1 ≤ x → x ≤ m → gain_at value set x ≡ worth x
  gains-same set c up few x low high = grind (arith, common_steps, with_member-above)

  pub additive-tight : IsTight value (λ c set left. ceiling value m c set left) m k
  additive-tight c set zero inside up size fits = ([], (tt, refl), ceiling-whole value m c set ∙ sym (ap value (append-nil set)))
  additive-tight c set (suc left) inside up size fits =
      let found = attained worth m (m + 1 - (c + 1)) (c + 1) (suc left) (omega (arith, fits)) (omega (arith, inside)) in
      let few : length set < k = omega (arith, size) in
      let sums : greatest_sum (gain_at value set) (c + 1) m (suc left) ≡ greatest_sum worth (c + 1) m (suc left) =
      greatest_sum-same (gain_at value set) worth (c + 1) m (gains-same set c up few) (suc left) in
      let whole = additive set found.0 c up found.1 (omega (arith, size, found.2)) in
      (found.0, (found.1, found.2), omega (arith, sums, whole, found.3))

-- ---- approval voting

-- a committee has no more hits than members
pub hits-most : (first last first' last' : ℕ) (ballot set : List ℕ) → IsIncreasing first last ballot → IsIncreasing first' last' set → hits ballot set ≤ length set
hits-most first last first' last' ballot set up is =
    let wide : IsIncreasing 0 (last + last') ballot = IsIncreasing-lower 0 first (last + last') ballot (omega arith) (IsIncreasing-higher first last (last + last') ballot (omega arith) up) in
    let wide' : IsIncreasing 0 (last + last') set = IsIncreasing-lower 0 first' (last + last') set (omega arith) (IsIncreasing-higher first' last' (last + last') set (omega arith) is) in
    omega (arith, length-common ballot set, common-least_right 0 (last + last') ballot set wide wide')

approvals : List Row → ℕ → ℕ
approvals rows x = sum_by (λ (row : Row). row.1 * cond (has_member row.0 x) 1 0) rows

approved : (m k d x : ℕ) (rows : List Row) (set : List ℕ) → k ≤ most_members → AreBallots m rows → IsIncreasing 1 d set → length set < k
    → partial Grow (increments Av k) set x rows ≡ approvals rows x
unfolding approvals
approved m k d x [] set small all up few = refl
approved m k d x (row ∷ rows) set small all up few =
    grind (arith, common_steps, approved m k d x rows set small all.1 up few, hits-most, add-one, increments-within, sum_by-cons)

-- what a set with fewer than k members gains by a candidate is what a set without members gains
approval-gain : (e : Election) (k d x : ℕ) (set : List ℕ) → IsElection e → 1 ≤ k → k ≤ most_members → IsIncreasing 1 d set → length set < k
    → gain (increments Av k) e.rows set x ≡ gain (increments Av k) e.rows [] x
approval-gain e k d x set valid some small up few =
    omega (
      arith,
      approved e.m k d x e.rows set small valid.ballots up few,
      approved e.m k d x e.rows [] small valid.ballots tt (omega (arith, some)),
      worth-whole Grow (increments Av k) e.rows set x,
      worth-whole Grow (increments Av k) e.rows [] x,
    )

approval-joined : (e : Election) (k : ℕ) → IsElection e → k ≤ most_members → (set : List ℕ) (d x : ℕ) → IsIncreasing 1 d set → d < x → x ≤ e.m → length set < k
    → thiele_value (increments Av k) e.rows (set ++ x ∷ []) ≡ thiele_value (increments Av k) e.rows set + approvals e.rows x
approval-joined e k valid small set d x up over high few =
    omega (
      arith,
      ap (thiele_value (increments Av k) e.rows) (with_member-above 1 d set x up over),
      thiele-partial e.m (increments Av k) e.rows set x valid.ballots (has_member-above 1 d set x up over),
      approved e.m k d x e.rows set small valid.ballots up few,
    )

pub approval-tight : (e : Election) (k : ℕ) → IsElection e → k ≤ most_members
    → IsTight (λ set. thiele_value (increments Av k) e.rows set) (λ c set left. ceiling (thiele_value (increments Av k) e.rows) e.m c set left) e.m k
approval-tight e k valid small = additive-tight (λ set. thiele_value (increments Av k) e.rows set) e.m k (approvals e.rows) (approval-joined e k valid small)

-- a committee has the approvals of its members, here summed as `excess` over 0 sums them
pub approval-sum : (e : Election) (k : ℕ) (table set : List ℕ) → IsApproval e k table → IsIncreasing 1 e.m set → length set ≤ k
    → thiele_value (increments Av k) e.rows set ≡ sum_by (λ x. get_or table x 0 - 0) set
approval-sum e k table set is up few =
    omega (
      arith,
      additive (λ list. thiele_value (increments Av k) e.rows list) e.m k (approvals e.rows) (approval-joined e k is.election is.size) [] set 0 tt up (omega (arith, few)),
      thiele-nothing (increments Av k) e.rows,
      same_sum (approvals e.rows) (λ x. get_or table x 0 - 0) 1 e.m each 1 set (omega arith) up,
    )
  where
    each : (x : ℕ) → 1 ≤ x → x ≤ e.m → approvals e.rows x ≡ get_or table x 0 - 0
    each x low high =
        omega (
          arith,
          is.approvals_are x low high,
          approved e.m k 0 x e.rows [] is.size is.election.ballots tt (omega (arith, is.some)),
          worth-whole Grow (increments Av k) e.rows [] x,
        )

-- the ceiling by the approvals
pub approval-ceiling : (e : Election) (k c left : ℕ) (table set : List ℕ) → IsApproval e k table → IsIncreasing 1 c set → length set + left ≤ k
    → thiele_value (increments Av k) e.rows set + greatest_sum (λ x. get_or table x 0) (c + 1) e.m left ≡ ceiling (thiele_value (increments Av k) e.rows) e.m c set left
approval-ceiling e k c zero table set is up few =
    omega (
      arith,
      greatest_sum-none (λ x. get_or table x 0) (c + 1) e.m,
      ceiling-whole (thiele_value (increments Av k) e.rows) e.m c set,
    )
approval-ceiling e k c (suc left) table set is up few =
    thiele-ceiling e (increments Av k) table c (suc left) set is.election up
    (λ x low high. is.approvals_are x (omega (arith, low)) high ∙ sym (approval-gain e k c x set is.election is.some is.size up (omega (arith, few))))

-- ---- satisfaction approval voting

satisfaction-joined : (e : Election) → IsElection e → (k : ℕ) (set : List ℕ) (d x : ℕ) → IsIncreasing 1 d set → d < x → x ≤ e.m → length set < k
    → satisfaction_value e.m e.rows (set ++ x ∷ []) ≡ satisfaction_value e.m e.rows set + score (parts (common_multiple e.m)) e.rows x
satisfaction-joined e valid k set d x up over high few =
    omega (
      arith,
      ap (satisfaction_value e.m e.rows) (with_member-above 1 d set x up over),
      satisfaction-more e.m e.m (parts (common_multiple e.m)) e.rows set x valid.most valid.ballots refl (has_member-above 1 d set x up over),
    )

pub satisfaction-tight : (e : Election) (k : ℕ) → IsElection e
    → IsTight (λ set. satisfaction_value e.m e.rows set) (λ c set left. ceiling (satisfaction_value e.m e.rows) e.m c set left) e.m k
satisfaction-tight e k valid = additive-tight (λ set. satisfaction_value e.m e.rows set) e.m k (score (parts (common_multiple e.m)) e.rows) (satisfaction-joined e valid k)

-- a committee has what its members have
pub satisfaction-sum : (e : Election) (set : List ℕ) → IsElection e → IsIncreasing 1 e.m set
    → satisfaction_value e.m e.rows set ≡ sum_by (score (parts (common_multiple e.m)) e.rows) set
satisfaction-sum e set valid up =
    let shares : List ℕ = parts (common_multiple e.m) in
    omega (
      arith,
      additive (λ list. satisfaction_value e.m e.rows list) e.m (length set) (score shares e.rows) (satisfaction-joined e valid (length set)) [] set 0 tt up (omega arith),
      satisfaction-nothing e shares valid refl,
    )
