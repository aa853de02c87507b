-- Under the rule of Chamberlin and Courant a set is worth the number of voters who approve one of its members.
use Rattle.std.proofs.Common.{◌≡◌, ℕ, zero, suc, ◌+◌, ◌*◌, ◌≤◌, ◌∙◌, Bool, true, false, Option, cond, min, sum, sum_by, take, List, [], ◌∷◌, refl, ap, arith, inl, inr, length, get_or}
use Rattle.std.specs.Prelude.{MatchOption}
use Rattle.std.specs.Bool.{then_some}
use Rattle.std.proofs.lemmas.Bool.{cases_lt, ne_eqb}
use Rattle.std.proofs.lemmas.List.Sums.{sum_by-cons}
use Rattle.ballot_base.specs.Limits.{most_members}
use Rattle.ballot_base.specs.Ballots.{Row, hits}
use Rattle.ballot_base.specs.Increments.{increments}
use Rattle.ballot_base.specs.declared.increments.ThieleRule.TheVariants.{Cc}
use Rattle.ballot_base.proofs.WeightLemmas.{increments-past, increments-within}
use Rattle.tie_walk.specs.Values.{Thiele, tally_value, thiele_value}
use Rattle.tie_walk.proofs.TableLemmas.{sum-take_more}
use Rattle.thiele_search.specs.Steps.Columns.{block_voters, total, approves_some, voter_ballot, voters_of, AreColumnsOf}
use Rattle.thiele_search.proofs.ColumnLemmas.{total-voters, voters-sum}

-- what is given if the condition holds is right, and nothing is right if it does not
pub by-condition : (b : Bool) (free : List ℕ) (Out : Type 0) (Is : List ℕ → Type 0) → (b ≡ false → Out) → Is free → (answer : Option (List ℕ)) → answer ≡ then_some b free → MatchOption answer Out Is
by-condition true free Out Is out is answer same = rw same is
by-condition false free Out Is out is answer same = rw same (out refl)

-- only the first hit counts
first-alone : (w : List ℕ) (x : ℕ) → get_or w 0 0 ≡ 1 → ((i : ℕ) → get_or w (suc i) 0 ≡ 0) → sum (take x w) ≡ min x 1
first-alone w zero one none = omega arith
first-alone w (suc zero) one none = omega (arith, sum-take_more w 0, one)
first-alone w (suc (suc x)) one none =
    let before : sum (take (suc x) w) ≡ min (suc x) 1 = first-alone w (suc x) one none in
    let more : sum (take (suc (suc x)) w) ≡ sum (take (suc x + 1) w) = ap (λ n. sum (take n w)) (let e : suc (suc x) ≡ suc x + 1 = omega arith in e) in
    omega (arith, before, more, sum-take_more w (suc x), none x)

cc-alone : (k x : ℕ) → 1 ≤ k → k ≤ most_members → sum (take x (increments Cc k)) ≡ min x 1
cc-alone k x some size = first-alone (increments Cc k) x (increments-within Cc k 0 (omega (arith, some, size)) some) later
  where
    later : (i : ℕ) → get_or (increments Cc k) (suc i) 0 ≡ 0
    later i = elim (cases_lt (suc i) k) [
      | inl low ↦ increments-within Cc k (suc i) (omega (arith, low, size)) low ∙ ap (λ b. cond {A = ℕ} b 1 0) (ne_eqb (suc i + 1) 1 (λ e. absurd (omega (arith, e))))
      | inr high ↦ increments-past Cc k (suc i) high
    ]

rows-cover : (w set : List ℕ) → ((x : ℕ) → sum (take x w) ≡ min x 1) → (rows : List Row) → thiele_value w rows set ≡ sum_by (λ (r : Row). r.1 * approves_some set r.0) rows
rows-cover w set alone [] = refl
rows-cover w set alone (row ∷ rows) =
    omega (
      arith,
      ap (λ n. row.1 * n) (alone (hits row.0 set)),
      rows-cover w set alone rows,
      sum_by-cons (λ (r : Row). r.1 * sum (take (hits r.0 set) w)) row rows,
      sum_by-cons (λ (r : Row). r.1 * approves_some set r.0) row rows,
    )

pub columns-cover : (tally : Thiele) (blocks : List (List ℕ)) (weights set : List ℕ) → AreColumnsOf tally blocks weights → 1 ≤ tally.k → tally.k ≤ most_members → tally.rule ≡ Cc
    → tally_value tally set ≡ total (λ v. approves_some set (voter_ballot (voters_of tally.election.rows) v)) (length blocks * block_voters)
columns-cover tally blocks weights set are some size rule =
    omega (
      arith,
      rows-cover (increments tally.rule tally.k) set (λ x. rw rule (cc-alone tally.k x some size)) tally.election.rows,
      total-voters (approves_some set) refl (voters_of tally.election.rows) (length blocks * block_voters) are.all,
      voters-sum (approves_some set) tally.election.rows,
    )
