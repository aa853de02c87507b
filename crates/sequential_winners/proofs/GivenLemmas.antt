-- What candidates bring together of whom no two share a voter who still gives: no more than their voters give.
use Rattle.std.proofs.Common.{◌≡◌, ℕ, zero, suc, ◌+◌, ◌*◌, ◌<◌, ◌≤◌, ◌^◌, ◌==◌, ◌&&◌, ◌||◌, ◌∙◌, Bool, true, false, cond, not, List, [], ◌∷◌, Some, slice_get, take, get_or, refl, sym, ap, arith, inl, inr, length, count_by, sum_by}
use Rattle.std.specs.Prelude.{nat_lt}
use Rattle.std.specs.List.{list_any}
use Rattle.std.proofs.Math.Nat.{mul-le-mul_left}
use Rattle.std.proofs.lemmas.Bool.{cases_lt, and_parts, and_from, both_ways, eq-eqb, lt-ltb, or_right}
use Rattle.std.proofs.lemmas.List.Sums.{sum_by-cons}
use Rattle.ballot_base.specs.Lists.{IsIncreasing}
use Rattle.ballot_base.specs.CandSet.{has_member, without_member}
use Rattle.ballot_base.specs.Ballots.{Row, Election, IsElection, hits}
use Rattle.ballot_base.proofs.Increasing.{has_member_head}
use Rattle.tie_walk.specs.Sequences.{weight}
use Rattle.tie_walk.specs.Steps.Choices.{hits_of, worth}
use Rattle.tie_walk.specs.declared.sequential.Step.{Step}
use Rattle.tie_walk.proofs.RowSums.{rows-bound}
use Rattle.tie_walk.proofs.WorthLemmas.{share, partial, part-most, worth-whole}
use Rattle.sequential_winners.specs.Steps.Levels.{next_hit, given_share, given}
use Rattle.sequential_winners.proofs.Lists.{member-without}
use Rattle.sequential_winners.proofs.Numbers.{bit, some-passes, member-counts, count-cons, count-without}

pub or-parts : (a b : Bool) → (a || b) ≡ false → (a ≡ false) × (b ≡ false)
or-parts false false none = (refl, refl)
or-parts false true none = absurd (let f : true ≡ false = none in cc)
or-parts true b none = absurd (let f : true ≡ false = none in cc)

pub not-equal : (a b : ℕ) → not (a == b) ≡ true → a ≡ b → ⊥
not-equal a b is same = let f : not true ≡ true = sym (ap not (eq-eqb a b same)) ∙ is in let g : false ≡ true = f in cc

pub some-factor : (a n k : ℕ) → a < n * k → 0 < k
some-factor a n zero less = absurd (let e : n * 0 ≡ 0 = grind arith in omega (arith, less, e))
some-factor a n (suc k) less = omega arith

-- ---- sums over candidates

sum-least : (least : ℕ) (w : ℕ → ℕ) (xs : List ℕ) → ((x : ℕ) → has_member xs x ≡ true → least ≤ w x) → length xs * least ≤ sum_by w xs
sum-least least w [] each = omega arith
sum-least least w (x ∷ xs) each =
    let more : length (x ∷ xs) * least ≡ least + length xs * least = omega arith in
    omega (arith, more, sum_by-cons w x xs, each x (has_member_head x xs), sum-least least w xs (λ y inside. each y (or_right (x == y) (has_member xs y) inside)))

sum-joined : (f g h : ℕ → ℕ) (xs : List ℕ) → ((x : ℕ) → f x ≡ g x + h x) → sum_by f xs ≡ sum_by g xs + sum_by h xs
sum-joined f g h [] each = refl
sum-joined f g h (x ∷ xs) each = omega (arith, each x, sum_by-cons f x xs, sum_by-cons g x xs, sum_by-cons h x xs, sum-joined f g h xs each)

sum-none : (xs : List ℕ) → sum_by (λ (x : ℕ). 0) xs ≡ 0
sum-none [] = refl
sum-none (x ∷ xs) = omega (arith, sum_by-cons (λ (y : ℕ). 0) x xs, sum-none xs)

sum-counted : (p : ℕ → Bool) (n k : ℕ) (xs : List ℕ) → sum_by (λ x. n * cond (p x) k 0) xs ≡ n * (k * count_by p xs)
sum-counted p n k [] = grind arith
sum-counted p n k (x ∷ xs) =
    sum_by-cons (λ y. n * cond (p y) k 0) x xs ∙ ap (λ s. n * cond (p x) k 0 + s) (sum-counted p n k xs) ∙ one (p x) (count_by p xs) ∙ ap (λ c. n * (k * c)) (sym (count-cons p x xs))
  where
    one : (b : Bool) (c : ℕ) → n * cond b k 0 + n * (k * c) ≡ n * (k * (bit b + c))
    one true c = omega arith
    one false c = omega arith

-- ---- candidates apart

module _ (step : Step) (weights set : List ℕ) (m : ℕ) (together candidates : List ℕ) (up : IsIncreasing 1 m together) (among : (t : ℕ) → has_member together t ≡ true → has_member candidates t ≡ true) where
  abbrev sharing : ℕ → ℕ → Row → Bool
  sharing c d row = nat_lt 0 (next_hit step weights set row) && (has_member row.0 c && has_member row.0 d)

  -- a voter gives at most once for them
  row-given : (row : Row) → ((c d : ℕ) → has_member together c ≡ true → has_member together d ≡ true → (c ≡ d → ⊥) → sharing c d row ≡ false)
      → next_hit step weights set row * count_by (has_member row.0) together ≤ given_share step weights set candidates row
  row-given row apart = elim (cases_lt 0 (next_hit step weights set row)) [
    | inr none ↦
        let zero-is : next_hit step weights set row ≡ 0 = omega (arith, none) in
        let e : next_hit step weights set row * count_by (has_member row.0) together ≡ 0 * count_by (has_member row.0) together = ap (λ n. n * count_by (has_member row.0) together) zero-is in
        omega (arith, e)
    | inl some ↦ elim (cases_lt 0 (count_by (has_member row.0) together)) [
      | inr nobody ↦
          let zero-is : count_by (has_member row.0) together ≡ 0 = omega (arith, nobody) in
          let e : next_hit step weights set row * count_by (has_member row.0) together ≡ next_hit step weights set row * 0 = ap (λ n. next_hit step weights set row * n) zero-is in
          omega (arith, e)
      | inl somebody ↦
          let t = some-passes (has_member row.0) together (omega (arith, somebody)) in
          elim (cases_lt 0 (count_by (has_member row.0) (without_member together t.0))) [
            | inl more ↦
                let s = some-passes (has_member row.0) (without_member together t.0) (omega (arith, more)) in
                let parts = and_parts (not (s.0 == t.0)) (has_member together s.0) (sym (member-without together t.0 s.0) ∙ s.1) in
                absurd (both_ways (sharing t.0 s.0 row) (apart t.0 s.0 t.1 parts.1 (λ e. not-equal s.0 t.0 parts.0 (sym e)))
                (and_from (nat_lt 0 (next_hit step weights set row)) (has_member row.0 t.0 && has_member row.0 s.0) (lt-ltb 0 (next_hit step weights set row) some) (and_from (has_member row.0 t.0) (has_member row.0 s.0) t.2 s.2)))
            | inr no-more ↦
                let one : count_by (has_member row.0) together ≡ 1 = omega (arith, no-more, count-without (has_member row.0) 1 m together t.0 up t.1, ap bit t.2) in
                let e : next_hit step weights set row * count_by (has_member row.0) together ≡ next_hit step weights set row * 1 = ap (λ n. next_hit step weights set row * n) one in
                let approves : 0 < hits row.0 candidates = omega (arith, member-counts (has_member candidates) row.0 t.0 t.2 (among t.0 t.1)) in
                let gives : given_share step weights set candidates row ≡ next_hit step weights set row = ap (λ b. cond b (next_hit step weights set row) 0) (lt-ltb 0 (hits row.0 candidates) approves) in
                omega (arith, e, gives)
          ]
    ]
  ]

  brought : (rows : List Row) → ((c d : ℕ) → has_member together c ≡ true → has_member together d ≡ true → (c ≡ d → ⊥) → list_any (sharing c d) rows ≡ false)
      → sum_by (λ t. partial step weights set t rows) together ≤ given step weights rows set candidates
  brought [] apart = omega (arith, sum-none together)
  brought (row ∷ rows) apart =
      let parts = λ (c d : ℕ) (c-in : has_member together c ≡ true) (d-in : has_member together d ≡ true) (other : c ≡ d → ⊥). or-parts (sharing c d row) (list_any (sharing c d) rows) (apart c d c-in d-in other) in
      let counted : sum_by (λ t. row.1 * share step weights set t row) together ≡ row.1 * (next_hit step weights set row * count_by (has_member row.0) together) =
      sum-counted (has_member row.0) row.1 (next_hit step weights set row) together in
      omega (
        arith,
        sum-joined (λ t. partial step weights set t (row ∷ rows)) (λ t. row.1 * share step weights set t row) (λ t. partial step weights set t rows) together
            (λ t. sum_by-cons (λ (r : Row). r.1 * share step weights set t r) row rows),
        counted,
        mul-le-mul_left row.1 (row-given row (λ c d c-in d-in other. (parts c d c-in d-in other).0)),
        sum_by-cons (λ (r : Row). r.1 * given_share step weights set candidates r) row rows,
        brought rows (λ c d c-in d-in other. (parts c d c-in d-in other).1),
      )

  -- where each of them brings so much
  pub apart-given : (rows : List Row) (least : ℕ) → ((c d : ℕ) → has_member together c ≡ true → has_member together d ≡ true → (c ≡ d → ⊥) → list_any (sharing c d) rows ≡ false)
      → ((t : ℕ) → has_member together t ≡ true → least ≤ worth step weights rows set t) → length together * least ≤ given step weights rows set candidates
  apart-given rows least apart each =
      omega (arith, sum-least least (λ t. partial step weights set t rows) together (λ t inside. omega (arith, worth-whole step weights rows set t, each t inside)), brought rows apart)

-- ---- the sum, as the code makes it

weight-most : (weights : List ℕ) (j most : ℕ) → ((i : ℕ) → get_or weights i 0 ≤ most) → weight weights j ≤ most
weight-most weights zero most all = omega arith
weight-most weights (suc j) most all = all j

-- the sum so far and what the next row's voters give
pub given-fits : (step : Step) (weights set candidates : List ℕ) (e : Election) (most i : ℕ) (row : Row) → IsElection e → ((j : ℕ) → get_or weights j 0 ≤ most) → slice_get e.rows i ≡ Some row
    → given step weights (take i e.rows) set candidates + row.1 * next_hit step weights set row ≤ 2 ^ 32 * most
given-fits step weights set candidates e most i row valid all found =
    rows-bound (λ (r : Row). next_hit step weights set r) (given_share step weights set candidates) (λ r. part-most (nat_lt 0 (hits r.0 candidates)) (next_hit step weights set r)) e most i row valid
    (λ r h. weight-most weights (hits_of step (hits r.0 set)) most all) found
