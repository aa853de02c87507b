-- What a set gains by a candidate, or loses with one, over the rows.
use Rattle.std.proofs.lemmas.Grind.{common_steps}
use Rattle.std.proofs.Common.{◌≡◌, ℕ, zero, suc, ◌+◌, ◌*◌, ◌≤◌, ◌^◌, ◌&&◌, Bool, true, false, cond, List, [], ◌∷◌, Some, refl, arith, take, get_or, slice_get, sum_by, replicate}
use Rattle.std.proofs.lemmas.List.Sums.{sum_by-cons}
use Rattle.ballot_base.specs.CandSet.{has_member}
use Rattle.ballot_base.specs.Ballots.{Row, Election, IsElection, hits}
use Rattle.tie_walk.specs.Sequences.{weight, supporters}
use Rattle.tie_walk.specs.Steps.Choices.{worth, hits_of}
use Rattle.tie_walk.specs.declared.sequential.Step.{Step}
use Rattle.tie_walk.specs.declared.sequential.Step.TheVariants.{Grow, Shrink}
use Rattle.tie_walk.proofs.RowSums.{all-most, rows-more, rows-bound}

-- what a voter of the row gives
abbrev pub share : Step → List ℕ → List ℕ → ℕ → Row → ℕ
share step weights set c row = cond (has_member row.0 c) (weight weights (hits_of step (hits row.0 set))) 0

-- the sum over the rows so far
abbrev pub partial : Step → List ℕ → List ℕ → ℕ → List Row → ℕ
partial step weights set c rows = sum_by (λ (row : Row). row.1 * share step weights set c row) rows

product-of-part : (b : Bool) (n w : ℕ) → n * cond b w 0 ≡ cond b (n * w) 0
product-of-part true n w = refl
product-of-part false n w = omega arith

pub supported : (f : Row → ℕ) (c : ℕ) (rows : List Row) → sum_by (λ (row : Row). row.1 * cond (has_member row.0 c) (f row) 0) rows ≡ sum_by (λ (row : Row). row.1 * f row) (supporters rows c)
supported f c [] = refl
supported f c (row ∷ rows) = grind (arith, common_steps, supported f c rows, sum_by-cons, sum_by)

pub worth-whole : (step : Step) (weights : List ℕ) (rows : List Row) (set : List ℕ) (c : ℕ) → partial step weights set c rows ≡ worth step weights rows set c
worth-whole Grow weights rows set c = supported (λ (row : Row). weight weights (hits row.0 set + 1)) c rows
worth-whole Shrink weights rows set c = supported (λ (row : Row). weight weights (hits row.0 set)) c rows

weight-most : (weights : List ℕ) (j most : ℕ) → ((i : ℕ) → get_or weights i 0 ≤ most) → weight weights j ≤ most
weight-most weights zero most all = omega arith
weight-most weights (suc j) most all = all j

pub part-most : (b : Bool) (n : ℕ) → cond b n 0 ≤ n
part-most true n = omega arith
part-most false n = omega arith

pub worth-most : (step : Step) (e : Election) (weights set : List ℕ) (c most : ℕ) → IsElection e → ((i : ℕ) → get_or weights i 0 ≤ most)
    → worth step weights e.rows set c ≤ 2 ^ 32 * most
worth-most step e weights set c most valid all =
    omega (arith, worth-whole step weights e.rows set c, all-most (share step weights set c) e most valid (λ r up. let more = weight-most weights (hits_of step (hits r.0 set)) most all in omega (arith, more, part-most (has_member r.0 c) (weight weights (hits_of step (hits r.0 set))))))

-- a part of nothing is nothing
nothing-of : {x : ℕ} (b : Bool) → x ≡ 0 → cond b x 0 ≡ 0
nothing-of true none = none
nothing-of false none = refl

module _ (step : Step) (weights set : List ℕ) where
  pub partial-more : (rows : List Row) (i c : ℕ) (row : Row) → slice_get rows i ≡ Some row
      → partial step weights set c (take (i + 1) rows) ≡ partial step weights set c (take i rows) + cond (has_member row.0 c) (row.1 * weight weights (hits_of step (hits row.0 set))) 0
  partial-more rows i c row found =
      omega (arith, rows-more (share step weights set c) rows i row found, product-of-part (has_member row.0 c) row.1 (weight weights (hits_of step (hits row.0 set))))

  -- a row whose voters give nothing leaves the sum as it was
  pub partial-same : (rows : List Row) (i c : ℕ) (row : Row) → slice_get rows i ≡ Some row
      → row.1 * weight weights (hits_of step (hits row.0 set)) ≡ 0
      → partial step weights set c (take i rows) ≡ partial step weights set c (take (i + 1) rows)
  partial-same rows i c row found none =
      omega (arith, partial-more rows i c row found, nothing-of (has_member row.0 c) none)

  -- the sum so far and what the next row's voters give
  pub partial-fits : (e : Election) (most i c : ℕ) (row : Row) → IsElection e → ((j : ℕ) → get_or weights j 0 ≤ most) → slice_get e.rows i ≡ Some row
      → partial step weights set c (take i e.rows) + row.1 * weight weights (hits_of step (hits row.0 set)) ≤ 2 ^ 32 * most
  partial-fits e most i c row valid all found =
      rows-bound (λ (r : Row). weight weights (hits_of step (hits r.0 set))) (share step weights set c) (λ r. part-most (has_member r.0 c) (weight weights (hits_of step (hits r.0 set)))) e most i row valid
      (λ r h. weight-most weights (hits_of step (hits r.0 set)) most all) found

pub no_total : (n i : ℕ) → get_or {A = ℕ} (replicate n 0) i 0 ≡ 0
no_total zero i = refl
no_total (suc n) zero = refl
no_total (suc n) (suc i) = no_total n i

-- ---- where only the gains by some candidates are wanted

pub not_wanted : (b : Bool) (n : ℕ) → n ≡ 0 → cond b n 0 ≡ 0
not_wanted true n none = none
not_wanted false n none = refl

pub wanted-step : (wanted member : Bool) (part worth : ℕ) → cond wanted part 0 + cond (wanted && member) worth 0 ≡ cond wanted (part + cond member worth 0) 0
wanted-step true member part worth = refl
wanted-step false member part worth = refl
