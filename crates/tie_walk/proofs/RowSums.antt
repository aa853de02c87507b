-- Sums over the rows of a profile, of the voters of each times what one of them gives.
use Rattle.std.proofs.lemmas.Grind.{common_steps}
use Rattle.std.proofs.Common.{◌≡◌, ℕ, ◌+◌, ◌*◌, ◌<◌, ◌≤◌, ◌^◌, ◌∙◌, List, [], ◌∷◌, Some, refl, ap, arith, length, take, get_or, slice_get, sum_by}
use Rattle.std.proofs.Math.Nat.{mul-le-mul, mul-le-mul_left}
use Rattle.std.specs.List.{AllByRecursion}
use Rattle.std.proofs.lemmas.List.Sums.{sum_by-cons, sum_by_more, sum_by_more_le_part, length-filter, count_by-le-length}
use Rattle.std.proofs.lemmas.Option.{get_or_from_slice_get, slice_get_within}
use Rattle.std.proofs.lemmas.Bool.{ne_eqb}
use Rattle.ballot_base.specs.Limits.{most_candidates, most_voters}
use Rattle.ballot_base.specs.Lists.{IsIncreasing}
use Rattle.ballot_base.specs.CandSet.{has_member, common_members}
use Rattle.ballot_base.specs.CommonMultiple.{common_multiple}
use Rattle.ballot_base.specs.Ballots.{Row, Election, IsElection, hits, voter_count}
use Rattle.ballot_base.proofs.Committees.{length-increasing}
use Rattle.ballot_base.proofs.LeastMultiples.{common_multiple_small}
use Rattle.tie_walk.specs.Values.{satisfaction_value}
use Rattle.tie_walk.specs.Steps.Tables.{parts}
use Rattle.tie_walk.proofs.TableLemmas.{parts-at, parts-most}

-- the candidates of each ballot are 1 to m
abbrev pub AreBallots : ℕ → List Row → Type 0
AreBallots m rows = AllByRecursion (λ (row : Row). IsIncreasing 1 m row.0) rows

-- the common members are the hits
pub length-common : (ballot committee : List ℕ) → length (common_members ballot committee) ≡ hits ballot committee
length-common ballot committee = length-filter (has_member committee) ballot

pub hits-most : (m : ℕ) (ballot committee : List ℕ) → m ≤ most_candidates → IsIncreasing 1 m ballot → hits ballot committee ≤ most_candidates
hits-most m ballot committee most h = omega (arith, length-increasing 1 m ballot h, count_by-le-length (has_member committee) ballot)

module _ (worth : Row → ℕ) where
  -- a row more
  pub rows-more : (rows : List Row) (i : ℕ) (row : Row) → slice_get rows i ≡ Some row
      → sum_by (λ (r : Row). r.1 * worth r) (take (i + 1) rows) ≡ sum_by (λ (r : Row). r.1 * worth r) (take i rows) + row.1 * worth row
  rows-more rows i row found =
      grind (arith, common_steps, get_or_from_slice_get rows i row row found, slice_get_within rows i row found, sum_by_more)

  rows-most : (m most : ℕ) (rows : List Row) → AreBallots m rows → ((r : Row) → IsIncreasing 1 m r.0 → worth r ≤ most)
      → sum_by (λ (r : Row). r.1 * worth r) rows ≤ voter_count rows * most
  rows-most m most [] all each = omega arith
  rows-most m most (row ∷ rows) all each =
      let product : row.1 * worth row ≤ row.1 * most = mul-le-mul {n₁ = row.1} (omega arith) (each row all.0) in
      let split : voter_count (row ∷ rows) * most ≡ row.1 * most + voter_count rows * most = ap (λ n. n * most) (sum_by-cons (λ (r : Row). r.1) row rows) ∙ omega arith in
      omega (arith, product, split, sum_by-cons (λ (r : Row). r.1 * worth r) row rows, rows-most m most rows all.1 each)

  -- all voters together
  pub all-most : (e : Election) (most : ℕ) → IsElection e → ((r : Row) → IsIncreasing 1 e.m r.0 → worth r ≤ most)
      → sum_by (λ (r : Row). r.1 * worth r) e.rows ≤ most_voters * most
  all-most e most valid each =
      grind (arith, common_steps, mul-le-mul, rows-most e.m most e.rows valid.ballots each)

  -- a part of what was given so far, and what the next row's voters give
  pub rows-bound : (part : Row → ℕ) → ((r : Row) → part r ≤ worth r) → (e : Election) (most i : ℕ) (row : Row) → IsElection e → ((r : Row) → IsIncreasing 1 e.m r.0 → worth r ≤ most)
      → slice_get e.rows i ≡ Some row → sum_by (λ (r : Row). r.1 * part r) (take i e.rows) + row.1 * worth row ≤ most_voters * most
  rows-bound part less e most i row valid each found =
      let here : get_or e.rows i row ≡ row = get_or_from_slice_get e.rows i row row found in
      let within : i < length e.rows = slice_get_within e.rows i row found in
      let so_far = rw here at (sum_by_more_le_part (λ (r : Row). r.1 * part r) (λ (r : Row). r.1 * worth r) e.rows i row within (λ r. mul-le-mul_left r.1 (less r))) in
      let product : voter_count e.rows * most ≤ most_voters * most = mul-le-mul {m₁ = most} valid.voters (omega arith) in
      omega (arith, so_far, product, rows-most e.m most e.rows valid.ballots each)

-- the sum of two amounts
pub sum-parts : (f g h : Row → ℕ) (m : ℕ) (rows : List Row) → AreBallots m rows → ((r : Row) → IsIncreasing 1 m r.0 → f r ≡ g r + h r)
    → sum_by f rows ≡ sum_by g rows + sum_by h rows
sum-parts f g h m [] all each = refl
sum-parts f g h m (row ∷ rows) all each = omega (arith, each row all.0, sum-parts f g h m rows all.1 each, sum_by-cons f row rows, sum_by-cons g row rows, sum_by-cons h row rows)

-- by a table of the parts of a whole
pub satisfaction_value-by_parts : (m n : ℕ) (shares : List ℕ) (rows : List Row) (committee : List ℕ) → m ≤ most_candidates → AreBallots m rows → shares ≡ parts (common_multiple n)
    → sum_by (λ (r : Row). r.1 * hits r.0 committee * get_or shares (length r.0) 0) rows ≡ satisfaction_value n rows committee
satisfaction_value-by_parts m n shares [] committee most all is = refl
satisfaction_value-by_parts m n shares (([], voters) ∷ rows) committee most all is =
    grind (arith, common_steps, satisfaction_value-by_parts m n shares rows committee most all.1 is, sum_by-cons, get_or)
satisfaction_value-by_parts m n shares ((x ∷ ballot, voters) ∷ rows) committee most all is =
    grind (arith, common_steps, satisfaction_value-by_parts m n shares rows committee most all.1 is, parts-at, length-increasing, ne_eqb, sum_by-cons)

-- no part is more than the whole
pub parts-bound : (n : ℕ) (shares : List ℕ) (x : ℕ) → n ≤ most_candidates → shares ≡ parts (common_multiple n) → get_or shares x 0 < 2 ^ 90
parts-bound n shares x few is = omega (arith, ap (λ s. get_or s x 0) is, parts-most (common_multiple n) x, common_multiple_small n few)
