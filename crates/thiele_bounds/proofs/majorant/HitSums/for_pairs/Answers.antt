use Rattle.std.proofs.Common.{ℕ, ◌*◌, ◌≤◌, Option, None, Some, arith}
use Rattle.std.specs.Prelude.{MatchOption, ⊤, slice_index}
use Rattle.std.proofs.Math.Nat.{mul-le-mul_left}
use Rattle.ballot_base.specs.Limits.{most_candidates}
use Rattle.thiele_bounds.specs.Steps.Paired.{most_sum}
use Rattle.thiele_bounds.specs.Steps.Units.{most_overlap}
use Rattle.thiele_bounds.specs.declared.majorant.HitSums.{HitSums}
use Rattle.thiele_bounds.proofs.majorant.HitSums.for_pairs.Goals as goal

-- all voters together overlap as little as each gives, times their number
fits-all : (voters units : ℕ) → voters * (64 * units) ≤ most_overlap → (Are : HitSums → Type 0) → (answer : Option HitSums)
    → MatchOption answer ⊤ (λ given. Are given × ((h : ℕ) → slice_index given.sums h ≤ 64 * units))
    → MatchOption answer ⊤ (λ given. Are given × (voters * most_sum given.sums ≤ most_overlap))
fits-all voters units fits Are None small = tt
fits-all voters units fits Are (Some given) small =
    let each : voters * most_sum given.sums ≤ voters * (64 * units) = mul-le-mul_left voters (small.1 most_candidates) in
    (small.0, omega (arith, each, fits))

pub returns : goal.returns
returns c = fits-all c.args.voters c.pair_units.result c.pair_units.ensures.fits _ c.of.result c.of.ensures
