-- What claims divide, and what they divide by, within the limits.
use Rattle.std.proofs.Common.{ℕ, ◌+◌, ◌-◌, ◌*◌, ◌^◌, ◌<◌, ◌≤◌, arith, mul-le-mul}
use Rattle.seat_share.specs.declared.method.Method.{Method}
use Rattle.seat_share.specs.declared.method.Method.TheVariants.{Hamilton, Dhondt, SainteLague, Huntington, Adams, Dean}
use Rattle.seat_share.specs.Limits.{most_seats, most_votes}
use Rattle.seat_share.specs.Steps.Claims.{IsWithinLimits, claim, most_dividend, most_divisor}

module _ (total most v s : ℕ) (within : IsWithinLimits total most v s) where
  pub claim-dividend : (method : Method) → (claim method total most v s).0 ≤ most_dividend
  claim-dividend Hamilton =
      let own : v * most ≤ most_votes * most_seats = mul-le-mul within.own_votes within.few_seats in
      let left : most - s ≤ most_seats = omega (arith, within.few_seats) in
      let others : (most - s) * total ≤ most_seats * most_votes = mul-le-mul left within.few_votes in
      omega (arith, own, others)
  claim-dividend Dhondt = omega (arith, within.own_votes)
  claim-dividend SainteLague = omega (arith, within.own_votes)
  claim-dividend Huntington = mul-le-mul within.own_votes within.own_votes
  claim-dividend Adams = omega (arith, within.own_votes)
  claim-dividend Dean =
      let few : 2 * s + 1 ≤ most_votes = omega (arith, within.few_seats, within.own_seats) in
      mul-le-mul within.own_votes few

  pub claim-divisor : (method : Method) → (claim method total most v s).1 ≤ most_divisor
  claim-divisor Hamilton = omega arith
  claim-divisor Dhondt = omega (arith, within.few_seats, within.own_seats)
  claim-divisor SainteLague = omega (arith, within.few_seats, within.own_seats)
  claim-divisor Huntington =
      let few : s ≤ most_seats = omega (arith, within.few_seats, within.own_seats) in
      let next : s + 1 ≤ most_seats + 1 = omega (arith, few) in
      let product : s * (s + 1) ≤ most_seats * (most_seats + 1) = mul-le-mul few next in
      omega (arith, product)
  claim-divisor Adams = omega (arith, within.few_seats, within.own_seats)
  claim-divisor Dean =
      let few : 2 * s ≤ 2 * most_seats = omega (arith, within.few_seats, within.own_seats) in
      let next : s + 1 ≤ most_seats + 1 = omega (arith, within.few_seats, within.own_seats) in
      mul-le-mul few next

pub products-fit : (method : Method) (total most v s w t : ℕ) → IsWithinLimits total most v s → IsWithinLimits total most w t
    → (claim method total most v s).0 * (claim method total most w t).1 < 2 ^ 92
products-fit method total most v s w t one other =
    let product : (claim method total most v s).0 * (claim method total most w t).1 ≤ most_dividend * most_divisor =
    mul-le-mul (claim-dividend total most v s one method) (claim-divisor total most w t other method) in
    omega (arith, product)
