-- Each further seat has a smaller claim.
use Rattle.std.proofs.Common.{◌≡◌, ℕ, zero, suc, ◌+◌, ◌-◌, ◌*◌, ◌<◌, false, refl, ◌∙◌, arith, mul-lt-mul_of_pos_right, mul_comm, mul-pos}
use Rattle.seat_share.specs.declared.method.Method.{Method}
use Rattle.seat_share.specs.declared.method.Method.TheVariants.{Hamilton, Dhondt, SainteLague, Huntington, Adams, Dean}
use Rattle.seat_share.specs.Quotients.{is_at_least}
use Rattle.seat_share.specs.Steps.Claims.{claim}
use Rattle.seat_share.proofs.Order.{le-false, over_some, over_some_and_zero}

-- the same is divided by more
less_over_more : (v b c : ℕ) → 0 < v → b < c → is_at_least (v, c) (v, b) ≡ false
less_over_more v zero c some more = over_some_and_zero v c v 0 (omega (arith, more)) refl
less_over_more v (suc b) c some more =
    let product : suc b * v < c * v = mul-lt-mul_of_pos_right more some in
    over_some v c v (suc b) (omega (arith, more)) (omega arith)
    ∙ le-false (v * c) (v * suc b) (omega (arith, product, mul_comm (suc b) v, mul_comm c v))

dean_left : (v s : ℕ) → v * (2 * (s + 1) + 1) * (2 * s * (s + 1)) ≡ ((2 * s + 3) * s) * (v * (2 * (s + 1)))
dean_left v s = grind arith

dean_right : (v s : ℕ) → v * (2 * s + 1) * (2 * (s + 1) * (s + 1 + 1)) ≡ ((2 * s + 1) * (s + 2)) * (v * (2 * (s + 1)))
dean_right v s = grind arith

dean_middle : (s : ℕ) → (2 * s + 3) * s < (2 * s + 1) * (s + 2)
dean_middle s = grind arith

pub claims-fall : (method : Method) (total most : ℕ) → 0 < total → (v s : ℕ) → 0 < v → s < most → is_at_least (claim method total most v (s + 1)) (claim method total most v s) ≡ false
claims-fall Hamilton total most all v s some fits =
    let split : most - s ≡ suc (most - (s + 1)) = omega (arith, fits) in
    let more : (most - s) * total ≡ total + (most - (s + 1)) * total = rw split (omega arith) in
    over_some (v * most + (most - (s + 1)) * total) 1 (v * most + (most - s) * total) 1 (omega arith) (omega arith)
    ∙ le-false ((v * most + (most - s) * total) * 1) ((v * most + (most - (s + 1)) * total) * 1) (omega (arith, more, all))
claims-fall Dhondt total most all v s some fits = less_over_more v (s + 1) (s + 1 + 1) some (omega arith)
claims-fall SainteLague total most all v s some fits = less_over_more v (2 * s + 1) (2 * (s + 1) + 1) some (omega arith)
claims-fall Huntington total most all v s some fits = less_over_more (v * v) (s * (s + 1)) ((s + 1) * (s + 1 + 1)) (mul-pos some some) (grind arith)
claims-fall Adams total most all v s some fits = less_over_more v s (s + 1) some (omega arith)
claims-fall Dean total most all v zero some fits = over_some_and_zero (v * (2 * 1 + 1)) (2 * 1 * (1 + 1)) (v * 1) 0 (omega arith) refl
claims-fall Dean total most all v (suc s) some fits =
    let t : ℕ = suc s in
    let product : ((2 * t + 3) * t) * (v * (2 * (t + 1))) < ((2 * t + 1) * (t + 2)) * (v * (2 * (t + 1))) =
    mul-lt-mul_of_pos_right (dean_middle t) (mul-pos some (omega arith)) in
    over_some (v * (2 * (t + 1) + 1)) (2 * (t + 1) * (t + 1 + 1)) (v * (2 * t + 1)) (2 * t * (t + 1)) (grind arith) (grind arith)
    ∙ le-false (v * (2 * t + 1) * (2 * (t + 1) * (t + 1 + 1))) (v * (2 * (t + 1) + 1) * (2 * t * (t + 1))) (omega (arith, product, dean_left v t, dean_right v t))
