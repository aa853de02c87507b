-- Quotients are in one order: each two compare, and what is at least another is at least what that is at least.
use Rattle.std.proofs.Common.{◌≡◌, ℕ, zero, suc, ◌*◌, ◌<◌, ◌≤◌, ◌==◌, true, false, refl, sym, ◌∙◌, arith, true≢false, mul-le-mul_right, le_of_mul-le-mul_right, mul_right_comm}
use Rattle.std.specs.Prelude.{nat_le}
use Rattle.seat_share.specs.Quotients.{Quotient, is_at_least}

pub absurd : {P : Type 0} → false ≡ true → P
absurd h = elim (true≢false (sym h)) [ ]

pub le-true : (a b : ℕ) → a ≤ b → nat_le a b ≡ true
le-true a b h = grind arith

pub true-le : (a b : ℕ) → nat_le a b ≡ true → a ≤ b
true-le a b h = grind arith

pub le-false : (a b : ℕ) → b < a → nat_le a b ≡ false
le-false a b h = grind arith

pub false-lt : (a b : ℕ) → nat_le a b ≡ false → b < a
false-lt a b h = grind arith

-- x/b is at least y/d, and that at least z/f
cross : (a b c d e f : ℕ) → 0 < d → c * b ≤ a * d → e * d ≤ c * f → e * b ≤ a * f
cross a b c d e f some first second =
    let one : c * b * f ≤ a * d * f = mul-le-mul_right f first in
    let two : e * d * b ≤ c * f * b = mul-le-mul_right b second in
    let left : e * d * b ≡ e * b * d = mul_right_comm e d b in
    let middle : c * f * b ≡ c * b * f = mul_right_comm c f b in
    let right : a * d * f ≡ a * f * d = mul_right_comm a d f in
    le_of_mul-le-mul_right (omega (arith, one, two, left, middle, right)) some

pub zero_is : (n : ℕ) → n ≡ 0 → (n == 0) ≡ true
zero_is n h = grind arith

pub some_is : (n : ℕ) → 0 < n → (n == 0) ≡ false
some_is n h = grind arith

pub over_zeros : (a b c d : ℕ) → b ≡ 0 → d ≡ 0 → is_at_least (a, b) (c, d) ≡ nat_le c a
over_zeros a b c d h k = rw (zero_is b h, zero_is d k) refl

pub over_zero_and_some : (a b c d : ℕ) → b ≡ 0 → 0 < d → is_at_least (a, b) (c, d) ≡ true
over_zero_and_some a b c d h k = rw (zero_is b h, some_is d k) refl

pub over_some_and_zero : (a b c d : ℕ) → 0 < b → d ≡ 0 → is_at_least (a, b) (c, d) ≡ false
over_some_and_zero a b c d h k = rw (some_is b h, zero_is d k) refl

pub over_some : (a b c d : ℕ) → 0 < b → 0 < d → is_at_least (a, b) (c, d) ≡ nat_le (c * b) (a * d)
over_some a b c d h k = rw (some_is b h, some_is d k) refl

pub at_least-total : (x y : Quotient) → is_at_least x y ≡ false → is_at_least y x ≡ true
at_least-total (a, zero) (c, zero) h =
    over_zeros c 0 a 0 refl refl ∙ le-true a c (omega (arith, false-lt c a (sym (over_zeros a 0 c 0 refl refl) ∙ h)))
at_least-total (a, zero) (c, suc d) h = absurd (sym h ∙ over_zero_and_some a 0 c (suc d) refl (omega arith))
at_least-total (a, suc b) (c, zero) h = over_zero_and_some c 0 a (suc b) refl (omega arith)
at_least-total (a, suc b) (c, suc d) h =
    over_some c (suc d) a (suc b) (omega arith) (omega arith)
    ∙ le-true (a * suc d) (c * suc b) (omega (arith, false-lt (c * suc b) (a * suc d) (sym (over_some a (suc b) c (suc d) (omega arith) (omega arith)) ∙ h)))

pub at_least-trans : (x y z : Quotient) → is_at_least x y ≡ true → is_at_least y z ≡ true → is_at_least x z ≡ true
at_least-trans (a, zero) (c, zero) (e, zero) h k =
    over_zeros a 0 e 0 refl refl
    ∙ le-true e a (omega (arith, true-le c a (sym (over_zeros a 0 c 0 refl refl) ∙ h), true-le e c (sym (over_zeros c 0 e 0 refl refl) ∙ k)))
at_least-trans (a, zero) (c, d) (e, suc f) h k = over_zero_and_some a 0 e (suc f) refl (omega arith)
at_least-trans (a, zero) (c, suc d) (e, zero) h k = absurd (sym (over_some_and_zero c (suc d) e 0 (omega arith) refl) ∙ k)
at_least-trans (a, suc b) (c, zero) z h k = absurd (sym (over_some_and_zero a (suc b) c 0 (omega arith) refl) ∙ h)
at_least-trans (a, suc b) (c, suc d) (e, zero) h k = absurd (sym (over_some_and_zero c (suc d) e 0 (omega arith) refl) ∙ k)
at_least-trans (a, suc b) (c, suc d) (e, suc f) h k =
    over_some a (suc b) e (suc f) (omega arith) (omega arith)
    ∙ le-true (e * suc b) (a * suc f) (cross a (suc b) c (suc d) e (suc f) (omega arith)
    (true-le (c * suc b) (a * suc d) (sym (over_some a (suc b) c (suc d) (omega arith) (omega arith)) ∙ h))
    (true-le (e * suc d) (c * suc f) (sym (over_some c (suc d) e (suc f) (omega arith) (omega arith)) ∙ k)))
