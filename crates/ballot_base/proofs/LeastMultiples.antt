-- Least common multiples: what the definition gives, and that Euclid's steps give it.
use Rattle.std.proofs.lemmas.Grind.{common_steps}
use Rattle.std.proofs.Common.{◌≡◌, ℕ, zero, suc, ◌+◌, ◌-◌, ◌*◌, ◌/◌, ◌%◌, ◌^◌, ◌<◌, ◌≤◌, ◌==◌, Bool, true, false, sym, ap, ◌∙◌, subst, arith, find, unwrap_or, inl, inr, lit<, lit≤}
use Rattle.std.proofs.Math.Nat.{dvd-mul_left, dvd-mul_right, dvd_of_mul-dvd-mul_left, dvd_of_mul-dvd-mul_right, dvd-add_iff_right, mul-dvd-mul_left, mul-dvd-mul_right, mul-div_cancel', pos_of_dvd_of_pos, dvd-mul_right_of_dvd, mul-le-mul, one-dvd}
use Rattle.std.proofs.lemmas.Nat.Gcd.{dvd_trans, dvd_antisymm, le_of_dvd, dvd_of_mod-eq-zero, mod-eq-zero_of_dvd, IsGcd-from_mod}
use Rattle.std.proofs.lemmas.Bool.{eq-eqb, eqb-true, cases_order}
use Rattle.std.specs.Int.{IsGcd, ◌∣◌}
use Rattle.std.specs.List.{range_with_len}
use Rattle.ballot_base.specs.Limits.{most_candidates, most_members}
use Rattle.ballot_base.specs.CommonMultiple.{least_multiple, common_multiple}

-- `found` is the first number from `first` on that passes
record IsFirst (p : ℕ → Bool) (first found : ℕ) : Type 0 where
  low : first ≤ found
  passes : p found ≡ true
  others : (t : ℕ) → first ≤ t → t < found → p t ≡ false

first_found : (p : ℕ → Bool) (count first last : ℕ) → last ≡ first + count → p last ≡ true → IsFirst p first (unwrap_or (find p (range_with_len first (suc count))) last)
first_found p zero first last is here = grind (arith, common_steps)
first_found p (suc count) first last is here =
    grind (arith, common_steps, first_found p count (first + 1) last (omega (arith, is)) here, cases_order)

-- l is the least common multiple of a and b
pub record IsLeast (a b l : ℕ) : Type 0 where
  pub some : 0 < l
  pub left : a ∣ l
  pub right : b ∣ l
  pub least : (c : ℕ) → a ∣ c → b ∣ c → l ∣ c

-- a remainder that is smaller than the first multiple is 0
least_of_first : (a b times c : ℕ) → 0 < b → IsFirst (λ t. a * t % b == 0) 1 times → a ∣ c → b ∣ c → a * times ∣ c
least_of_first a b times c some is left right =
    let q : ℕ = c / a in
    let is_c : a * q ≡ c = mul-div_cancel' a left in
    let low = is.low in
    let parts : q ≡ times * (q / times) + q % times = omega arith in
    let spread : a * q ≡ a * times * (q / times) + a * (q % times) = ap (λ n. a * n) parts ∙ omega arith in
    let whole : b ∣ a * times * (q / times) = dvd-mul_right_of_dvd b (dvd_of_mod-eq-zero b (eqb-true _ _ is.passes)) (q / times) in
    let both : b ∣ a * times * (q / times) + a * (q % times) = subst (λ n. b ∣ n) (sym is_c ∙ spread) right in
    let rest : b ∣ a * (q % times) = (dvd-add_iff_right b whole).1 both in
    elim (cases_order (q % times) 0) [
      | inl none ↦
          let exact : c ≡ a * times * (q / times) = omega (arith, is_c, spread, ap (λ n. a * n) none) in
          subst (λ n. a * times ∣ n) (sym exact) (dvd-mul_right (a * times) (q / times))
      | inr d ↦ elim d [
        | inl less ↦ absurd (omega arith)
        | inr more ↦
            let wrong : false ≡ true = sym (is.others (q % times) (omega arith) (omega arith)) ∙ eq-eqb _ _ (mod-eq-zero_of_dvd b rest) in cc
      ]
    ]

pub least_multiple_is : (a n : ℕ) → 0 < a → IsLeast a (suc n) (least_multiple a (suc n))
least_multiple_is a n some =
    let is = first_found (λ t. a * t % suc n == 0) n 1 (suc n) (omega arith) (eq-eqb _ _ (mod-eq-zero_of_dvd (suc n) (dvd-mul_left (suc n) a))) in
    record {
      some = mul-le-mul some is.low;
      left = dvd-mul_right a _;
      right = dvd_of_mod-eq-zero (suc n) (eqb-true _ _ is.passes);
      least = λ c. least_of_first a (suc n) _ c (omega arith) is;
    }

-- the product over the greatest common divisor is the least common multiple
pub least_by_divisor : (a b g l : ℕ) → 0 < a → 0 < b → IsGcd a b g → IsLeast a b l → a * (b / g) ≡ l
least_by_divisor a b g l some_a some_b gcd is =
    let a_is : g * (a / g) ≡ a = mul-div_cancel' g gcd.0 in
    let b_is : g * (b / g) ≡ b = mul-div_cancel' g gcd.1 in
    let some_g : 0 < g = pos_of_dvd_of_pos gcd.0 some_a in
    let of_a : a / g * b ≡ a * (b / g) = omega (arith, ap (λ n. a / g * n) b_is, ap (λ n. n * (b / g)) a_is) in
    let l_below : l ∣ a / g * b = is.least (a / g * b) (subst (λ n. a ∣ n) (sym of_a) (dvd-mul_right a (b / g))) (dvd-mul_left b (a / g)) in
    let d : ℕ = a * b / l in
    let d_is : l * d ≡ a * b = mul-div_cancel' l (is.least (a * b) (dvd-mul_right a b) (dvd-mul_left b a)) in
    let d_a : d ∣ a = dvd_of_mul-dvd-mul_left d some_b (subst (λ n. b * d ∣ n) (d_is ∙ omega arith) (mul-dvd-mul_right b is.right d)) in
    let d_b : d ∣ b = dvd_of_mul-dvd-mul_left d some_a (subst (λ n. a * d ∣ n) d_is (mul-dvd-mul_right a is.left d)) in
    let product : l * d ≡ a / g * b * g = d_is ∙ omega (arith, ap (λ n. n * b) a_is) in
    let l_above : a / g * b ∣ l = dvd_of_mul-dvd-mul_right (a / g * b) some_g (subst (λ n. n ∣ l * g) product (mul-dvd-mul_left d l (gcd.2 d d_a d_b))) in
    sym of_a ∙ dvd_antisymm l_above l_below

-- ---- the numbers 1 to n

pub common_multiple_some : (n : ℕ) → 0 < common_multiple n
unfolding common_multiple
common_multiple_some zero = omega arith
common_multiple_some (suc n) = (least_multiple_is (common_multiple n) n (common_multiple_some n)).some

-- one number more
pub common_multiple_step : (n : ℕ) → IsLeast (common_multiple n) (suc n) (common_multiple (suc n))
unfolding common_multiple
common_multiple_step n = least_multiple_is (common_multiple n) n (common_multiple_some n)

pub common_multiple_divides : (n d : ℕ) → 1 ≤ d → d ≤ n → d ∣ common_multiple n
common_multiple_divides zero d low high = absurd (omega arith)
common_multiple_divides (suc n) d low high =
    elim (cases_order d (suc n)) [
      | inl same ↦ subst (λ k. k ∣ common_multiple (suc n)) (sym same) (common_multiple_step n).right
      | inr o ↦ elim o [
        | inl less ↦ dvd_trans d (common_multiple_divides n d low (omega arith)) (common_multiple_step n).left
        | inr more ↦ absurd (omega arith)
      ]
    ]

pub common_multiple_least : (n c : ℕ) → ((d : ℕ) → 1 ≤ d → d ≤ n → d ∣ c) → common_multiple n ∣ c
unfolding common_multiple
common_multiple_least zero c each = one-dvd c
common_multiple_least (suc n) c each =
    (common_multiple_step n).least c (common_multiple_least n c (λ d low high. each d low (omega arith))) (each (suc n) (omega arith) (omega arith))

-- more numbers have no lesser multiple
pub common_multiple_most : (n most : ℕ) → n ≤ most → common_multiple n ≤ common_multiple most
common_multiple_most n most within =
    le_of_dvd (common_multiple_some most) (common_multiple_least n (common_multiple most) (λ d low high. common_multiple_divides most d low (omega arith)))

common_multiple_of_candidates : common_multiple most_candidates < 2 ^ 90
unfolding common_multiple
common_multiple_of_candidates = lit< tt

pub common_multiple_of_members : common_multiple most_members ≤ 4 ^ (most_members - 1)
unfolding common_multiple
common_multiple_of_members = lit≤ tt

-- a step of the code
pub common_multiple_next : (m i rest g : ℕ) → 1 ≤ i → m ≡ common_multiple (i - 1) → rest ≡ m % i → IsGcd i rest g → m * (i / g) ≡ common_multiple i
common_multiple_next m zero rest g low is left gcd = absurd (omega arith)
common_multiple_next m (suc n) rest g low is left gcd =
    let before : m ≡ common_multiple n = is ∙ ap common_multiple (omega arith) in
    let both : IsGcd m (suc n) g = IsGcd-from_mod m (suc n) g (subst (λ k. IsGcd (suc n) k g) left gcd) in
    least_by_divisor m (suc n) g (common_multiple (suc n)) (rw before (common_multiple_some n)) (omega arith) both (rw before (common_multiple_step n))

-- a divisor of a positive number is positive
pub divisor_some : (i rest g : ℕ) → 1 ≤ i → IsGcd i rest g → 0 < g
divisor_some i rest g low gcd = pos_of_dvd_of_pos gcd.0 low

pub common_multiple_small : (n : ℕ) → n ≤ most_candidates → common_multiple n < 2 ^ 90
common_multiple_small n within = omega (arith, common_multiple_most n most_candidates within, common_multiple_of_candidates)
