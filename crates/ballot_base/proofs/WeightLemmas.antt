-- The increments of Thiele's rules: what the list has at a place, that they never rise, that they are exact, and
-- how large they are.
use Rattle.std.proofs.lemmas.Grind.{common_steps}
use Rattle.std.proofs.Common.{◌≡◌, ℕ, zero, suc, ◌+◌, ◌-◌, ◌*◌, ◌/◌, ◌^◌, ◌<◌, ◌≤◌, ◌==◌, true, false, cond, List, [], ◌∷◌, sym, ap, ◌∙◌, arith, add-one, take, get_or, length, sum, inl, inr}
use Rattle.std.specs.Prelude.{nat_le}
use Rattle.std.proofs.Math.Nat.{pow-le-pow_left, pow-le-pow_right, div-mul_cancel, div-le_self, div-mul-le_self}
use Rattle.std.proofs.Math.ListN.{get_or-eq_default}
use Rattle.std.proofs.lemmas.Nat.{pow-add, le-div}
use Rattle.std.proofs.lemmas.List.Sums.{fold-append}
use Rattle.std.proofs.lemmas.Bool.{le-leb, lt-leb, cases_lt, ne_eqb}
use Rattle.std.proofs.lemmas.List.{ext_get_or, take_more}
use Rattle.std.proofs.lemmas.List.FromFn.{get_or-map-range_with_len, length-map-range_with_len}
use Rattle.ballot_base.specs.Limits.{most_members}
use Rattle.ballot_base.specs.CommonMultiple.{common_multiple}
use Rattle.ballot_base.specs.Increments.{increment, denominator, increments}
use Rattle.ballot_base.specs.declared.increments.ThieleRule.{ThieleRule}
use Rattle.ballot_base.specs.declared.increments.ThieleRule.TheVariants.{Av, Pav, Cc, Geom2, Geom3, Geom4}
use Rattle.ballot_base.proofs.LeastMultiples.{common_multiple_divides, common_multiple_most, common_multiple_of_members}

-- ---- the list

-- a place of the list
weight : ThieleRule → ℕ → ℕ → ℕ
weight rule k j = cond (nat_le j k) (increment rule k j) 0

pub increments-length : (rule : ThieleRule) (k : ℕ) → length (increments rule k) ≡ most_members
unfolding increments
increments-length rule k = length-map-range_with_len (weight rule k) 1 most_members

increments-weight : (rule : ThieleRule) (k i : ℕ) → i < most_members → get_or (increments rule k) i 0 ≡ weight rule k (i + 1)
unfolding increments weight
increments-weight rule k i h = get_or-map-range_with_len (weight rule k) 1 most_members i (i + 1) 0 h (omega arith)

pub increments-within : (rule : ThieleRule) (k i : ℕ) → i < most_members → i < k → get_or (increments rule k) i 0 ≡ increment rule k (i + 1)
unfolding weight
increments-within rule k i h l = increments-weight rule k i h ∙ ap (λ b. cond b (increment rule k (i + 1)) 0) (le-leb (i + 1) k (omega arith))

pub increments-past : (rule : ThieleRule) (k i : ℕ) → k ≤ i → get_or (increments rule k) i 0 ≡ 0
unfolding weight
increments-past rule k i h =
    grind (arith, common_steps, cases_lt, increments-weight, lt-leb, get_or-eq_default, increments-length)

-- a list that has the increments of 1 to k, and 0 after them
pub increments-made : (rule : ThieleRule) (k : ℕ) (w : List ℕ) → k ≤ most_members → length w ≡ most_members → ((i : ℕ) → i < k → get_or w i 0 ≡ increment rule k (i + 1)) → ((i : ℕ) → k ≤ i → i < most_members → get_or w i 0 ≡ 0)
    → w ≡ increments rule k
increments-made rule k w most long made others =
    ext_get_or 0 w (increments rule k) (long ∙ sym (increments-length rule k)) (λ i h. elim (cases_lt i k) [
      | inl low ↦ made i low ∙ sym (increments-within rule k i (omega arith) low)
      | inr high ↦ others i (omega (arith, high)) (omega arith) ∙ sym (increments-past rule k i (omega (arith, high)))
    ])

-- ---- they never rise

pub quotient-falls : (n j : ℕ) → 1 ≤ j → n / (j + 1) ≤ n / j
quotient-falls n j h = le-div (n / (j + 1)) n j h (omega (arith, div-mul-le_self n (j + 1)))

power-falls : (p k j : ℕ) → 0 < p → p ^ (k - (j + 1)) ≤ p ^ (k - j)
power-falls p k j h = pow-le-pow_right h (omega arith)

increment-falls : (rule : ThieleRule) (k j : ℕ) → 1 ≤ j → increment rule k (j + 1) ≤ increment rule k j
increment-falls Av k j h = omega arith
increment-falls Pav k j h = quotient-falls (common_multiple k) j h
increment-falls Cc k j h = rw (ne_eqb (j + 1) 1 (λ e. omega (arith, e))) (omega arith)
increment-falls Geom2 k j h = power-falls 2 k j (omega arith)
increment-falls Geom3 k j h = power-falls 3 k j (omega arith)
increment-falls Geom4 k j h = power-falls 4 k j (omega arith)

pub increments-fall : (rule : ThieleRule) (k i : ℕ) → k ≤ most_members → get_or (increments rule k) (i + 1) 0 ≤ get_or (increments rule k) i 0
increments-fall rule k i most =
    grind (arith, common_steps, cases_lt, increments-within, increment-falls, increments-past)

-- ---- they are exact

pub quotient-exact : (k j : ℕ) → 1 ≤ j → j ≤ k → common_multiple k / j * j ≡ common_multiple k
quotient-exact k j low high = div-mul_cancel j (common_multiple_divides k j low high)

pub power-exact : (p k j : ℕ) → 1 ≤ j → j ≤ k → p ^ (k - j) * p ^ (j - 1) ≡ p ^ (k - 1)
power-exact p k j low high = sym (pow-add p (k - j) (j - 1)) ∙ ap (λ n. p ^ n) (omega arith)

-- ---- how large they are

pub power-most : (p n most : ℕ) → p ≤ 4 → n ≤ most → p ^ n ≤ 4 ^ most
power-most p n most h within = omega (arith, pow-le-pow_left h n, pow-le-pow_right {n = 4} (omega arith) within)

-- no denominator is greater than that of the steepest rule for the largest committees
pub denominator-most : (rule : ThieleRule) (k : ℕ) → k ≤ most_members → denominator rule k ≤ 4 ^ (most_members - 1)
denominator-most Av k h = omega arith
denominator-most Pav k h = omega (arith, common_multiple_most k most_members h, common_multiple_of_members)
denominator-most Cc k h = omega arith
denominator-most Geom2 k h = power-most 2 (k - 1) (most_members - 1) (omega arith) (omega arith)
denominator-most Geom3 k h = power-most 3 (k - 1) (most_members - 1) (omega arith) (omega arith)
denominator-most Geom4 k h = power-most 4 (k - 1) (most_members - 1) (omega arith) (omega arith)

pub increment-most : (rule : ThieleRule) (k j : ℕ) → 1 ≤ j → increment rule k j ≤ denominator rule k
increment-most Av k j h = omega arith
increment-most Pav k j h = div-le_self (common_multiple k) j
increment-most Cc k j h = elim (j == 1) as (λ b. cond b 1 0 ≤ 1) [ true ↦ omega arith | false ↦ omega arith ]
increment-most Geom2 k j h = pow-le-pow_right (omega arith) (omega arith)
increment-most Geom3 k j h = pow-le-pow_right (omega arith) (omega arith)
increment-most Geom4 k j h = pow-le-pow_right (omega arith) (omega arith)

pub weight-most : (rule : ThieleRule) (k i : ℕ) → k ≤ most_members → get_or (increments rule k) i 0 ≤ denominator rule k
weight-most rule k i most =
    grind (arith, common_steps, cases_lt, increments-within, increment-most, increments-past)

-- the sum of the first increments, one at a time
pub sum_take_more : (w : List ℕ) (x : ℕ) → x < length w → sum (take (x + 1) w) ≡ sum (take x w) + get_or w x 0
sum_take_more w x h = ap sum (take_more w x 0 h) ∙ fold-append (λ a b. a + b) 0 (take x w) (get_or w x 0 ∷ [])

-- what x members add
pub members-most : (rule : ThieleRule) (k x : ℕ) → k ≤ most_members → x ≤ most_members → sum (take x (increments rule k)) ≤ x * denominator rule k
members-most rule k zero most within = omega arith
members-most rule k (suc x) most within =
    let step : sum (take (suc x) (increments rule k)) ≡ sum (take x (increments rule k)) + get_or (increments rule k) x 0 =
    ap (λ n. sum (take n (increments rule k))) (sym (add-one x)) ∙ sum_take_more (increments rule k) x (omega (arith, increments-length rule k)) in
    omega (arith, step, members-most rule k x most (omega arith), weight-most rule k x most)
