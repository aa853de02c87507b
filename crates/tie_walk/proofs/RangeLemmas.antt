-- In which ranges values and bounds lie, whatever the election is.
use Rattle.std.proofs.lemmas.Grind.{common_steps}
use Rattle.std.proofs.Common.{◌≡◌, ℕ, zero, suc, ◌+◌, ◌-◌, ◌*◌, ◌/◌, ◌^◌, ◌<◌, ◌≤◌, ◌==◌, Bool, true, false, cond, List, ◌++◌, add-one, arith, get_or, length, lit≤, map, refl, sum, sym, take}
use Rattle.std.specs.Prelude.{nat_le}
use Rattle.std.specs.List.{range_with_len}
use Rattle.std.proofs.Math.Nat.{div-mul-le_self, le-div_iff_mul-le, mul-le-mul_right, pow-le-pow_left, pow-le-pow_right}
use Rattle.std.proofs.lemmas.Bool.{leb-true}
use Rattle.std.proofs.lemmas.List.Sums.{sum-map, sum_by-le-sum_by}
use Rattle.ballot_base.specs.Limits.{most_members, most_voters, most_thiele_value}
use Rattle.ballot_base.specs.Lists.{IsIncreasing}
use Rattle.ballot_base.specs.CommonMultiple.{common_multiple}
use Rattle.ballot_base.specs.Increments.{increment, increments, denominator}
use Rattle.ballot_base.specs.Ballots.{Row, Election, IsElection, hits}
use Rattle.ballot_base.specs.declared.increments.ThieleRule.{ThieleRule}
use Rattle.ballot_base.specs.declared.increments.ThieleRule.TheVariants.{Av, Pav, Cc, Geom2, Geom3, Geom4}
use Rattle.ballot_base.proofs.Committees.{length-increasing}
use Rattle.ballot_base.proofs.Increasing.{has_member-above}
use Rattle.ballot_base.proofs.LeastMultiples.{common_multiple_most}
use Rattle.ballot_base.proofs.WeightLemmas.{denominator-most, weight-most}
use Rattle.tie_walk.specs.Ceilings.{ceiling, gain_at, greatest_sum}
use Rattle.tie_walk.specs.Sequences.{gain}
use Rattle.tie_walk.specs.Values.{thiele_value, satisfaction_value}
use Rattle.tie_walk.specs.Steps.Tables.{parts}
use Rattle.tie_walk.proofs.Gains.{gain-most, satisfaction-most, thiele-gain, thiele-most}
use Rattle.tie_walk.proofs.GreatestSums.{best_of-most, greatest_sum-same}
use Rattle.tie_walk.proofs.RowSums.{all-most}
use Rattle.tie_walk.proofs.TableLemmas.{sum-take-le, sum-take_more}
use Rattle.tie_walk.proofs.TightLemmas.{hits-most, satisfaction-tight}

-- ---- the sum of all increments

-- a part of a larger whole is no smaller
part-le : (x y j : ℕ) → x ≤ y → x / j ≤ y / j
part-le x y zero less = omega arith
part-le x y (suc j) less = grind (arith, common_steps, le-div_iff_mul-le, div-mul-le_self x (suc j))

abbrev largest_part : ℕ → ℕ
largest_part j = common_multiple most_members / j

abbrev largest_power : ℕ → ℕ
largest_power j = 4 ^ (most_members - j)

all_parts : sum (map largest_part (range_with_len 1 most_members)) < 2 ^ 55
unfolding common_multiple
all_parts = lit≤ tt

all_powers : sum (map largest_power (range_with_len 1 most_members)) < 2 ^ 79
all_powers = lit≤ tt

-- increments, each within another number
sums-within : (f g : ℕ → ℕ) (xs : List ℕ) → ((j : ℕ) → f j ≤ g j) → sum (map f xs) ≤ sum (map g xs)
sums-within f g xs each = omega (arith, sum-map f xs, sum-map g xs, sum_by-le-sum_by f g xs each)

within : (b : Bool) (x y : ℕ) → (b ≡ true → x ≤ y) → cond b x 0 ≤ y
within true x y h = h refl
within false x y h = omega arith

increments-most : (rule : ThieleRule) (k : ℕ) (g : ℕ → ℕ) → ((j : ℕ) → j ≤ k → increment rule k j ≤ g j)
    → sum (increments rule k) ≤ sum (map g (range_with_len 1 most_members))
unfolding increments
increments-most rule k g each =
    sums-within (λ j. cond (nat_le j k) (increment rule k j) 0) g (range_with_len 1 most_members)
    (λ j. within (nat_le j k) (increment rule k j) (g j) (λ is. each j (leb-true j k is)))

power-most : (p k j : ℕ) → 1 ≤ p → p ≤ 4 → k ≤ most_members → p ^ (k - j) ≤ largest_power j
power-most p k j some few most = grind (arith, common_steps, pow-le-pow_left, pow-le-pow_right)

-- ---- the values

pub proportional : (e : Election) (k : ℕ) (committee : List ℕ) → IsElection e → k ≤ most_members
    → thiele_value (increments Pav k) e.rows committee < 2 ^ 87
proportional e k committee valid most =
    let all : sum (increments Pav k) ≤ sum (map largest_part (range_with_len 1 most_members)) =
    increments-most Pav k largest_part (λ j h. part-le (common_multiple k) (common_multiple most_members) j (common_multiple_most k most_members most)) in
    omega (arith, thiele-most e (increments Pav k) committee (sum (increments Pav k)) valid (sum-take-le (increments Pav k)), all, all_parts)

powers-within : (rule : ThieleRule) (e : Election) (k : ℕ) (committee : List ℕ) → IsElection e
    → ((j : ℕ) → j ≤ k → increment rule k j ≤ largest_power j) → thiele_value (increments rule k) e.rows committee < 2 ^ 114
powers-within rule e k committee valid each =
    omega (arith, thiele-most e (increments rule k) committee (sum (increments rule k)) valid (sum-take-le (increments rule k)), increments-most rule k largest_power each, all_powers)

some-power : (j : ℕ) → 1 ≤ largest_power j
some-power j = pow-le-pow_right {n = 4} (omega arith) {i = 0} {j = most_members - j} (omega arith)

pub thiele : (rule : ThieleRule) (e : Election) (k : ℕ) (committee : List ℕ) → IsElection e → k ≤ most_members
    → thiele_value (increments rule k) e.rows committee < 2 ^ 114
thiele Av e k committee valid most = powers-within Av e k committee valid (λ j h. some-power j)
thiele Pav e k committee valid most = omega (arith, proportional e k committee valid most)
thiele Cc e k committee valid most = powers-within Cc e k committee valid (λ j h. within (j == 1) 1 (largest_power j) (λ is. some-power j))
thiele Geom2 e k committee valid most = powers-within Geom2 e k committee valid (λ j h. power-most 2 k j (omega arith) (omega arith) most)
thiele Geom3 e k committee valid most = powers-within Geom3 e k committee valid (λ j h. power-most 3 k j (omega arith) (omega arith) most)
thiele Geom4 e k committee valid most = powers-within Geom4 e k committee valid (λ j h. power-most 4 k j (omega arith) (omega arith) most)

pub satisfaction : (e : Election) (committee : List ℕ) → IsElection e → satisfaction_value e.m e.rows committee < 2 ^ 125
satisfaction e committee valid = omega (arith, satisfaction-most e (parts (common_multiple e.m)) committee valid refl)

-- ---- the bounds

take-most : (w : List ℕ) (most x : ℕ) → ((i : ℕ) → get_or w i 0 ≤ most) → sum (take x w) ≤ x * most
take-most w most zero each = omega arith
take-most w most (suc x) each =
    grind (arith, common_steps, take-most w most x each, add-one x, sum-take_more w x)

-- a voter has no more hits than the set has members
set-most : (w : List ℕ) (e : Election) (c most : ℕ) (set : List ℕ) → IsElection e → IsIncreasing 1 c set → ((i : ℕ) → get_or w i 0 ≤ most)
    → thiele_value w e.rows set ≤ most_voters * (length set * most)
set-most w e c most set valid up each =
    all-most (λ (r : Row). sum (take (hits r.0 set) w)) e (length set * most) valid
    (λ r own. omega (arith, take-most w most (hits r.0 set) each, mul-le-mul_right most (hits-most 1 e.m 1 c r.0 set own up)))

-- the members and the candidates still to add are no more than all candidates, and each gives no more than all voters'
-- first hits
thiele-ceiling_most : (rule : ThieleRule) (e : Election) (k c : ℕ) (set : List ℕ) (left : ℕ) → IsElection e → k ≤ most_members → c ≤ e.m → IsIncreasing 1 c set
    → left ≤ e.m - c → ceiling (thiele_value (increments rule k) e.rows) e.m c set left ≤ 2 ^ 38 * denominator rule k
thiele-ceiling_most rule e k c set left valid small inside up fits =
    let w : List ℕ = increments rule k in
    let d : ℕ = denominator rule k in
    let each : (i : ℕ) → get_or w i 0 ≤ d = λ i. weight-most rule k i small in
    let same : greatest_sum (gain_at (thiele_value w e.rows) set) (c + 1) e.m left ≡ greatest_sum (gain w e.rows set) (c + 1) e.m left =
    greatest_sum-same (gain_at (thiele_value w e.rows) set) (gain w e.rows set) (c + 1) e.m
    (λ x low high. sym (thiele-gain e.m w e.rows set x valid.ballots (has_member-above 1 c set x up (omega arith)))) left in
    let more : greatest_sum (gain w e.rows set) (c + 1) e.m left ≤ left * (2 ^ 32 * d) =
    best_of-most (gain w e.rows set) (2 ^ 32 * d) (λ n. gain-most e w set n d valid each) (e.m + 1 - (c + 1)) (c + 1) left in
    let few : length set + left ≤ 64 = omega (arith, length-increasing 1 c set up, inside, fits, valid.most) in
    let product : (length set + left) * d ≤ 64 * d = mul-le-mul_right d few in
    omega (arith, same, more, product, set-most w e c d set valid up each)

members_small : common_multiple most_members < 2 ^ 53
unfolding common_multiple
members_small = lit≤ tt

pub proportional-ceiling : (e : Election) (k c : ℕ) (set : List ℕ) (left : ℕ) → IsElection e → k ≤ most_members → c ≤ e.m → IsIncreasing 1 c set
    → left ≤ e.m - c → ceiling (thiele_value (increments Pav k) e.rows) e.m c set left < 2 ^ 91
proportional-ceiling e k c set left valid small inside up fits =
    omega (arith, thiele-ceiling_most Pav e k c set left valid small inside up fits, common_multiple_most k most_members small, members_small)

pub thiele-ceiling : (rule : ThieleRule) (e : Election) (k c : ℕ) (set : List ℕ) (left : ℕ) → IsElection e → k ≤ most_members → c ≤ e.m → IsIncreasing 1 c set
    → left ≤ e.m - c → ceiling (thiele_value (increments rule k) e.rows) e.m c set left ≤ most_thiele_value
thiele-ceiling rule e k c set left valid small inside up fits =
    omega (arith, thiele-ceiling_most rule e k c set left valid small inside up fits, denominator-most rule k small)

-- the bound is the value of some committee
pub satisfaction-ceiling : (e : Election) (c : ℕ) (set : List ℕ) (left : ℕ) → IsElection e → c ≤ e.m → IsIncreasing 1 c set → left ≤ e.m - c
    → ceiling (satisfaction_value e.m e.rows) e.m c set left < 2 ^ 122
satisfaction-ceiling e c set left valid inside up fits =
    let some = satisfaction-tight e (length set + left) valid c set left inside up refl fits in
    omega (arith, some.2, satisfaction-most e (parts (common_multiple e.m)) (set ++ some.0) valid refl)
