-- The tables of tallies, at a place.
use Rattle.std.proofs.lemmas.Grind.{common_steps}
use Rattle.std.proofs.Common.{◌≡◌, ℕ, zero, suc, ◌+◌, ◌/◌, ◌<◌, ◌≤◌, ◌∙◌, List, refl, sym, ap, arith, length, take, get_or, sum}
use Rattle.std.proofs.Math.Nat.{div-le_self}
use Rattle.std.proofs.lemmas.Bool.{cases_lt}
use Rattle.std.proofs.lemmas.List.{ext_get_or, get_or_past, take_all}
use Rattle.std.proofs.lemmas.List.FromFn.{get_or-map-range_with_len, length-map-range_with_len}
use Rattle.std.proofs.lemmas.List.Sums.{sum_by-take-le}
use Rattle.ballot_base.specs.Limits.{most_candidates, most_members, most_increments}
use Rattle.ballot_base.specs.Increments.{increments}
use Rattle.ballot_base.specs.declared.increments.ThieleRule.{ThieleRule}
use Rattle.ballot_base.proofs.WeightLemmas.{members-most, denominator-most, increments-length, sum_take_more}
use Rattle.tie_walk.specs.Steps.Tables.{prefix_sums, parts}

-- ---- sums of increments

pub prefix_sums-at : (weights : List ℕ) (x : ℕ) → x ≤ most_candidates → get_or (prefix_sums weights) x 0 ≡ sum (take x weights)
unfolding prefix_sums
prefix_sums-at weights x h = get_or-map-range_with_len (λ n. sum (take n weights)) 0 (most_candidates + 1) x x 0 (omega arith) (omega arith)

pub prefix_sums-length : (weights : List ℕ) → length (prefix_sums weights) ≡ most_candidates + 1
unfolding prefix_sums
prefix_sums-length weights = length-map-range_with_len (λ n. sum (take n weights)) 0 (most_candidates + 1)

-- a list that has the sums
pub prefix_sums-made : (weights sums : List ℕ) → length sums ≡ most_candidates + 1 → ((x : ℕ) → x ≤ most_candidates → get_or sums x 0 ≡ sum (take x weights)) → sums ≡ prefix_sums weights
prefix_sums-made weights sums long made =
    ext_get_or 0 sums (prefix_sums weights) (long ∙ sym (prefix_sums-length weights)) (λ x h. made x (omega (arith, long)) ∙ sym (prefix_sums-at weights x (omega (arith, long))))

pub sum-take-le : (weights : List ℕ) (x : ℕ) → sum (take x weights) ≤ sum weights
sum-take-le weights x = sum_by-take-le (λ n. n) weights x

pub increments_sum-most : (rule : ThieleRule) (k : ℕ) → k ≤ most_members → sum (increments rule k) ≤ most_increments
increments_sum-most rule k most =
    let all : take most_members (increments rule k) ≡ increments rule k = take_all most_members (increments rule k) (omega (arith, increments-length rule k)) in
    omega (arith, rw all at (members-most rule k most_members most (omega arith)), denominator-most rule k most)

-- the sum of one more
pub sum-take_more : (w : List ℕ) (x : ℕ) → sum (take (x + 1) w) ≡ sum (take x w) + get_or w x 0
sum-take_more w x = grind (arith, common_steps, cases_lt, sum_take_more, take, take_all, get_or_past)

-- ---- parts of a whole

pub parts-length : (whole : ℕ) → length (parts whole) ≡ most_candidates + 1
unfolding parts
parts-length whole = ap suc (length-map-range_with_len (λ n. whole / n) 1 most_candidates)

pub parts-at : (whole n : ℕ) → 1 ≤ n → n ≤ most_candidates → get_or (parts whole) n 0 ≡ whole / n
unfolding parts
parts-at whole zero low high = absurd (omega arith)
parts-at whole (suc n) low high = get_or-map-range_with_len (λ n. whole / n) 1 most_candidates n (suc n) 0 (omega arith) (omega arith)

pub parts-first : (whole : ℕ) → get_or (parts whole) 0 0 ≡ 0
unfolding parts
parts-first whole = refl

pub parts-made : (whole : ℕ) (list : List ℕ) → length list ≡ most_candidates + 1 → get_or list 0 0 ≡ 0 → ((n : ℕ) → 1 ≤ n → n ≤ most_candidates → get_or list n 0 ≡ whole / n) → list ≡ parts whole
parts-made whole list long first made =
    ext_get_or 0 list (parts whole) (long ∙ sym (parts-length whole)) at
  where
    at : (n : ℕ) → n < length list → get_or list n 0 ≡ get_or (parts whole) n 0
    at zero h = first ∙ sym (parts-first whole)
    at (suc n) h = made (suc n) (omega arith) (omega (arith, long)) ∙ sym (parts-at whole (suc n) (omega arith) (omega (arith, long)))

pub parts-most : (whole n : ℕ) → get_or (parts whole) n 0 ≤ whole
parts-most whole zero = omega (arith, parts-first whole)
parts-most whole (suc n) = grind (arith, common_steps, cases_lt, parts-at, div-le_self, get_or_past, parts-length)

-- ---- one increment

pub weight-le-sum : (w : List ℕ) (i : ℕ) → get_or w i 0 ≤ sum w
weight-le-sum w i = omega (arith, sum-take_more w i, sum-take-le w (i + 1))
