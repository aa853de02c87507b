-- Values whose gains only fall as a set grows: the greatest gains bound every completion.
use Rattle.std.proofs.lemmas.Grind.{common_steps}
use Rattle.std.proofs.Common.{◌≡◌, ℕ, zero, suc, ◌+◌, ◌-◌, ◌*◌, ◌/◌, ◌<◌, ◌≤◌, ◌==◌, ◌||◌, Bool, true, false, cond, List, [], ◌∷◌, ◌++◌, refl, ap, arith, append_assoc, length, get_or, take, sum, sum_by, filter, not, append-nil}
use Rattle.std.proofs.Math.Nat.{mul-le-mul_left}
use Rattle.std.proofs.lemmas.List.Elements.{All-from_recursion, All-contains}
use Rattle.std.proofs.lemmas.List.Folds.{list_any-append}
use Rattle.std.proofs.lemmas.List.Sums.{sum_by-cons}
use Rattle.ballot_base.specs.Limits.{most_members}
use Rattle.ballot_base.specs.Lists.{IsIncreasing, increasing_lists}
use Rattle.ballot_base.specs.Ballots.{Row, hits}
use Rattle.ballot_base.specs.CommonMultiple.{common_multiple}
use Rattle.ballot_base.specs.Increments.{increments}
use Rattle.ballot_base.specs.declared.increments.ThieleRule.{ThieleRule}
use Rattle.ballot_base.proofs.Committees.{increasing_lists-contains}
use Rattle.ballot_base.proofs.Increasing.{with_member-above}
use Rattle.ballot_base.proofs.WeightLemmas.{increments-fall}
use Rattle.tie_walk.specs.Values.{thiele_value, satisfaction_value}
use Rattle.tie_walk.specs.Ceilings.{greatest_sum, gain_at, ceiling, IsBound, IsSubmodular}
use Rattle.tie_walk.proofs.TableLemmas.{sum-take_more}
use Rattle.tie_walk.proofs.WinnersLemmas.{values-greatest}

-- no sum of so many of the numbers exceeds the greatest
pub greatest_sum-bounds : (worth : ℕ → ℕ) (first last : ℕ) (list : List ℕ) → IsIncreasing first last list → sum_by worth list ≤ greatest_sum worth first last (length list)
greatest_sum-bounds worth first last list up =
    let all = increasing_lists first last (length list) in
    All-contains (λ l. sum_by worth l ≤ greatest_sum worth first last (length list)) all list
    (All-from_recursion (λ l. sum_by worth l ≤ greatest_sum worth first last (length list)) all (values-greatest (sum_by worth) 0 all))
    (increasing_lists-contains first last (length list) list (up, refl))

module _ (value : List ℕ → ℕ) (falls : IsSubmodular value) where
  -- added one by one, candidates bring no more than their gains at the set
  pub gains-bound : (set before added : List ℕ) → value ((set ++ before) ++ added) ≤ value (set ++ before) + sum_by (λ n. value (set ++ n ∷ []) - value set) added
  gains-bound set before [] = omega (arith, ap value (append-nil (set ++ before)))
  gains-bound set before (x ∷ added) =
      grind (arith, common_steps, gains-bound set (before ++ x ∷ []) added, sum_by, append_assoc, sum_by-cons)

  same_gains : (c m : ℕ) (set added : List ℕ) → IsIncreasing 1 c set → IsIncreasing (c + 1) m added
      → sum_by (λ n. value (set ++ n ∷ []) - value set) added ≡ sum_by (gain_at value set) added
  same_gains c m set [] up above = refl
  same_gains c m set (x ∷ added) up above =
      let here : gain_at value set x ≡ value (set ++ x ∷ []) - value set = ap (λ s. value s - value set) (with_member-above 1 c set x up (omega (arith, above.0))) in
      omega (
        arith,
        same_gains-from (x + 1) added (omega (arith, above.0)) above.2,
        sum_by-cons (λ n. value (set ++ n ∷ []) - value set) x added,
        sum_by-cons (gain_at value set) x added,
      )
    where
      same_gains-from : (first : ℕ) (rest : List ℕ) → c < first → IsIncreasing first m rest → sum_by (λ n. value (set ++ n ∷ []) - value set) rest ≡ sum_by (gain_at value set) rest
      same_gains-from first [] low h = refl
      same_gains-from first (y ∷ rest) low h =
          grind (arith, common_steps, same_gains-from (y + 1) rest (omega (arith, h.0)) h.2, with_member-above, sum_by-cons)

  -- the greatest gains bound every completion
  pub ceiling-bounds : (m c : ℕ) (set : List ℕ) (left : ℕ) → IsIncreasing 1 c set → IsBound value m c set left (ceiling value m c set left)
  ceiling-bounds m c set left up added above size =
      grind (arith, common_steps, append-nil set, gains-bound set [] added, same_gains c m set added up above, greatest_sum-bounds)

-- ---- hits

abbrev bit : Bool → ℕ
bit b = cond b 1 0

-- one bit for each of a ballot's candidates
bits-submodular : (p q e : Bool) → bit ((p || q) || e) + bit p ≤ bit (p || q) + bit (p || e)
bits-submodular true true true = omega arith
bits-submodular true true false = omega arith
bits-submodular true false true = omega arith
bits-submodular true false false = omega arith
bits-submodular false true true = omega arith
bits-submodular false true false = omega arith
bits-submodular false false true = omega arith
bits-submodular false false false = omega arith

bits-more : (p q : Bool) → bit p ≤ bit (p || q)
bits-more true q = omega arith
bits-more false true = omega arith
bits-more false false = omega arith

pub hits-submodular : (ballot set added : List ℕ) (x : ℕ) → hits ballot ((set ++ added) ++ x ∷ []) + hits ballot set ≤ hits ballot (set ++ added) + hits ballot (set ++ x ∷ [])
hits-submodular [] set added x = omega arith
hits-submodular (n ∷ ballot) set added x =
    grind (arith, common_steps, hits-submodular ballot set added x, list_any-append, bits-submodular, sum_by-cons)

pub hits-more : (ballot set added : List ℕ) → hits ballot set ≤ hits ballot (set ++ added)
hits-more [] set added = omega arith
hits-more (n ∷ ballot) set added =
    grind (arith, common_steps, hits-more ballot set added, list_any-append, bits-more, sum_by-cons)

-- a sum over the rows
sum-submodular : (f : Row → List ℕ → ℕ) → ((r : Row) → IsSubmodular (f r)) → (rows : List Row) → IsSubmodular (λ set. sum_by (λ (r : Row). f r set) rows)
sum-submodular f each [] set added x = omega arith
sum-submodular f each (row ∷ rows) set added x =
    grind (arith, common_steps, each row set added x, sum-submodular f each rows set added x, sum_by-cons)

-- ---- Thiele's rules

module _ (w : List ℕ) (falls : (i : ℕ) → get_or w (i + 1) 0 ≤ get_or w i 0) where
  increments-lower : (i d : ℕ) → get_or w (i + d) 0 ≤ get_or w i 0
  increments-lower i zero = omega (arith, ap (λ n. get_or w n 0) (let e : i + 0 ≡ i = omega arith in e))
  increments-lower i (suc d) = grind (arith, common_steps, increments-lower i d, get_or)

  -- later hits bring no more than earlier ones
  later_hits : (low d more : ℕ) → sum (take ((low + d) + more) w) + sum (take low w) ≤ sum (take (low + d) w) + sum (take (low + more) w)
  later_hits low d zero = grind (arith, common_steps, sum, take)
  later_hits low d (suc more) =
      let e : (low + d) + suc more ≡ ((low + d) + more) + 1 = omega arith in
      let f : low + suc more ≡ (low + more) + 1 = omega arith in
      let g : (low + d) + more ≡ (low + more) + d = omega arith in
      omega (
        arith,
        ap (λ n. sum (take n w)) e,
        ap (λ n. sum (take n w)) f,
        ap (λ n. get_or w n 0) g,
        sum-take_more w ((low + d) + more),
        sum-take_more w (low + more),
        increments-lower (low + more) d,
        later_hits low d more,
      )

  more_hits : (low d : ℕ) → sum (take low w) ≤ sum (take (low + d) w)
  more_hits low zero = omega (arith, ap (λ n. sum (take n w)) (let e : low + 0 ≡ low = omega arith in e))
  more_hits low (suc d) =
      let e : low + suc d ≡ (low + d) + 1 = omega arith in
      omega (arith, ap (λ n. sum (take n w)) e, sum-take_more w (low + d), more_hits low d)

  voter-submodular : (a b c d : ℕ) → a ≤ b → a ≤ c → b ≤ d → d + a ≤ b + c → sum (take d w) + sum (take a w) ≤ sum (take b w) + sum (take c w)
  voter-submodular a b c d ab ac bd sub =
      let e : a + (b - a) ≡ b = omega arith in
      let f : (a + (b - a)) + (d - b) ≡ d = omega arith in
      let g : (a + (d - b)) + (c - (a + (d - b))) ≡ c = omega arith in
      omega (
        arith,
        ap (λ n. sum (take n w)) e,
        ap (λ n. sum (take n w)) f,
        ap (λ n. sum (take n w)) g,
        later_hits a (b - a) (d - b),
        more_hits (a + (d - b)) (c - (a + (d - b))),
      )

  pub thiele-submodular : (rows : List Row) → IsSubmodular (thiele_value w rows)
  thiele-submodular = sum-submodular (λ (r : Row) set. r.1 * sum (take (hits r.0 set) w)) each
    where
      each : (r : Row) → IsSubmodular (λ set. r.1 * sum (take (hits r.0 set) w))
      each r set added x =
          let product = mul-le-mul_left r.1 (voter-submodular (hits r.0 set) (hits r.0 (set ++ added)) (hits r.0 (set ++ x ∷ [])) (hits r.0 ((set ++ added) ++ x ∷ []))
          (hits-more r.0 set added) (hits-more r.0 set (x ∷ [])) (hits-more r.0 (set ++ added) (x ∷ [])) (hits-submodular r.0 set added x)) in
          omega (arith, product)

-- ---- satisfaction approval

shares-submodular : (share : Row → ℕ) (rows : List Row) → IsSubmodular (λ set. sum_by (λ (r : Row). r.1 * hits r.0 set * share r) rows)
shares-submodular share =
    sum-submodular (λ (r : Row) set. r.1 * hits r.0 set * share r) (λ r set added x. let product = mul-le-mul_left (r.1 * share r) (hits-submodular r.0 set added x) in omega (arith, product))

pub satisfaction-submodular : (m : ℕ) (rows : List Row) → IsSubmodular (satisfaction_value m rows)
satisfaction-submodular m rows = shares-submodular (λ (r : Row). common_multiple m / length r.0) (filter (λ (r : Row). not (length r.0 == 0)) rows)

pub thiele_rule-submodular : (rule : ThieleRule) (k : ℕ) (rows : List Row) → k ≤ most_members → IsSubmodular (thiele_value (increments rule k) rows)
thiele_rule-submodular rule k rows few = thiele-submodular (increments rule k) (λ i. increments-fall rule k i few) rows
