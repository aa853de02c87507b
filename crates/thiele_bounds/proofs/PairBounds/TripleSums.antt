-- Row sums, one level deeper: what sums over triples of members are bounded by.
use Rattle.std.proofs.Common.{◌≡◌, ℕ, suc, ◌+◌, ◌-◌, ◌*◌, ◌≤◌, ◌==◌, ◌&&◌, ◌∙◌, Bool, true, false, not, List, [], ◌∷◌, refl, sym, ap, arith, inl, inr, length, sum_by}
use Rattle.std.proofs.lemmas.Bool.{cases_eq, eq-eqb, ne_eqb}
use Rattle.std.proofs.lemmas.List.Sums.{sum_by-cons}
use Rattle.ballot_base.specs.Lists.{IsIncreasing}
use Rattle.ballot_base.specs.CandSet.{has_member, without_member}
use Rattle.ballot_base.proofs.Increasing.{has_member_head}
use Rattle.thiele_bounds.specs.Triples.{sum_of_one, sum_of_pairs, sum_of_triples, sum_of_two, threshold_sum, worth_of_three}
use Rattle.row_multipliers.proofs.CompletionLemmas.{member-without}
use Rattle.row_multipliers.proofs.SearchLemmas.{sum-among, sum-threshold}
use Rattle.thiele_bounds.proofs.PairBounds.PairLemmas.{or-true, sum-apart, sum-equal, sum-less}
use Rattle.thiele_bounds.proofs.PairBounds.TripleLemmas.{rest-rises, rests-turned}

ones-length : (xs : List ℕ) → sum_by (λ n. 1) xs ≡ length xs
ones-length [] = refl
ones-length (x ∷ xs) = omega (arith, ones-length xs, sum_by-cons (λ (n : ℕ). 1) x xs)

-- one fewer without a member
length-rest : (m i : ℕ) (xs : List ℕ) → IsIncreasing 1 m xs → has_member xs i ≡ true → length xs ≡ 1 + length (without_member xs i)
length-rest m i xs up here = omega (arith, ones-length xs, ones-length (without_member xs i), sum-apart (λ n. 1) m 1 i xs up here)

-- others are members
rest-within : (xs : List ℕ) (i n : ℕ) → has_member (without_member xs i) n ≡ true → has_member xs n ≡ true
rest-within xs i n here = second (not (n == i)) (has_member xs n) (sym (member-without xs i n) ∙ here)
  where
    second : (p q : Bool) → (p && q) ≡ true → q ≡ true
    second true q h = h
    second false q h = absurd cc

-- who is among candidates is among them without another
rest-among : (xs ys : List ℕ) (i : ℕ) → ((n : ℕ) → has_member xs n ≡ true → has_member ys n ≡ true)
    → (n : ℕ) → has_member (without_member xs i) n ≡ true → has_member (without_member ys i) n ≡ true
rest-among xs ys i among n here = member-without ys i n ∙ both (not (n == i)) (has_member xs n) (has_member ys n) (among n) (sym (member-without xs i n) ∙ here)
  where
    both : (p q r : Bool) → (q ≡ true → r ≡ true) → (p && q) ≡ true → (p && r) ≡ true
    both true q r h is = h is
    both false q r h is = is

-- ---- thresholds

-- members bring no more than their number of thresholds and the excess of the candidates
step : (f : ℕ → ℕ) (t m : ℕ) (members free : List ℕ) → IsIncreasing 1 m members → IsIncreasing 1 m free → ((n : ℕ) → has_member members n ≡ true → has_member free n ≡ true)
    → sum_by f members ≤ threshold_sum f free (length members) t
step f t m members free up rises among =
    omega (arith, sum-threshold f f t members (λ n is. omega arith), sum-among (λ n. f n - t) m members free up rises among)

-- the same for pairs and triples
pub triples-step : (c : ℕ → ℕ → ℕ → ℕ) (third : ℕ → ℕ → ℕ) (second : ℕ → ℕ) (m q : ℕ) (members free : List ℕ) → IsIncreasing 1 m members → IsIncreasing 1 m free
    → ((n : ℕ) → has_member members n ≡ true → has_member free n ≡ true) → length members ≡ q + 2
    → sum_of_triples c members
    ≤ sum_by (λ i. threshold_sum (λ j. threshold_sum (c i j) (without_member (without_member free i) j) q (third i j)) (without_member free i) (q + 1) (second i)) members
triples-step c third second m q members free up rises among size =
    sum-less (λ i. sum_of_pairs (c i) (without_member members i)) (λ i. threshold_sum (λ j. threshold_sum (c i j) (without_member (without_member free i) j) q (third i j)) (without_member free i) (q + 1) (second i)) members pairs
  where
    pairs : (i : ℕ) → has_member members i ≡ true → sum_of_pairs (c i) (without_member members i)
        ≤ threshold_sum (λ j. threshold_sum (c i j) (without_member (without_member free i) j) q (third i j)) (without_member free i) (q + 1) (second i)
    pairs i here =
        let some = without_member members i in
        let all = without_member free i in
        let some_up = rest-rises m i members up in
        let all_up = rest-rises m i free rises in
        let inside = rest-among members free i among in
        let size_rest = length-rest m i members up here in
        let bound : ℕ → ℕ = λ j. threshold_sum (c i j) (without_member all j) q (third i j) in
        let each : (j : ℕ) → has_member some j ≡ true → sum_by (c i j) (without_member some j) ≤ bound j =
        λ j in_.
        let count : length (without_member some j) ≡ q = omega (arith, size, size_rest, length-rest m j some some_up in_) in
        omega (
          arith,
          step (c i j) (third i j) m (without_member some j) (without_member all j) (rest-rises m j some some_up) (rest-rises m j all all_up) (rest-among some all j inside),
          ap (λ n. n * third i j) count,
        ) in
        let count : length some ≡ q + 1 = omega (arith, size, size_rest) in
        omega (
          arith,
          sum-less (λ j. sum_by (c i j) (without_member some j)) bound some each,
          step bound (second i) m some all some_up all_up inside,
          ap (λ n. n * second i) count,
        )

-- ---- the sum over all triples

-- what holds for each holds for the sums
affine : (f o p w t : ℕ → ℕ) (a b c d b' c' e d' : ℕ) (xs : List ℕ)
    → ((n : ℕ) → has_member xs n ≡ true → f n + a * o n + b * p n + c * w n + d ≡ b' * p n + c' * w n + e * t n + d')
    → sum_by f xs + a * sum_by o xs + b * sum_by p xs + c * sum_by w xs + length xs * d ≡ b' * sum_by p xs + c' * sum_by w xs + e * sum_by t xs + length xs * d'
affine f o p w t a b c d b' c' e d' [] same = omega arith
affine f o p w t a b c d b' c' e d' (x ∷ xs) same =
    let tail = affine f o p w t a b c d b' c' e d' xs (λ n is. same n (or-true (x == n) (has_member xs n) is)) in
    let split : (k y z : ℕ) → k * (y + z) ≡ k * y + k * z = λ k y z. omega arith in
    let times : (n k : ℕ) → suc n * k ≡ n * k + k = λ n k. omega arith in
    omega (
      arith,
      tail,
      same x (has_member_head x xs),
      sum_by-cons f x xs,
      ap (λ n. a * n) (sum_by-cons o x xs),
      split a (o x) (sum_by o xs),
      ap (λ n. b * n) (sum_by-cons p x xs),
      split b (p x) (sum_by p xs),
      ap (λ n. b' * n) (sum_by-cons p x xs),
      split b' (p x) (sum_by p xs),
      ap (λ n. c * n) (sum_by-cons w x xs),
      split c (w x) (sum_by w xs),
      ap (λ n. c' * n) (sum_by-cons w x xs),
      split c' (w x) (sum_by w xs),
      ap (λ n. e * n) (sum_by-cons t x xs),
      split e (t x) (sum_by t xs),
      times (length xs) d,
      times (length xs) d',
    )

module _ (worth : ℕ → ℕ) (overlap : ℕ → ℕ → ℕ) (triple c : ℕ → ℕ → ℕ → ℕ) (m q e raise : ℕ) (members : List ℕ) (up : IsIncreasing 1 m members) (size : length members ≡ q + 2)
    (symmetric : (i j : ℕ) → overlap i j ≡ overlap j i)
    (three : (i j l : ℕ) → has_member members i ≡ true → has_member members j ≡ true → has_member members l ≡ true
    → c i j l + (q + 1) * (overlap i j + overlap i l + overlap j l) ≡ worth i + worth j + worth l + e * triple i j l + raise) where
  abbrev rest : ℕ → List ℕ
  rest i = without_member members i

  -- the overlaps of a member with the others
  abbrev own : ℕ → ℕ
  own i = sum_by (overlap i) (rest i)

  rests-same : (i j : ℕ) → without_member (rest i) j ≡ without_member (rest j) i
  rests-same i j = rests-turned m members up i j

  -- over the third member
  thirds : (i j : ℕ) → has_member members i ≡ true → has_member (rest i) j ≡ true
      → sum_by (c i j) (without_member (rest i) j) + (q + 1) * own j + ((q + 1) * q) * overlap i j + 1 * worth j + ((q + 1) * own i + worth i)
      ≡ (2 * (q + 1)) * overlap i j + q * worth j + e * sum_by (triple i j) (without_member (rest i) j) + (q * (worth i + raise) + sum_by worth members)
  thirds i j here there =
      let some_up = rest-rises m i members up in
      let inside = rest-within members i j there in
      let others = without_member (rest i) j in
      let count : length others ≡ q = omega (arith, size, length-rest m i members up here, length-rest m j (rest i) some_up there) in
      let other : has_member (rest j) i ≡ true = turned-member in
      let point : (l : ℕ) → has_member others l ≡ true → c i j l + (q + 1) * overlap j l + (q + 1) * overlap i l + 0 * worth l + (q + 1) * overlap i j ≡ 0 * overlap i l + 1 * worth l + e * triple i j l + (worth i + worth j + raise) =
      λ l in_.
      let split : (k x y z : ℕ) → k * (x + y + z) ≡ k * x + k * y + k * z = λ k x y z. omega arith in
      omega (arith, three i j l here inside (rest-within members i l (rest-within (rest i) j l in_)), split (q + 1) (overlap i j) (overlap i l) (overlap j l)) in
      let all = affine (c i j) (overlap j) (overlap i) worth (triple i j) (q + 1) (q + 1) 0 ((q + 1) * overlap i j) 0 1 e (worth i + worth j + raise) others point in
      let split : (k x y : ℕ) → k * (x + y) ≡ k * x + k * y = λ k x y. omega arith in
      let mine : own i ≡ overlap i j + sum_by (overlap i) others = sum-apart (overlap i) m 1 j (rest i) some_up there in
      let theirs : own j ≡ overlap i j + sum_by (overlap j) others =
      sum-apart (overlap j) m 1 i (rest j) (rest-rises m j members up) other ∙ ap (λ n. n + sum_by (overlap j) (without_member (rest j) i)) (symmetric j i) ∙ ap (λ l. overlap i j + sum_by (overlap j) l) (rests-same j i) in
      let ring : (q o : ℕ) → q * ((q + 1) * o) ≡ (q + 1) * q * o = λ q o. omega arith in
      let double : (q o : ℕ) → 2 * (q + 1) * o ≡ (q + 1) * o + (q + 1) * o = λ q o. omega arith in
      let share : (q x y z : ℕ) → q * (x + y + z) ≡ q * y + q * (x + z) = λ q x y z. omega arith in
      omega (
        arith,
        all,
        ap (λ n. n * ((q + 1) * overlap i j)) count,
        ap (λ n. n * (worth i + worth j + raise)) count,
        ap (λ n. (q + 1) * n) mine,
        split (q + 1) (overlap i j) (sum_by (overlap i) others),
        ap (λ n. (q + 1) * n) theirs,
        split (q + 1) (overlap i j) (sum_by (overlap j) others),
        ring q (overlap i j),
        double q (overlap i j),
        share q (worth i) (worth j) raise,
        sum-apart worth m 1 i members up here,
        sum-apart worth m 1 j (rest i) some_up there,
      )
    where
      turned-member : has_member (rest j) i ≡ true
      turned-member = member-without members j i ∙ both (i == j) (j == i) (has_member members i) (turn i j) here (sym (member-without members i j) ∙ there)
        where
          turn : (a b : ℕ) → (a == b) ≡ (b == a)
          turn a b = elim (cases_eq a b) [
            | inl same ↦ eq-eqb a b same ∙ sym (eq-eqb b a (sym same))
            | inr other ↦ ne_eqb a b other ∙ sym (ne_eqb b a (λ e. other (sym e)))
          ]

          both : (p r s : Bool) → p ≡ r → s ≡ true → (not r && has_member members j) ≡ true → (not p && s) ≡ true
          both true true s same is h = absurd (let e : false ≡ true = h in cc)
          both true false s same is h = absurd cc
          both false r s same is h = is

  -- over the second member
  seconds : (i : ℕ) → has_member members i ≡ true
      → sum_of_pairs (c i) (rest i) + 0 * own i + (2 * ((q + 1) * q)) * own i + q * worth i + ((q + 1) * sum_of_pairs overlap members + sum_by worth members)
      ≡ (2 * (q + 1)) * own i + (q * q) * worth i + e * sum_of_pairs (triple i) (rest i) + (q * sum_by worth members + q * (q + 1) * raise + (q + 1) * sum_by worth members)
  seconds i here =
      let w = sum_by worth members in
      let all = affine (λ j. sum_by (c i j) (without_member (rest i) j)) own (overlap i) worth (λ j. sum_by (triple i j) (without_member (rest i) j)) (q + 1) ((q + 1) * q) 1 ((q + 1) * own i + worth i) (2 * (q + 1)) q e (q * (worth i + raise) + w) (rest i) (λ j there. thirds i j here there) in
      let count : length (rest i) ≡ q + 1 = omega (arith, size, length-rest m i members up here) in
      let split : (k x y : ℕ) → k * (x + y) ≡ k * x + k * y = λ k x y. omega arith in
      let pairs : sum_of_pairs overlap members ≡ own i + sum_by own (rest i) = sum-apart own m 1 i members up here in
      let worths : w ≡ worth i + sum_by worth (rest i) = sum-apart worth m 1 i members up here in
      let left_ring : (q o w : ℕ) → (q + 1) * ((q + 1) * o + w) ≡ (q + 1) * q * o + (q + 1) * o + q * w + w = λ q o w. omega arith in
      let right_ring : (q x r w : ℕ) → (q + 1) * (q * (x + r) + w) ≡ q * q * x + q * x + q * (q + 1) * r + (q + 1) * w = λ q x r w. omega arith in
      let double : (q o : ℕ) → 2 * ((q + 1) * q) * o ≡ (q + 1) * q * o + (q + 1) * q * o = λ q o. omega arith in
      omega (
        arith,
        all,
        ap (λ n. n * ((q + 1) * own i + worth i)) count,
        ap (λ n. n * (q * (worth i + raise) + w)) count,
        left_ring q (own i) (worth i),
        right_ring q (worth i) raise w,
        double q (own i),
        ap (λ n. (q + 1) * n) pairs,
        split (q + 1) (own i) (sum_by own (rest i)),
        ap (λ n. q * n) worths,
        split q (worth i) (sum_by worth (rest i)),
        worths,
      )

  -- over the first member
  pub triples-whole : sum_of_triples c members + 3 * (q + 1) * q * sum_of_pairs overlap members
      ≡ 3 * (q + 1) * q * sum_by worth members + e * sum_of_triples triple members + (q + 2) * (q + 1) * q * raise
  triples-whole =
      let w = sum_by worth members in
      let p = sum_of_pairs overlap members in
      let all = affine (λ i. sum_of_pairs (c i) (rest i)) own own worth (λ i. sum_of_pairs (triple i) (rest i)) 0 (2 * ((q + 1) * q)) q ((q + 1) * p + w) (2 * (q + 1)) (q * q) e (q * w + q * (q + 1) * raise + (q + 1) * w) members seconds in
      let left_ring : (q p w : ℕ) → 2 * ((q + 1) * q) * p + q * w + (q + 2) * ((q + 1) * p + w) ≡ 3 * (q + 1) * q * p + 2 * (q + 1) * p + q * w + (q + 2) * w = λ q p w. omega arith in
      let right_ring : (q w r : ℕ) → q * q * w + (q + 2) * (q * w + q * (q + 1) * r + (q + 1) * w) ≡ 3 * (q + 1) * q * w + (q + 2) * (q + 1) * q * r + q * w + (q + 2) * w = λ q w r. omega arith in
      omega (
        arith,
        all,
        ap (λ n. n * ((q + 1) * p + w)) size,
        ap (λ n. n * (q * w + q * (q + 1) * raise + (q + 1) * w)) size,
        left_ring q p w,
        right_ring q w raise,
      )

-- row sums, one level deeper, bound worths and triples less overlaps
pub threes-bound : (worth : ℕ → ℕ) (overlap : ℕ → ℕ → ℕ) (triple : ℕ → ℕ → ℕ → ℕ) (m left raise : ℕ) (third : ℕ → ℕ → ℕ) (second : ℕ → ℕ) (free members : List ℕ) → 2 ≤ left → IsIncreasing 1 m free → IsIncreasing 1 m members
    → length members ≡ left → ((n : ℕ) → has_member members n ≡ true → has_member free n ≡ true) → ((i j : ℕ) → overlap i j ≡ overlap j i)
    → ((i j l : ℕ) → has_member free i ≡ true → has_member free j ≡ true → has_member free l ≡ true
    → (left - 1) * (overlap i j + overlap i l + overlap j l) ≤ worth i + worth j + worth l + 3 * (left - 1) * (left - 2) * triple i j l + raise)
    → 3 * (left - 1) * (left - 2) * (sum_by worth members + sum_of_triples triple members) + left * (left - 1) * (left - 2) * raise
    ≤ 3 * (left - 1) * (left - 2) * sum_of_pairs overlap members + sum_by (sum_of_one (sum_of_two (worth_of_three worth overlap triple left raise) free left third) free left second) members
threes-bound worth overlap triple m left raise third second free members two rises up size among symmetric enough =
    let q : ℕ = left - 2 in
    let one : left - 1 ≡ q + 1 = omega (arith, two) in
    let all : left ≡ q + 2 = omega (arith, two) in
    let three = worth_of_three worth overlap triple left raise in
    let point : (i j l : ℕ) → has_member members i ≡ true → has_member members j ≡ true → has_member members l ≡ true
    → three i j l + (q + 1) * (overlap i j + overlap i l + overlap j l) ≡ worth i + worth j + worth l + 3 * (left - 1) * q * triple i j l + raise =
    λ i j l a b d. omega (arith, enough i j l (among i a) (among j b) (among l d), ap (λ n. n * (overlap i j + overlap i l + overlap j l)) one) in
    let whole = triples-whole worth overlap triple three m q (3 * (left - 1) * q) raise members up (omega (arith, size, all)) symmetric point in
    let sums = triples-step three third second m q members free up rises among (omega (arith, size, all)) in
    let bounds : sum_by (λ i. threshold_sum (λ j. threshold_sum (three i j) (without_member (without_member free i) j) q (third i j)) (without_member free i) (q + 1) (second i)) members
    ≡ sum_by (sum_of_one (sum_of_two three free left third) free left second) members =
    sum-equal (λ i. threshold_sum (λ j. threshold_sum (three i j) (without_member (without_member free i) j) q (third i j)) (without_member free i) (q + 1) (second i)) (sum_of_one (sum_of_two three free left third) free left second) members
    (λ i is. omega (arith, ap (λ n. n * second i) one)) in
    let split : (k x y : ℕ) → k * (x + y) ≡ k * x + k * y = λ k x y. omega arith in
    omega (
      arith,
      whole,
      sums,
      bounds,
      ap (λ n. 3 * n * q * sum_of_pairs overlap members) one,
      ap (λ n. 3 * n * q * sum_by worth members) one,
      ap (λ n. left * n * q * raise) one,
      ap (λ n. n * (q + 1) * q * raise) all,
      split (3 * (left - 1) * q) (sum_by worth members) (sum_of_triples triple members),
    )
