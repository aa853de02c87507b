-- Pairs of members: sums over them, and what row sums bound.
use Rattle.std.proofs.Common.{◌≡◌, ℕ, zero, suc, ◌+◌, ◌-◌, ◌*◌, ◌≤◌, ◌==◌, ◌&&◌, ◌||◌, ◌∙◌, Bool, true, false, not, cond, List, [], ◌∷◌, ◌++◌, refl, sym, ap, arith, inl, inr, length, min, sum, sum_by, take}
use Rattle.std.specs.List.{AllByRecursion}
use Rattle.std.proofs.Math.Nat.{mul-le-mul_left}
use Rattle.std.proofs.lemmas.Bool.{cases_eq, eq-eqb, ne_eqb}
use Rattle.std.proofs.lemmas.List.Sums.{sum_by-cons, count_by-le-length}
use Rattle.ballot_base.specs.Lists.{IsIncreasing}
use Rattle.ballot_base.specs.CandSet.{has_member, common_members, without_member}
use Rattle.ballot_base.specs.Ballots.{Row, hits}
use Rattle.ballot_base.proofs.Increasing.{IsIncreasing-filter, has_member-below, has_member_head}
use Rattle.tie_walk.specs.Sequences.{supporters}
use Rattle.tie_walk.specs.Values.{thiele_value}
use Rattle.row_multipliers.specs.Completions.{IsNode, IsCompletion}
use Rattle.thiele_bounds.specs.Pairs.{IsMajorant, all_constants, all_worth, all_overlap, pair_sum, worth_beside, row_sum}
use Rattle.row_multipliers.proofs.CompletionLemmas.{added, added-free, added-increasing, added-size, completion-members, hits-same, member-without}
use Rattle.row_multipliers.proofs.HitLemmas.{hits-append, hits-more, hits-turned}
use Rattle.row_multipliers.proofs.SearchLemmas.{sum-among, sum-threshold}

pub or-true : (p q : Bool) → q ≡ true → (p || q) ≡ true
or-true true q h = refl
or-true false q h = h

-- ---- sums over members

-- what is equal for each is equal for all
pub sum-equal : (f g : ℕ → ℕ) (xs : List ℕ) → ((n : ℕ) → has_member xs n ≡ true → f n ≡ g n) → sum_by f xs ≡ sum_by g xs
sum-equal f g [] same = refl
sum-equal f g (x ∷ xs) same =
    let tail = sum-equal f g xs (λ n is. same n (or-true (x == n) (has_member xs n) is)) in
    omega (arith, tail, same x (has_member_head x xs), sum_by-cons f x xs, sum_by-cons g x xs)

-- what is no more for each is no more for all
pub sum-less : (f g : ℕ → ℕ) (xs : List ℕ) → ((n : ℕ) → has_member xs n ≡ true → f n ≤ g n) → sum_by f xs ≤ sum_by g xs
sum-less f g [] less = omega arith
sum-less f g (x ∷ xs) less =
    let tail = sum-less f g xs (λ n is. less n (or-true (x == n) (has_member xs n) is)) in
    omega (arith, tail, less x (has_member_head x xs), sum_by-cons f x xs, sum_by-cons g x xs)

-- members of a ballot are worth more by the same
pub sum-more : (f g : ℕ → ℕ) (has : ℕ → Bool) (more : ℕ) (xs : List ℕ) → ((n : ℕ) → has_member xs n ≡ true → g n ≡ f n + cond (has n) more 0)
    → sum_by g xs ≡ sum_by f xs + more * sum_by (λ n. cond (has n) 1 0) xs
sum-more f g has more [] are = omega arith
sum-more f g has more (x ∷ xs) are =
    let tail = sum-more f g has more xs (λ n is. are n (or-true (x == n) (has_member xs n) is)) in
    let split : (a b c : ℕ) → a * (b + c) ≡ a * b + a * c = λ a b c. omega arith in
    omega (
      arith,
      tail,
      are x (has_member_head x xs),
      part (has x),
      split more (cond (has x) 1 0) (sum_by (λ n. cond (has n) 1 0) xs),
      ap (λ n. more * n) (sum_by-cons (λ n. cond (has n) 1 0) x xs),
      sum_by-cons f x xs,
      sum_by-cons g x xs,
    )
  where
    part : (b : Bool) → cond b more 0 ≡ more * cond b 1 0
    part true = omega arith
    part false = omega arith

-- members of a ballot overlap more by the same
pub pairs-more : (f g : ℕ → ℕ → ℕ) (has : ℕ → Bool) (more : ℕ) (xs : List ℕ)
    → ((i j : ℕ) → has_member xs i ≡ true → has_member xs j ≡ true → g i j ≡ f i j + cond (has i) (cond (has j) more 0) 0)
    → pair_sum g xs ≡ pair_sum f xs + more * (sum_by (λ n. cond (has n) 1 0) xs * sum_by (λ n. cond (has n) 1 0) xs)
pairs-more f g has more xs are =
    let h = sum_by (λ n. cond (has n) 1 0) xs in
    let turned : (a b : ℕ) → a * b * b ≡ a * (b * b) = λ a b. omega arith in
    omega (arith, sum-more (λ i. sum_by (f i) xs) (λ i. sum_by (g i) xs) has (more * h) xs row, turned more h)
  where
    row : (i : ℕ) → has_member xs i ≡ true → sum_by (g i) xs ≡ sum_by (f i) xs + cond (has i) (more * sum_by (λ n. cond (has n) 1 0) xs) 0
    row i in_ = by (has i) refl
      where
        by : (b : Bool) → has i ≡ b → sum_by (g i) xs ≡ sum_by (f i) xs + cond b (more * sum_by (λ n. cond (has n) 1 0) xs) 0
        by true e = sum-more (f i) (g i) has more xs (λ j is. are i j in_ is ∙ ap (λ b. f i j + cond b (cond (has j) more 0) 0) e)
        by false e =
            let same : sum_by (g i) xs ≡ sum_by (f i) xs = sum-equal (g i) (f i) xs (λ j is. omega (arith, are i j in_ is ∙ ap (λ b. f i j + cond b (cond (has j) more 0) 0) e)) in
            omega (arith, same)

-- ---- row sums

-- a sum over a member and the others
pub sum-apart : (f : ℕ → ℕ) (last first n : ℕ) (xs : List ℕ) → IsIncreasing first last xs → has_member xs n ≡ true → sum_by f xs ≡ f n + sum_by f (without_member xs n)
sum-apart f last first n [] up here = absurd cc
sum-apart f last first n (x ∷ xs) up here = elim (cases_eq x n) [
  | inl same ↦
      let out : without_member (x ∷ xs) n ≡ without_member xs n = simp (eq-eqb x n same) in
      let rest : without_member xs n ≡ xs = gone xs (λ y is same'. absurd (let e : true ≡ false = sym is ∙ ap (has_member xs) (same' ∙ sym same) ∙ has_member-below (x + 1) last xs x up.2 (omega arith) in cc)) in
      omega (arith, ap (sum_by f) (out ∙ rest), ap f same, sum_by-cons f x xs)
  | inr other ↦
      let in_ : without_member (x ∷ xs) n ≡ x ∷ without_member xs n = simp (ne_eqb x n other) in
      let more : has_member xs n ≡ true = ap (λ b. b || has_member xs n) (sym (ne_eqb x n other)) ∙ here in
      omega (arith, ap (sum_by f) in_, sum_by-cons f x xs, sum_by-cons f x (without_member xs n), sum-apart f last (x + 1) n xs up.2 more)
]
  where
    gone : (xs : List ℕ) → ((y : ℕ) → has_member xs y ≡ true → y ≡ n → ⊥) → without_member xs n ≡ xs
    gone [] other = refl
    gone (y ∷ xs) other =
        let in_ : without_member (y ∷ xs) n ≡ y ∷ without_member xs n = simp (ne_eqb y n (other y (has_member_head y xs))) in
        in_ ∙ ap (λ l. y ∷ l) (gone xs (λ z is. other z (or-true (y == z) (has_member xs z) is)))

-- the worths of a row and its overlaps
row-whole : (worth : ℕ → ℕ) (overlap : ℕ → ℕ → ℕ) (left raise i : ℕ) (xs : List ℕ) → ((j : ℕ) → has_member xs j ≡ true → 2 * (left - 1) * overlap i j ≤ worth j + raise)
    → sum_by (worth_beside worth overlap left raise i) xs + 2 * (left - 1) * sum_by (overlap i) xs ≡ sum_by worth xs + length xs * raise
row-whole worth overlap left raise i [] enough = omega arith
row-whole worth overlap left raise i (x ∷ xs) enough =
    let tail = row-whole worth overlap left raise i xs (λ j is. enough j (or-true (x == j) (has_member xs j) is)) in
    let split : (a b c : ℕ) → a * (b + c) ≡ a * b + a * c = λ a b c. omega arith in
    let times : (n t : ℕ) → suc n * t ≡ n * t + t = λ n t. omega arith in
    omega (
      arith,
      tail,
      enough x (has_member_head x xs),
      split (2 * (left - 1)) (overlap i x) (sum_by (overlap i) xs),
      times (length xs) raise,
      ap (λ n. 2 * (left - 1) * n) (sum_by-cons (overlap i) x xs),
      sum_by-cons (worth_beside worth overlap left raise i) x xs,
      sum_by-cons worth x xs,
    )

module _ (worth : ℕ → ℕ) (overlap : ℕ → ℕ → ℕ) (m : ℕ) (free more : List ℕ) (left raise : ℕ) (two : 2 ≤ left) (rises : IsIncreasing 1 m free) (up : IsIncreasing 1 m more)
    (size : length more ≡ left) (among : (n : ℕ) → has_member more n ≡ true → has_member free n ≡ true)
    (enough : (i j : ℕ) → has_member free i ≡ true → has_member free j ≡ true → 2 * (left - 1) * overlap i j ≤ worth j + raise) where
  abbrev beside : ℕ → ℕ → ℕ
  beside i j = worth_beside worth overlap left raise i j

  -- a candidate's part of all rows
  abbrev own_row : ℕ → ℕ
  own_row i = (left - 2) * worth i + sum_by (beside i) more

  part-whole : (xs : List ℕ) → ((n : ℕ) → has_member xs n ≡ true → has_member more n ≡ true)
      → sum_by own_row xs + 2 * (left - 1) * sum_by (λ i. sum_by (overlap i) more) xs ≡ (left - 2) * sum_by worth xs + length xs * (sum_by worth more + left * raise)
  part-whole [] within = omega arith
  part-whole (x ∷ xs) within =
      let inside : has_member more x ≡ true = within x (has_member_head x xs) in
      let tail = part-whole xs (λ n is. within n (or-true (x == n) (has_member xs n) is)) in
      let row = row-whole worth overlap left raise x more (λ j is. enough x j (among x inside) (among j is)) in
      let split : (a b c : ℕ) → a * (b + c) ≡ a * b + a * c = λ a b c. omega arith in
      let times : (n t : ℕ) → suc n * t ≡ n * t + t = λ n t. omega arith in
      omega (
        arith,
        tail,
        row,
        ap (λ n. n * raise) size,
        split (2 * (left - 1)) (sum_by (overlap x) more) (sum_by (λ i. sum_by (overlap i) more) xs),
        split (left - 2) (worth x) (sum_by worth xs),
        times (length xs) (sum_by worth more + left * raise),
        ap (λ n. 2 * (left - 1) * n) (sum_by-cons (λ i. sum_by (overlap i) more) x xs),
        ap (λ n. (left - 2) * n) (sum_by-cons worth x xs),
        sum_by-cons own_row x xs,
      )

  -- all rows together: each worth and each overlap counts 2 (left - 1) times
  own-whole : sum_by own_row more + 2 * (left - 1) * pair_sum overlap more ≡ 2 * (left - 1) * sum_by worth more + left * left * raise
  own-whole = omega (arith, part-whole more (λ n is. is), ap (λ n. n * (sum_by worth more + left * raise)) size, double left (sum_by worth more) raise two)
    where
      double : (left w raise : ℕ) → 2 ≤ left → (left - 2) * w + left * (w + left * raise) ≡ 2 * (left - 1) * w + left * left * raise
      double zero w raise two = absurd (omega (arith, two))
      double (suc zero) w raise two = absurd (omega (arith, two))
      double (suc (suc l)) w raise two =
          let less : suc (suc l) - 2 ≡ l = omega arith in
          let one : suc (suc l) - 1 ≡ l + 1 = omega arith in
          let ring : l * w + suc (suc l) * (w + suc (suc l) * raise) ≡ 2 * (l + 1) * w + suc (suc l) * suc (suc l) * raise = omega arith in
          omega (arith, ap (λ n. n * w) less, ap (λ n. 2 * n * w) one, ring)

  -- a member's part is no more than its row sum by any threshold
  own-low : (i t : ℕ) → has_member more i ≡ true → own_row i ≤ row_sum worth overlap free left raise t i
  own-low i t here =
      let others = without_member more i in
      let smaller = IsIncreasing-filter (λ x. not (x == i)) 1 m more up in
      omega (
        arith,
        sum-apart (beside i) m 1 i more up here,
        sum-threshold (beside i) (beside i) t others (λ n is. omega arith),
        ap (λ n. n * t) (let count : length others ≡ left - 1 = omega (arith, size, ones more, ones others, sum-apart (λ n. 1) m 1 i more up here) in count),
        sum-among (λ j. beside i j - t) m others (without_member free i) smaller (IsIncreasing-filter (λ x. not (x == i)) 1 m free rises)
            (λ n is. member-without free i n ∙ both (not (n == i)) (has_member more n) (has_member free n) (among n) (sym (member-without more i n) ∙ is)),
      )
    where
      ones : (xs : List ℕ) → sum_by (λ n. 1) xs ≡ length xs
      ones [] = refl
      ones (x ∷ xs) = omega (arith, ones xs, sum_by-cons (λ (n : ℕ). 1) x xs)

      both : (p q r : Bool) → (q ≡ true → r ≡ true) → (p && q) ≡ true → (p && r) ≡ true
      both true q r h is = h is
      both false q r h is = is

  module _ (sums : ℕ → ℕ) (high : (n : ℕ) → has_member free n ≡ true → (t : ℕ) × (row_sum worth overlap free left raise t n ≤ sums n)) where
    own-most : (n : ℕ) → has_member more n ≡ true → own_row n ≤ sums n
    own-most n is = let h = high n (among n is) in omega (arith, h.1, own-low n h.0 is)

    pub rows-bound : 2 * (left - 1) * sum_by worth more + left * left * raise ≤ 2 * (left - 1) * pair_sum overlap more + sum_by sums more
    rows-bound = omega (arith, own-whole, sum-less own_row sums more own-most)

-- ---- pairs

-- a row more
pub worth-cons : (f : Row → ℕ) (row : Row) (rows : List Row) (n : ℕ) → all_worth f (row ∷ rows) n ≡ all_worth f rows n + cond (has_member row.0 n) (row.1 * f row) 0
worth-cons f row rows n = by (has_member row.0 n)
  where
    by : (b : Bool) → sum_by (λ (r : Row). r.1 * f r) (cond b (row ∷ supporters rows n) (supporters rows n)) ≡ all_worth f rows n + cond b (row.1 * f row) 0
    by true = omega (arith, sum_by-cons (λ (r : Row). r.1 * f r) row (supporters rows n))
    by false = omega arith

pub overlap-cons : (f : Row → ℕ) (row : Row) (rows : List Row) (i j : ℕ)
    → all_overlap f (row ∷ rows) i j ≡ all_overlap f rows i j + cond (has_member row.0 i) (cond (has_member row.0 j) (row.1 * f row) 0) 0
overlap-cons f row rows i j = by (has_member row.0 i)
  where
    by : (b : Bool) → all_worth f (cond b (row ∷ supporters rows i) (supporters rows i)) j ≡ all_overlap f rows i j + cond b (cond (has_member row.0 j) (row.1 * f row) 0) 0
    by true = worth-cons f row (supporters rows i) j
    by false = omega arith

-- the voters of one row, with h hits among those who join
pub voters-bound : (scale unit voters given constant worth overlap h : ℕ) → scale * given + unit * (overlap * (h * h)) ≤ unit * (constant + worth * h)
    → scale * (voters * given) + unit * (voters * overlap * (h * h)) ≤ unit * (voters * constant + voters * worth * h)
voters-bound scale unit voters given constant worth overlap h one =
    let all : voters * (scale * given + unit * (overlap * (h * h))) ≤ voters * (unit * (constant + worth * h)) = mul-le-mul_left voters one in
    let low : (a b c d e f : ℕ) → a * (b * c + d * (e * (f * f))) ≡ b * (a * c) + d * (a * e * (f * f)) = λ a b c d e f. omega arith in
    let top : (a d k w f : ℕ) → a * (d * (k + w * f)) ≡ d * (a * k + a * w * f) = λ a d k w f. omega arith in
    omega (arith, all, low voters scale given unit overlap h, top voters unit constant worth h)

module _ (weights : List ℕ) (scale unit m : ℕ) (set free : List ℕ) (left : ℕ) (committee : List ℕ) (is_node : IsNode m set free) (whole : IsCompletion m set free left committee) where
  -- who joins
  abbrev pub joined : List ℕ
  joined = common_members free committee

  -- how many of those who join a ballot has
  pub hits-joined : (ballot : List ℕ) → hits ballot committee ≡ hits ballot set + hits ballot (added m set free left committee is_node whole)
  hits-joined ballot =
      let more = added m set free left committee is_node whole in
      omega (
        arith,
        hits-same ballot committee (set ++ more) (completion-members m set free left committee is_node whole),
        hits-append ballot set more (λ n h. is_node.apart n (added-free m set free left committee is_node whole n h)),
      )

  -- as many as candidates of the set of those who join
  pub hits-sum : (ballot : List ℕ) → IsIncreasing 1 m ballot
      → hits ballot (added m set free left committee is_node whole) ≡ sum_by (λ n. cond (has_member ballot n) 1 0) joined
  hits-sum ballot up = hits-turned m ballot (added m set free left committee is_node whole) up (added-increasing m set free left committee is_node whole)

  -- no ballot has more hits among them than places are left, or than free candidates
  pub hits-few : (ballot : List ℕ) → IsIncreasing 1 m ballot → hits ballot (added m set free left committee is_node whole) ≤ min left (hits ballot free)
  hits-few ballot up =
      let more = added m set free left committee is_node whole in
      let ones : (xs : List ℕ) → sum_by (λ n. cond (has_member ballot n) 1 0) xs ≤ length xs = λ xs. count_by-le-length (has_member ballot) xs in
      let below : hits ballot more ≤ hits ballot free = hits-more ballot more free (λ n is. added-free m set free left committee is_node whole n is) in
      omega (arith, hits-sum ballot up, ones more, added-size m set free left committee is_node whole, below)

  -- the bound, with a row more
  module _ (rows : List Row) (row : Row) (up : IsIncreasing 1 m row.0) (constant worth overlap all : ℕ) (f g : ℕ → ℕ) (p q : ℕ → ℕ → ℕ)
      (is : IsMajorant weights scale unit (hits row.0 set) (min left (hits row.0 free)) constant worth overlap)
      (before : scale * thiele_value weights rows committee + unit * pair_sum p joined ≤ unit * (all + sum_by f joined))
      (worths : (n : ℕ) → has_member free n ≡ true → g n ≡ f n + cond (has_member row.0 n) (row.1 * worth) 0)
      (overlaps : (i j : ℕ) → has_member free i ≡ true → has_member free j ≡ true → q i j ≡ p i j + cond (has_member row.0 i) (cond (has_member row.0 j) (row.1 * overlap) 0) 0) where
    pub row-bound : scale * (row.1 * sum (take (hits row.0 committee) weights) + thiele_value weights rows committee) + unit * pair_sum q joined ≤ unit * (all + row.1 * constant + sum_by g joined)
    row-bound =
        let more = added m set free left committee is_node whole in
        let free-is : (n : ℕ) → has_member joined n ≡ true → has_member free n ≡ true = added-free m set free left committee is_node whole in
        let h = hits row.0 more in
        let count : h ≡ sum_by (λ n. cond (has_member row.0 n) 1 0) joined = hits-sum row.0 up in
        let given = sum (take (hits row.0 set + h) weights) in
        let one : scale * (row.1 * given) + unit * (row.1 * overlap * (h * h)) ≤ unit * (row.1 * constant + row.1 * worth * h) =
        voters-bound scale unit row.1 given constant worth overlap h (is h (hits-few row.0 up)) in
        let worths' : sum_by g joined ≡ sum_by f joined + row.1 * worth * h =
        sum-more f g (has_member row.0) (row.1 * worth) joined (λ n in_. worths n (free-is n in_)) ∙ ap (λ n. sum_by f joined + row.1 * worth * n) (sym count) in
        let overlaps' : pair_sum q joined ≡ pair_sum p joined + row.1 * overlap * (h * h) =
        pairs-more p q (has_member row.0) (row.1 * overlap) joined (λ i j a b. overlaps i j (free-is i a) (free-is j b)) ∙ ap (λ n. pair_sum p joined + row.1 * overlap * (n * n)) (sym count) in
        let three : (a b c d : ℕ) → a * (b + c + (d + 0)) ≡ a * b + a * c + a * d = λ a b c d. omega arith in
        let two : (a b c : ℕ) → a * (b + c) ≡ a * b + a * c = λ a b c. omega arith in
        omega (
          arith,
          one,
          before,
          ap (λ n. scale * (row.1 * sum (take n weights))) (hits-joined row.0),
          two scale (row.1 * sum (take (hits row.0 committee) weights)) (thiele_value weights rows committee),
          ap (λ n. unit * n) overlaps',
          two unit (pair_sum p joined) (row.1 * overlap * (h * h)),
          ap (λ n. unit * (all + row.1 * constant + n)) worths',
          two unit (all + row.1 * constant) (sum_by f joined + row.1 * worth * h),
          two unit all (row.1 * constant),
          two unit (sum_by f joined) (row.1 * worth * h),
          two unit all (sum_by f joined),
          two unit (row.1 * constant) (row.1 * worth * h),
        )

  -- all rows
  pub pairs-bound : (constant worth overlap : Row → ℕ) (rows : List Row) → AllByRecursion (λ row. IsIncreasing 1 m row.0) rows
      → AllByRecursion (λ row. IsMajorant weights scale unit (hits row.0 set) (min left (hits row.0 free)) (constant row) (worth row) (overlap row)) rows
      → scale * thiele_value weights rows committee + unit * pair_sum (all_overlap overlap rows) joined ≤ unit * (all_constants constant rows + sum_by (all_worth worth rows) joined)
  pairs-bound constant worth overlap [] ups are = omega (arith, ap (λ n. unit * n) (nothing joined joined))
    where
      nothing : (xs ys : List ℕ) → sum_by (λ i. sum_by (all_overlap overlap [] i) ys) xs ≡ 0
      nothing [] ys = refl
      nothing (x ∷ xs) ys = omega (arith, nothing xs ys, none ys, sum_by-cons (λ i. sum_by (all_overlap overlap [] i) ys) x xs)
        where
          none : (ys : List ℕ) → sum_by (all_overlap overlap [] x) ys ≡ 0
          none [] = refl
          none (y ∷ ys) = omega (arith, none ys, sum_by-cons (all_overlap overlap [] x) y ys)
  pairs-bound constant worth overlap (row ∷ rows) ups are =
      let one = row-bound rows row ups.0 (constant row) (worth row) (overlap row) (all_constants constant rows) (all_worth worth rows) (all_worth worth (row ∷ rows)) (all_overlap overlap rows) (all_overlap overlap (row ∷ rows))
      are.0 (pairs-bound constant worth overlap rows ups.1 are.1) (λ n in_. worth-cons worth row rows n) (λ i j a b. overlap-cons overlap row rows i j) in
      omega (
        arith,
        one,
        ap (λ n. scale * n) (sum_by-cons (λ (r : Row). r.1 * sum (take (hits r.0 committee) weights)) row rows),
        ap (λ n. unit * (n + sum_by (all_worth worth (row ∷ rows)) joined)) (sum_by-cons (λ (r : Row). r.1 * constant r) row rows ∙ turned (row.1 * constant row) (all_constants constant rows)),
      )
    where
      turned : (a b : ℕ) → a + b ≡ b + a
      turned a b = omega arith
