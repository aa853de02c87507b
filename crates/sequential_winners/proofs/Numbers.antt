-- Lists of candidates of several classes: how many there are of each class decides every sum in which the candidates of
-- a class count alike.
use Rattle.std.proofs.lemmas.Grind.{common_steps}
use Rattle.std.proofs.Common.{◌≡◌, ℕ, ◌+◌, ◌<◌, ◌≤◌, ◌==◌, ◌&&◌, ◌||◌, ◌*◌, ◌∙◌, Bool, true, false, cond, not, List, [], ◌∷◌, ◌++◌, refl, sym, ap, subst, arith, inl, inr, filter, length, sum_by, count_by}
use Rattle.std.specs.List.{list_all, list_any}
use Rattle.std.specs.Prelude.{nat_le}
use Rattle.std.proofs.lemmas.Bool.{cases_Bool, cases_lt, cases_eq, cases_order, both_ways, ne_eqb, or_right, leb-true, leb-false, not-true}
use Rattle.std.proofs.Math.Nat.{mul-le-mul_left, mul-le-mul_right}
use Rattle.std.proofs.lemmas.List.Filters.{length-filter_both, sum_by-filter_both}
use Rattle.std.proofs.lemmas.List.Sums.{sum_by-cons, sum_by-append, length-filter}
use Rattle.ballot_base.specs.Lists.{IsIncreasing}
use Rattle.ballot_base.specs.CandSet.{has_member, with_member, without_member}
use Rattle.ballot_base.proofs.Included.{all-at}
use Rattle.ballot_base.proofs.FirstMember.{without_member_head}
use Rattle.ballot_base.proofs.Increasing.{has_member_head, has_member_tail, with_member-lt, with_member-gt}

abbrev pub bit : Bool → ℕ
bit b = cond b 1 0

-- candidates of one class
pub record IsSameness (same : ℕ → ℕ → Bool) : Type 0 where
  pub itself : (c : ℕ) → same c c ≡ true
  pub turned : (c d : ℕ) → same c d ≡ true → same d c ≡ true
  pub joined : (c d e : ℕ) → same c d ≡ true → same d e ≡ true → same c e ≡ true

-- ---- one of those that pass, and the others

pub record IsSplit (p : ℕ → Bool) (xs : List ℕ) : Type 0 where
  pub before : List ℕ
  pub one : ℕ
  pub after : List ℕ
  pub is : xs ≡ before ++ one ∷ after
  pub passes : p one ≡ true

pub count-cons : (p : ℕ → Bool) (x : ℕ) (xs : List ℕ) → count_by p (x ∷ xs) ≡ bit (p x) + count_by p xs
count-cons p x xs = sum_by-cons (λ y. cond (p y) 1 0) x xs

pub count-append : (p : ℕ → Bool) (xs ys : List ℕ) → count_by p (xs ++ ys) ≡ count_by p xs + count_by p ys
count-append p xs ys = sum_by-append (λ x. cond (p x) 1 0) xs ys

pub split : (p : ℕ → Bool) (xs : List ℕ) → 1 ≤ count_by p xs → IsSplit p xs
split p [] some = absurd (omega arith)
split p (x ∷ xs) some = elim (cases_Bool (p x)) [
  | inl here ↦ record { before = []; one = x; after = xs; is = refl; passes = here }
  | inr other ↦
      let rest = split p xs (omega (arith, some, count-cons p x xs, ap bit other)) in
      record { before = x ∷ rest.before; one = rest.one; after = rest.after; is = ap (λ l. x ∷ l) rest.is; passes = rest.passes }
]

pub sum-split : (f : ℕ → ℕ) (before : List ℕ) (one : ℕ) (after : List ℕ) → sum_by f (before ++ one ∷ after) ≡ f one + sum_by f (before ++ after)
sum-split f before one after = omega (arith, sum_by-append f before (one ∷ after), sum_by-cons f one after, sum_by-append f before after)

pub in_split : (before : List ℕ) (one : ℕ) (after : List ℕ) → has_member (before ++ one ∷ after) one ≡ true
in_split [] one after = has_member_head one after
in_split (x ∷ before) one after = or_right (x == one) (has_member (before ++ one ∷ after) one) (in_split before one after)

-- a candidate that passes
pub some-passes : (p : ℕ → Bool) (xs : List ℕ) → 1 ≤ count_by p xs → (x : ℕ) × (has_member xs x ≡ true) × (p x ≡ true)
some-passes p xs some =
    let s = split p xs some in
    (s.one, subst (λ l. has_member l s.one ≡ true) (sym s.is) (in_split s.before s.one s.after), s.passes)

pub member-counts : (p : ℕ → Bool) (xs : List ℕ) (x : ℕ) → has_member xs x ≡ true → p x ≡ true → 1 ≤ count_by p xs
member-counts p [] x inside passes = absurd (let e : false ≡ true = inside in cc)
member-counts p (y ∷ xs) x inside passes = elim (cases_eq y x) [
  | inl same ↦ omega (arith, count-cons p y xs, ap bit (ap p same ∙ passes))
  | inr other ↦ omega (arith, count-cons p y xs, member-counts p xs x (sym (has_member_tail y x xs other) ∙ inside) passes)
]

pub length-sum : (xs : List ℕ) → sum_by (λ (x : ℕ). 1) xs ≡ length xs
length-sum [] = refl
length-sum (x ∷ xs) = omega (arith, sum_by-cons (λ (y : ℕ). 1) x xs, length-sum xs)

pub count-both : (p : ℕ → Bool) (xs : List ℕ) → count_by p xs + count_by (λ x. not (p x)) xs ≡ length xs
count-both p xs = omega (arith, length-filter_both p (λ x. not (p x)) (λ x. refl) xs, length-filter p xs, length-filter (λ x. not (p x)) xs)

pub count-parts : (p q : ℕ → Bool) (xs : List ℕ) → count_by p (filter q xs) + count_by p (filter (λ x. not (q x)) xs) ≡ count_by p xs
count-parts p q xs = sum_by-filter_both q (λ x. not (q x)) (λ x. refl) (λ x. cond (p x) 1 0) xs

pub count-same : (p q : ℕ → Bool) (xs : List ℕ) → ((x : ℕ) → p x ≡ q x) → count_by p xs ≡ count_by q xs
count-same p q [] same = refl
count-same p q (x ∷ xs) same = omega (arith, count-cons p x xs, count-cons q x xs, ap bit (same x), count-same p q xs same)

-- ---- with a candidate, and without one

pub count-with : (p : ℕ → Bool) (set : List ℕ) (n : ℕ) → has_member set n ≡ false → count_by p (with_member set n) ≡ count_by p set + bit (p n)
count-with p [] n outside = omega (arith, count-cons p n [])
count-with p (x ∷ xs) n outside = elim (cases_order n x) [
  | inl same ↦ absurd (both_ways (has_member (x ∷ xs) n) outside (subst (λ k. has_member (x ∷ xs) k ≡ true) (sym same) (has_member_head x xs)))
  | inr d ↦ elim d [
    | inl less ↦ omega (arith, ap (count_by p) (with_member-lt x xs n less), count-cons p n (x ∷ xs))
    | inr more ↦
        let rest : has_member xs n ≡ false = sym (has_member_tail x n xs (λ e. omega (arith, e, more))) ∙ outside in
        omega (arith, ap (count_by p) (with_member-gt x xs n more), count-cons p x (with_member xs n), count-cons p x xs, count-with p xs n rest)
  ]
]

pub count-without : (p : ℕ → Bool) (first last : ℕ) (set : List ℕ) (n : ℕ) → IsIncreasing first last set → has_member set n ≡ true → count_by p (without_member set n) + bit (p n) ≡ count_by p set
count-without p first last [] n up inside = absurd (let e : false ≡ true = inside in cc)
count-without p first last (x ∷ xs) n up inside = elim (cases_eq x n) [
  | inl same ↦
      let rest : without_member (x ∷ xs) n ≡ xs = subst (λ k. without_member (x ∷ xs) k ≡ xs) same (without_member_head x last xs up.2) in
      omega (arith, ap (count_by p) rest, count-cons p x xs, ap (λ k. bit (p k)) same)
  | inr other ↦
      let rest : has_member xs n ≡ true = sym (has_member_tail x n xs other) ∙ inside in
      let kept : without_member (x ∷ xs) n ≡ x ∷ without_member xs n = ap (λ b. cond (not b) (x ∷ without_member xs n) (without_member xs n)) (ne_eqb x n other) in
      omega (arith, ap (count_by p) kept, count-cons p x (without_member xs n), count-cons p x xs, count-without p (x + 1) last xs n up.2 rest)
]

pub some-fails : (p : ℕ → Bool) (xs : List ℕ) → list_all p xs ≡ false → (x : ℕ) × (has_member xs x ≡ true) × (p x ≡ false)
some-fails p [] fails = absurd (let e : true ≡ false = fails in cc)
some-fails p (y ∷ xs) fails = elim (cases_Bool (p y)) [
  | inr here ↦ (y, has_member_head y xs, here)
  | inl passes ↦
      let rest = some-fails p xs (ap (λ b. b && list_all p xs) (sym passes) ∙ fails) in
      (rest.0, or_right (y == rest.0) (has_member xs rest.0) rest.1, rest.2)
]

-- ---- as many of each class

module _ (same : ℕ → ℕ → Bool) (sameness : IsSameness same) where
  -- who is in the class of c is in that of d
  pub same-left : (c d e : ℕ) → same c d ≡ true → same c e ≡ same d e
  same-left c d e cd = grind (arith, common_steps, cases_Bool, both_ways)

  pub same-right : (c d e : ℕ) → same c d ≡ true → same e c ≡ same e d
  same-right c d e cd = grind (arith, common_steps, cases_Bool, both_ways)

  pub count-class : (c d : ℕ) (xs : List ℕ) → same c d ≡ true → count_by (same c) xs ≡ count_by (same d) xs
  count-class c d xs cd = count-same (same c) (same d) xs (λ e. same-left c d e cd)

  -- at most as many of each class
  abbrev pub IsWithin : List ℕ → List ℕ → Type 0
  IsWithin xs ys = (c : ℕ) → count_by (same c) xs ≤ count_by (same c) ys

  pub sums-within : (f : ℕ → ℕ) → ((c d : ℕ) → same c d ≡ true → f c ≡ f d) → (xs ys : List ℕ) → IsWithin xs ys → sum_by f xs ≤ sum_by f ys
  sums-within f alike [] ys within = omega arith
  sums-within f alike (x ∷ xs) ys within =
      let here : 1 ≤ count_by (same x) ys = omega (arith, within x, count-cons (same x) x xs, ap bit (sameness.itself x)) in
      let s = split (same x) ys here in
      let rest : IsWithin xs (s.before ++ s.after) = λ c.
      omega (
        arith,
        within c,
        count-cons (same c) x xs,
        ap (count_by (same c)) s.is,
        sum-split (λ y. cond (same c y) 1 0) s.before s.one s.after,
        ap bit (same-right x s.one c s.passes),
      ) in
      omega (
        arith,
        sum_by-cons f x xs,
        ap (sum_by f) s.is,
        sum-split f s.before s.one s.after,
        alike x s.one s.passes,
        sums-within f alike xs (s.before ++ s.after) rest,
      )

  pub length-within : (xs ys : List ℕ) → IsWithin xs ys → length xs ≤ length ys
  length-within xs ys within = omega (arith, length-sum xs, length-sum ys, sums-within (λ (x : ℕ). 1) (λ c d cd. refl) xs ys within)

  -- where no more are left over, there are as many of each class
  pub within-turned : (xs ys : List ℕ) → IsWithin xs ys → length ys ≤ length xs → IsWithin ys xs
  within-turned xs ys within most c = grind (arith, common_steps, count-both, sums-within, not, same-right)

  -- of a longer list there are more of some class
  pub some-more : (xs ys : List ℕ) → length xs < length ys → (y : ℕ) × (has_member ys y ≡ true) × (count_by (same y) xs < count_by (same y) ys)
  some-more xs ys longer =
      let test : ℕ → Bool = λ (y : ℕ). nat_le (count_by (same y) ys) (count_by (same y) xs) in
      elim (cases_Bool (list_all test ys)) [
        | inl all ↦
            let within : IsWithin ys xs = λ c. elim (cases_lt (count_by (same c) xs) (count_by (same c) ys)) [
              | inl less ↦
                  let y = some-passes (same c) ys (omega (arith, less)) in
                  omega (arith, leb-true (count_by (same y.0) ys) (count_by (same y.0) xs) (all-at test ys y.0 all y.1), count-class c y.0 xs y.2, count-class c y.0 ys y.2)
              | inr enough ↦ enough
            ] in
            absurd (omega (arith, longer, length-within ys xs within))
        | inr some ↦ let y = some-fails test ys some in (y.0, y.1, leb-false (count_by (same y.0) ys) (count_by (same y.0) xs) y.2)
      ]

-- ---- those that pass one of several tests

count-either : (p q : ℕ → Bool) (xs : List ℕ) → count_by (λ x. p x || q x) xs ≤ count_by p xs + count_by q xs
count-either p q [] = omega arith
count-either p q (x ∷ xs) =
    omega (arith, count-cons (λ y. p y || q y) x xs, count-cons p x xs, count-cons q x xs, one (p x) (q x), count-either p q xs)
  where
    one : (a b : Bool) → bit (a || b) ≤ bit a + bit b
    one true b = omega arith
    one false b = omega arith

module _ (near : ℕ → ℕ → Bool) (tied : List ℕ) where
  abbrev covered : List ℕ → ℕ → Bool
  covered xs t = list_any (λ s. near s t) xs

  abbrev nears : List ℕ → ℕ
  nears xs = sum_by (λ s. count_by (near s) tied) xs

  nobody : (ts : List ℕ) → count_by (λ (t : ℕ). false) ts ≡ 0
  nobody [] = refl
  nobody (t ∷ ts) = omega (arith, count-cons (λ (y : ℕ). false) t ts, nobody ts)

  covered-most : (xs : List ℕ) → count_by (covered xs) tied ≤ nears xs
  covered-most [] = omega (arith, nobody tied)
  covered-most (x ∷ xs) = omega (arith, sum_by-cons (λ s. count_by (near s) tied) x xs, count-either (near x) (covered xs) tied, covered-most xs)

  nears-most : (n : ℕ) (xs : List ℕ) → ((s : ℕ) → has_member xs s ≡ true → n * count_by (near s) tied < length tied) → n * nears xs + length xs ≤ length xs * length tied
  nears-most n [] each = let e : n * 0 ≡ 0 = grind arith in omega (arith, e)
  nears-most n (x ∷ xs) each =
      let here : n * count_by (near x) tied < length tied = each x (has_member_head x xs) in
      let rest = nears-most n xs (λ s inside. each s (or_right (x == s) (has_member xs s) inside)) in
      let e : n * nears (x ∷ xs) ≡ n * count_by (near x) tied + n * nears xs = ap (λ i. n * i) (sum_by-cons (λ s. count_by (near s) tied) x xs) ∙ times-sum n (count_by (near x) tied) (nears xs) in
      let f : length (x ∷ xs) * length tied ≡ length tied + length xs * length tied = omega arith in
      omega (arith, here, rest, e, f)
    where
      times-sum : (a b c : ℕ) → a * (b + c) ≡ a * b + a * c
      times-sum a b c = grind arith

  -- of more candidates than `n` others are near, some one is near none of the others
  pub some-uncovered : (n : ℕ) (xs : List ℕ) → length xs ≤ n → 0 < length tied → ((s : ℕ) → has_member xs s ≡ true → n * count_by (near s) tied < length tied)
      → (t : ℕ) × (has_member tied t ≡ true) × ((s : ℕ) → has_member xs s ≡ true → near s t ≡ false)
  some-uncovered n xs few some each =
      let t = some-passes (λ y. not (covered xs y)) tied (omega (arith, count-both (covered xs) tied, covered-most xs, short)) in
      (t.0, t.1, λ s inside. none xs t.0 (not-true (covered xs t.0) t.2) s inside)
    where
      short : nears xs < length tied
      short = elim (cases_lt (nears xs) (length tied)) [
        | inl less ↦ less
        | inr most ↦
            let a : n * length tied ≤ n * nears xs = mul-le-mul_left n most in
            let b : length xs * length tied ≤ n * length tied = mul-le-mul_right (length tied) few in
            let none-there = nobody-there xs (omega (arith, a, b, nears-most n xs each)) in
            absurd (omega (arith, most, some, ap nears none-there))
      ]
        where
          nobody-there : (ys : List ℕ) → length ys ≤ 0 → ys ≡ []
          nobody-there [] none = refl
          nobody-there (y ∷ ys) none = absurd (omega (arith, none))

      or-fails : (a b : Bool) → (a || b) ≡ false → (a ≡ false) × (b ≡ false)
      or-fails false false is = (refl, refl)
      or-fails false true is = absurd (let f : true ≡ false = is in cc)
      or-fails true b is = absurd (let f : true ≡ false = is in cc)

      none : (ys : List ℕ) (t : ℕ) → covered ys t ≡ false → (s : ℕ) → has_member ys s ≡ true → near s t ≡ false
      none [] t fails s inside = absurd (let e : false ≡ true = inside in cc)
      none (y ∷ ys) t fails s inside = elim (cases_eq y s) [
        | inl same ↦ subst (λ z. near z t ≡ false) same (or-fails (near y t) (covered ys t) fails).0
        | inr other ↦ none ys t (or-fails (near y t) (covered ys t) fails).1 s (sym (has_member_tail y s ys other) ∙ inside)
      ]
