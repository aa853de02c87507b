-- Increasing lists: which numbers they have, and that those decide the list.
use Rattle.std.proofs.lemmas.Grind.{common_steps}
use Rattle.std.proofs.Common.{◌≡◌, ℕ, ◌+◌, ◌<◌, ◌≤◌, ◌==◌, ◌||◌, ◌&&◌, Bool, true, false, List, [], ◌∷◌, refl, sym, ap, ◌∙◌, arith, inl, inr, length, count_by, filter, not, ◌++◌, get_or, drop, subst}
use Rattle.std.proofs.lemmas.Map.Views.{any-filter_same}
use Rattle.std.proofs.lemmas.Bool.{eq-eqb, eqb-true, ne_eqb, lt-ltb, le-ltb, cases_order, cases_lt, or_left}
use Rattle.std.proofs.lemmas.List.{drop_more}
use Rattle.std.proofs.lemmas.List.Filters.{length-filter_both}
use Rattle.std.proofs.lemmas.List.Sums.{length-filter}
use Rattle.ballot_base.specs.Lists.{IsIncreasing}
use Rattle.ballot_base.specs.CandSet.{has_member, with_member, common_members, either_members, other_members}

pub IsIncreasing-lower : (low first last : ℕ) (xs : List ℕ) → low ≤ first → IsIncreasing first last xs → IsIncreasing low last xs
IsIncreasing-lower low first last [] h i = i
IsIncreasing-lower low first last (x ∷ xs) h i = (omega (arith, i.0), i.1, i.2)

pub IsIncreasing-higher : (first last high : ℕ) (xs : List ℕ) → last ≤ high → IsIncreasing first last xs → IsIncreasing first high xs
IsIncreasing-higher first last high [] h i = i
IsIncreasing-higher first last high (x ∷ xs) h i = (i.0, omega (arith, i.1), IsIncreasing-higher (x + 1) last high xs h i.2)

pub has_member-below : (first last : ℕ) (xs : List ℕ) (n : ℕ) → IsIncreasing first last xs → n < first → has_member xs n ≡ false
has_member-below first last [] n i h = refl
has_member-below first last (x ∷ xs) n i h =
    rw (ne_eqb x n (λ e. omega (arith, i.0, e))) (has_member-below (x + 1) last xs n i.2 (omega (arith, i.0)))

pub has_member-above : (first last : ℕ) (xs : List ℕ) (n : ℕ) → IsIncreasing first last xs → last < n → has_member xs n ≡ false
has_member-above first last [] n i h = refl
has_member-above first last (x ∷ xs) n i h =
    rw (ne_eqb x n (λ e. omega (arith, i.1, e))) (has_member-above (x + 1) last xs n i.2 h)

pub has_member_head : (x : ℕ) (xs : List ℕ) → has_member (x ∷ xs) x ≡ true
has_member_head x xs = or_left (x == x) (has_member xs x) (eq-eqb x x refl)

pub has_member_tail : (x n : ℕ) (xs : List ℕ) → (x ≡ n → ⊥) → has_member (x ∷ xs) n ≡ has_member xs n
has_member_tail x n xs h = rw (ne_eqb x n h)

or_twice : (a b : Bool) → (a || b) ≡ (a || (a || b))
or_twice true b = refl
or_twice false b = refl

or_turned : (a b c : Bool) → (a || (b || c)) ≡ (b || (a || c))
or_turned true true c = refl
or_turned true false c = refl
or_turned false b c = refl

-- two increasing lists with the same numbers are equal
pub same_increasing : (first last : ℕ) (xs ys : List ℕ) → IsIncreasing first last xs → IsIncreasing first last ys → ((n : ℕ) → has_member xs n ≡ has_member ys n) → xs ≡ ys
same_increasing first last [] [] i j h = refl
same_increasing first last [] (y ∷ ys) i j h = grind (arith, common_steps, has_member_head y ys)
same_increasing first last (x ∷ xs) [] i j h = grind (arith, common_steps, has_member_head x xs)
same_increasing first last (x ∷ xs) (y ∷ ys) i j h =
    elim (cases_order x y) [
      | inl e ↦
          let rest : (n : ℕ) → has_member xs n ≡ has_member ys n = λ n. elim (cases_lt x n) [
            | inl low ↦ sym (has_member_tail x n xs (λ d. omega (arith, d, low))) ∙ (h n ∙ has_member_tail y n ys (λ d. omega (arith, d, e, low)))
            | inr high ↦ has_member-below (x + 1) last xs n i.2 (omega (arith, high)) ∙ sym (has_member-below (y + 1) last ys n j.2 (omega (arith, e, high)))
          ] in
          let j' : IsIncreasing (x + 1) last ys = IsIncreasing-lower (x + 1) (y + 1) last ys (omega (arith, e)) j.2 in
          let t : xs ≡ ys = same_increasing (x + 1) last xs ys i.2 j' rest in
          cc
      | inr d ↦ elim d [
        | inl low ↦
            let a : true ≡ false = sym (has_member_head x xs) ∙ (h x ∙ has_member-below y last (y ∷ ys) x (omega arith, j.1, j.2) low) in cc
        | inr high ↦
            let a : true ≡ false = sym (has_member_head y ys) ∙ (sym (h y) ∙ has_member-below x last (x ∷ xs) y (omega arith, i.1, i.2) high) in cc
      ]
    ]

-- what a filter keeps
pub has_member-filter : (p : ℕ → Bool) (set : List ℕ) (n : ℕ) → has_member (filter p set) n ≡ (p n && has_member set n)
has_member-filter p set n = any-filter_same (λ x. x == n) p (p n) (λ x e. ap p (eqb-true x n e)) set

pub IsIncreasing-filter : (p : ℕ → Bool) (first last : ℕ) (set : List ℕ) → IsIncreasing first last set → IsIncreasing first last (filter p set)
IsIncreasing-filter p first last [] i = i
IsIncreasing-filter p first last (x ∷ xs) i =
    grind (arith, common_steps, IsIncreasing-filter p (x + 1) last xs i.2, IsIncreasing-lower)

-- what an insertion adds
pub with_member-lt : (x : ℕ) (xs : List ℕ) (n : ℕ) → n < x → with_member (x ∷ xs) n ≡ n ∷ x ∷ xs
with_member-lt x xs n h = rw (lt-ltb n x h)

pub with_member-eq : (x : ℕ) (xs : List ℕ) (n : ℕ) → n ≡ x → with_member (x ∷ xs) n ≡ x ∷ xs
with_member-eq x xs n h = rw (le-ltb n x (omega (arith, h)), eq-eqb n x h)

pub with_member-gt : (x : ℕ) (xs : List ℕ) (n : ℕ) → x < n → with_member (x ∷ xs) n ≡ x ∷ with_member xs n
with_member-gt x xs n h = rw (le-ltb n x (omega arith), ne_eqb n x (λ e. omega arith))

-- a set is longer by a new member
pub length-with_member : (set : List ℕ) (n : ℕ) → has_member set n ≡ false → length (with_member set n) ≡ length set + 1
length-with_member [] n outside = refl
length-with_member (x ∷ xs) n outside = elim (cases_order n x) [
  | inl same ↦ absurd (let e : true ≡ false = sym (has_member_head x xs) ∙ ap (has_member (x ∷ xs)) (sym same) ∙ outside in cc)
  | inr (inl less) ↦ ap length (with_member-lt x xs n less) ∙ omega arith
  | inr (inr more) ↦
      let rest : has_member xs n ≡ false = sym (has_member_tail x n xs (λ e. omega (arith, e, more))) ∙ outside in
      ap length (with_member-gt x xs n more) ∙ omega (arith, length-with_member xs n rest)
]

pub has_member-with_member : (set : List ℕ) (n k : ℕ) → has_member (with_member set n) k ≡ ((n == k) || has_member set k)
has_member-with_member [] n k = refl
has_member-with_member (x ∷ xs) n k =
    grind (arith, common_steps, has_member-with_member xs n k, cases_order, with_member-eq, or_twice, with_member-lt, with_member-gt, or_turned)

pub IsIncreasing-with_member : (first last : ℕ) (set : List ℕ) (n : ℕ) → first ≤ n → n ≤ last → IsIncreasing first last set → IsIncreasing first last (with_member set n)
IsIncreasing-with_member first last [] n l h i = (l, h, tt)
IsIncreasing-with_member first last (x ∷ xs) n l h i =
    elim (cases_order n x) [
      | inl e ↦ rw (with_member-eq x xs n e) i
      | inr d ↦ elim d [
        | inl less ↦ rw (with_member-lt x xs n less) (l, h, (omega arith, i.1, i.2))
        | inr more ↦ rw (with_member-gt x xs n more) (i.0, i.1, IsIncreasing-with_member (x + 1) last xs n (omega arith) h i.2)
      ]
    ]

-- what two sets have together
pub or_moved : (a b c : Bool) → ((a || b) || c) ≡ (b || (a || c))
or_moved true true c = refl
or_moved true false c = refl
or_moved false b c = refl

or_none : (a : Bool) → a ≡ (a || false)
or_none true = refl
or_none false = refl

pub has_member-either : (set other : List ℕ) (n : ℕ) → has_member (either_members set other) n ≡ (has_member set n || has_member other n)
has_member-either set [] n = or_none (has_member set n)
has_member-either set (x ∷ xs) n =
    has_member-either (with_member set x) xs n ∙ ap (λ b. b || has_member xs n) (has_member-with_member set x n) ∙ or_moved (x == n) (has_member set n) (has_member xs n)

pub IsIncreasing-either : (first last : ℕ) (set other : List ℕ) → IsIncreasing first last set → IsIncreasing first last other → IsIncreasing first last (either_members set other)
IsIncreasing-either first last set [] i j = i
IsIncreasing-either first last set (x ∷ xs) i j =
    IsIncreasing-either first last (with_member set x) xs (IsIncreasing-with_member first last set x j.0 j.1 i) (IsIncreasing-lower first (x + 1) last xs (omega (arith, j.0)) j.2)

-- of those who are members of either set but not of both, those of one, and those of the other
of-one : (a b : Bool) → (a && (not (b && a) && (a || b))) ≡ (not b && a)
of-one true true = refl
of-one true false = refl
of-one false true = refl
of-one false false = refl

of-other : (a b : Bool) → (not a && (not (b && a) && (a || b))) ≡ (not a && b)
of-other true true = refl
of-other true false = refl
of-other false true = refl
of-other false false = refl

-- the members of either set but not of both are those of one alone and those of the other alone
pub differing-count : (first last : ℕ) (set other : List ℕ) → IsIncreasing first last set → IsIncreasing first last other
    → length (other_members (either_members set other) (common_members set other)) ≡ count_by (λ n. not (has_member other n)) set + count_by (λ n. not (has_member set n)) other
differing-count first last set other i j =
    let both : List ℕ = common_members set other in
    let either : List ℕ = either_members set other in
    let differing : List ℕ = other_members either both in
    let up : IsIncreasing first last differing = IsIncreasing-filter (λ n. not (has_member both n)) first last either (IsIncreasing-either first last set other i j) in
    let is : (n : ℕ) → has_member differing n ≡ (not (has_member other n && has_member set n) && (has_member set n || has_member other n)) = λ n.
    has_member-filter (λ n. not (has_member both n)) either n
    ∙ ap (λ h. not h && has_member either n) (has_member-filter (has_member other) set n)
    ∙ ap (λ h. not (has_member other n && has_member set n) && h) (has_member-either set other n) in
    let one : filter (has_member set) differing ≡ other_members set other =
    same_increasing first last _ _ (IsIncreasing-filter (has_member set) first last differing up) (IsIncreasing-filter (λ n. not (has_member other n)) first last set i)
    (λ n. has_member-filter (has_member set) differing n ∙ ap (λ h. has_member set n && h) (is n) ∙ of-one (has_member set n) (has_member other n)
    ∙ sym (has_member-filter (λ n. not (has_member other n)) set n)) in
    let rest : filter (λ n. not (has_member set n)) differing ≡ other_members other set =
    same_increasing first last _ _ (IsIncreasing-filter (λ n. not (has_member set n)) first last differing up) (IsIncreasing-filter (λ n. not (has_member set n)) first last other j)
    (λ n. has_member-filter (λ n. not (has_member set n)) differing n ∙ ap (λ h. not (has_member set n) && h) (is n) ∙ of-other (has_member set n) (has_member other n)
    ∙ sym (has_member-filter (λ n. not (has_member set n)) other n)) in
    omega (
      arith,
      length-filter_both (has_member set) (λ n. not (has_member set n)) (λ n. refl) differing,
      ap length one,
      ap length rest,
      length-filter (λ n. not (has_member other n)) set,
      length-filter (λ n. not (has_member set n)) other,
    )

-- one more number, above all the others
pub with_member-above : (first last : ℕ) (set : List ℕ) (n : ℕ) → IsIncreasing first last set → last < n → with_member set n ≡ set ++ n ∷ []
with_member-above first last [] n i h = refl
with_member-above first last (x ∷ xs) n i h =
    with_member-gt x xs n (omega (arith, i.1)) ∙ ap (λ s. x ∷ s) (with_member-above (x + 1) last xs n i.2 h)

pub IsIncreasing-push : (first last : ℕ) (set : List ℕ) (n : ℕ) → IsIncreasing first last set → first ≤ n → last < n → IsIncreasing first n (set ++ n ∷ [])
IsIncreasing-push first last [] n i l h = (l, omega arith, tt)
IsIncreasing-push first last (x ∷ xs) n i l h = (i.0, omega (arith, i.1), IsIncreasing-push (x + 1) last xs n i.2 (omega (arith, i.1)) h)

-- the next number of a list and those after it
pub next_increasing : (first last : ℕ) (xs : List ℕ) (i : ℕ) → i < length xs → IsIncreasing first last (drop i xs) → (first ≤ get_or xs i 0) × (get_or xs i 0 ≤ last) × IsIncreasing (get_or xs i 0 + 1) last (drop (i + 1) xs)
next_increasing first last xs i h inc = subst (λ s. IsIncreasing first last s) (drop_more xs i 0 h) inc

pub increasing_from_next : (first last : ℕ) (xs : List ℕ) (i : ℕ) → i < length xs → first ≤ get_or xs i 0 → get_or xs i 0 ≤ last → IsIncreasing (get_or xs i 0 + 1) last (drop (i + 1) xs) → IsIncreasing first last (drop i xs)
increasing_from_next first last xs i h l u rest = subst (λ s. IsIncreasing first last s) (sym (drop_more xs i 0 h)) (l, u, rest)
