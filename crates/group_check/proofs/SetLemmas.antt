-- Sets of candidates: how many members there are, and sets of a given size.
use Rattle.std.proofs.Common.{◌≡◌, ℕ, zero, suc, ◌+◌, ◌≤◌, ◌==◌, ◌&&◌, ◌||◌, Bool, true, false, cond, List, [], ◌∷◌, refl, sym, ap, ◌∙◌, arith, inl, inr, length, filter, take}
use Rattle.std.specs.List.{list_all, range_with_len}
use Rattle.std.proofs.lemmas.Bool.{and_from, and_parts, eqb-true, cases_order, cases_lt, or_right}
use Rattle.std.proofs.lemmas.List.Sums.{length-filter, count_by-le-length}
use Rattle.std.proofs.Math.Bool.{and_comm}
use Rattle.ballot_base.specs.Lists.{IsIncreasing}
use Rattle.ballot_base.specs.CandSet.{has_member, common_members}
use Rattle.ballot_base.specs.Ballots.{hits}
use Rattle.ballot_base.proofs.Increasing.{IsIncreasing-lower, IsIncreasing-filter, same_increasing, has_member-filter, has_member_head}

-- each member passes a test that all pass
pub passes_at : (p : ℕ → Bool) (set : List ℕ) (n : ℕ) → list_all p set ≡ true → has_member set n ≡ true → p n ≡ true
passes_at p [] n h k = absurd (no k)
  where
    no : false ≡ true → ⊥
    no e = cc
passes_at p (x ∷ xs) n h k =
    let parts = and_parts (p x) (list_all p xs) h in
    cases (x == n) refl parts.0 (λ later. passes_at p xs n parts.1 later) k
  where
    cases : (b : Bool) → (x == n) ≡ b → p x ≡ true → (has_member xs n ≡ true → p n ≡ true) → (b || has_member xs n) ≡ true → p n ≡ true
    cases true e here later k = ap p (sym (eqb-true x n e)) ∙ here
    cases false e here later k = later k

-- all pass where each member does
pub all_pass : (p : ℕ → Bool) (set : List ℕ) → ((n : ℕ) → has_member set n ≡ true → p n ≡ true) → list_all p set ≡ true
all_pass p [] each = refl
all_pass p (x ∷ xs) each =
    and_from (p x) (list_all p xs) (each x (has_member_head x xs)) (all_pass p xs (λ n h. each n (or_right (x == n) (has_member xs n) h)))

same_test : (a b : Bool) → (a ≡ true → b ≡ true) → a ≡ (a && b)
same_test true b h = sym (h refl)
same_test false b h = refl

-- a set within another is no larger
pub length-within : (first last : ℕ) (set other : List ℕ) → IsIncreasing first last set → IsIncreasing first last other → ((n : ℕ) → has_member set n ≡ true → has_member other n ≡ true) → length set ≤ length other
length-within first last set other i j within =
    let same : set ≡ filter (has_member set) other =
    same_increasing first last set (filter (has_member set) other) i (IsIncreasing-filter (has_member set) first last other j)
    (λ n. same_test (has_member set n) (has_member other n) (within n) ∙ sym (has_member-filter (has_member set) other n)) in
    let short = count_by-le-length (has_member set) other in
    omega (arith, ap length same, length-filter (has_member set) other, short)

-- the numbers of a range that pass are at least those of a set that pass
pub length-passing : (p : ℕ → Bool) (count first last : ℕ) (set : List ℕ) → last + 1 ≤ first + count → IsIncreasing first last set → list_all p set ≡ true → length set ≤ length (filter p (range_with_len first count))
length-passing p count first last [] h i all = omega arith
length-passing p zero first last (x ∷ xs) h i all = absurd (omega (arith, i.0, i.1))
length-passing p (suc count) first last (x ∷ xs) h i all =
    let parts = and_parts (p x) (list_all p xs) all in
    elim (cases_order x first) [
      | inl e ↦
          let here : p first ≡ true = ap p (sym e) ∙ parts.0 in
          let rest = length-passing p count (first + 1) last xs (omega arith) (IsIncreasing-lower (first + 1) (x + 1) last xs (omega arith) i.2) parts.1 in
          rw here (omega (arith, rest))
      | inr d ↦ elim d [
        | inl less ↦ absurd (omega (arith, i.0, less))
        | inr more ↦
            let rest = length-passing p count (first + 1) last (x ∷ xs) (omega arith) (omega arith, i.1, i.2) all in
            elim (p first) as (λ b. length (x ∷ xs) ≤ length (cond b (first ∷ filter p (range_with_len (first + 1) count)) (filter p (range_with_len (first + 1) count)))) [
              | true ↦ omega (arith, rest)
              | false ↦ rest
            ]
      ]
    ]

pub IsIncreasing-take : (first last n : ℕ) (set : List ℕ) → IsIncreasing first last set → IsIncreasing first last (take n set)
IsIncreasing-take first last zero set i = tt
IsIncreasing-take first last (suc n) [] i = tt
IsIncreasing-take first last (suc n) (x ∷ xs) i = (i.0, i.1, IsIncreasing-take (x + 1) last n xs i.2)

-- the members of both are as many from either side
pub length-common : (first last : ℕ) (set other : List ℕ) → IsIncreasing first last set → IsIncreasing first last other → length (filter (has_member other) set) ≡ length (filter (has_member set) other)
length-common first last set other i j =
    ap length (same_increasing first last (filter (has_member other) set) (filter (has_member set) other)
    (IsIncreasing-filter (has_member other) first last set i) (IsIncreasing-filter (has_member set) first last other j)
    (λ n. has_member-filter (has_member other) set n ∙ and_comm (has_member other n) (has_member set n) ∙ sym (has_member-filter (has_member set) other n)))

-- a set of `size` of the numbers of a set, with all those that pass
pub record IsWidened (first last size : ℕ) (p : ℕ → Bool) (set wide : List ℕ) : Type 0 where
  pub increasing : IsIncreasing first last wide
  pub count : length wide ≡ size
  pub inside : (n : ℕ) → has_member wide n ≡ true → has_member set n ≡ true
  pub holds : (n : ℕ) → p n ≡ true → has_member set n ≡ true → has_member wide n ≡ true

pub or_mono : (a b c : Bool) → (b ≡ true → c ≡ true) → (a || b) ≡ true → (a || c) ≡ true
or_mono true b c h k = refl
or_mono false b c h k = h k

widened_here : (first last size : ℕ) (p : ℕ → Bool) (x : ℕ) (xs wide : List ℕ) → first ≤ x → x ≤ last → IsWidened (x + 1) last size p xs wide → IsWidened first last (suc size) p (x ∷ xs) (x ∷ wide)
widened_here first last size p x xs wide low high w = record {
  increasing = (low, high, w.increasing);
  count = ap suc w.count;
  inside = λ n h. or_mono (x == n) (has_member wide n) (has_member xs n) (w.inside n) h;
  holds = λ n pass h. or_mono (x == n) (has_member xs n) (has_member wide n) (w.holds n pass) h;
}

widened_later : (first last size : ℕ) (p : ℕ → Bool) (x : ℕ) (xs wide : List ℕ) → first ≤ x → p x ≡ false → IsWidened (x + 1) last size p xs wide → IsWidened first last size p (x ∷ xs) wide
widened_later first last size p x xs wide low fails w = record {
  increasing = IsIncreasing-lower first (x + 1) last wide (omega arith) w.increasing;
  count = w.count;
  inside = λ n h. or_right (x == n) (has_member xs n) (w.inside n h);
  holds = λ n pass h. w.holds n pass (second n (x == n) refl pass h);
}
  where
    second : (n : ℕ) (b : Bool) → (x == n) ≡ b → p n ≡ true → (b || has_member xs n) ≡ true → has_member xs n ≡ true
    second n true e pass h = let clash : false ≡ true = sym fails ∙ ap p (eqb-true x n e) ∙ pass in cc
    second n false e pass h = h

widened_whole : (first last size : ℕ) (p : ℕ → Bool) (set : List ℕ) → IsIncreasing first last set → length set ≡ size → IsWidened first last size p set set
widened_whole first last size p set i e = record { increasing = i; count = e; inside = λ n h. h; holds = λ n pass h. h }

pub widened : (first last size : ℕ) (p : ℕ → Bool) (set : List ℕ) → IsIncreasing first last set → length (filter p set) ≤ size → size ≤ length set → (wide : List ℕ) × IsWidened first last size p set wide
widened first last size p [] i few many = ([], widened_whole first last size p [] i (omega (arith, many)))
widened first last size p (x ∷ xs) i few many =
    cases (p x) refl size (λ s f m. widened (x + 1) last s p xs i.2 f m) few many
  where
    cases : (b : Bool) → p x ≡ b → (s : ℕ) → ((t : ℕ) → length (filter p xs) ≤ t → t ≤ length xs → (wide : List ℕ) × IsWidened (x + 1) last t p xs wide)
        → length (cond b (x ∷ filter p xs) (filter p xs)) ≤ s → s ≤ length (x ∷ xs) → (wide : List ℕ) × IsWidened first last s p (x ∷ xs) wide
    cases true e zero later few many = absurd (omega (arith, few))
    cases true e (suc s) later few many =
        let rest = later s (omega (arith, few)) (omega (arith, many)) in
        (x ∷ rest.0, widened_here first last s p x xs rest.0 i.0 i.1 rest.1)
    cases false e s later few many =
        elim (cases_lt (length xs) s) [
          | inl more ↦ (x ∷ xs, widened_whole first last s p (x ∷ xs) i (omega (arith, more, many)))
          | inr less ↦ let rest = later s few less in (rest.0, widened_later first last s p x xs rest.0 i.0 e rest.1)
        ]

pub length-common_members : (ballot committee : List ℕ) → length (common_members ballot committee) ≡ hits ballot committee
length-common_members ballot committee = length-filter (has_member committee) ballot
