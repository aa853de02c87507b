-- Distances of ballots and committees: by their sizes, and that none exceeds the number of candidates.
use Rattle.std.proofs.lemmas.Grind.{common_steps}
use Rattle.std.proofs.Common.{◌≡◌, ℕ, zero, suc, ◌+◌, ◌*◌, ◌≤◌, ◌∙◌, ◌&&◌, ◌||◌, ◌==◌, Bool, true, false, List, [], ◌∷◌, ◌⊎◌, Some, not, filter, fold, max, refl, sym, ap, subst, arith, length, slice_get, count_by, inl, inr}
use Rattle.std.specs.List.{AllByRecursion}
use Rattle.std.specs.Ordering.{ord_max, nat_cmp}
use Rattle.std.proofs.lemmas.Bool.Decides.{nat_tests}
use Rattle.std.proofs.lemmas.Bool.{cases_order}
use Rattle.std.proofs.lemmas.List.Sums.{sum_by-cons, length-filter, count_by-le-length}
use Rattle.std.proofs.Math.Bool.{and_comm}
use Rattle.ballot_base.specs.Lists.{IsIncreasing}
use Rattle.ballot_base.specs.CandSet.{has_member, common_members}
use Rattle.ballot_base.specs.Ballots.{Row}
use Rattle.ballot_base.proofs.Increasing.{IsIncreasing-filter, has_member-filter, has_member_head, same_increasing}
use Rattle.ballot_base.proofs.Committees.{length-increasing}
use Rattle.tie_walk.specs.Values.{distance, greatest_distance}

-- those that pass a test and those that do not
count-not : (p : ℕ → Bool) (xs : List ℕ) → count_by p xs + count_by (λ n. not (p n)) xs ≡ length xs
count-not p [] = refl
count-not p (x ∷ xs) = grind (arith, common_steps, count-not p xs, count_by, sum_by-cons, not)

-- the common members, either way
pub common-turned : (first last : ℕ) (xs ys : List ℕ) → IsIncreasing first last xs → IsIncreasing first last ys → common_members xs ys ≡ common_members ys xs
common-turned first last xs ys i j =
    same_increasing first last (common_members xs ys) (common_members ys xs) (IsIncreasing-filter (has_member ys) first last xs i) (IsIncreasing-filter (has_member xs) first last ys j)
    (λ n. has_member-filter (has_member ys) xs n ∙ and_comm (has_member ys n) (has_member xs n) ∙ sym (has_member-filter (has_member xs) ys n))

-- both sizes have the common members and those who stand in one alone
pub distance-sizes : (first last : ℕ) (xs ys : List ℕ) → IsIncreasing first last xs → IsIncreasing first last ys
    → distance xs ys + 2 * length (common_members xs ys) ≡ length xs + length ys
distance-sizes first last xs ys i j = grind (arith, common_steps, common-turned, length-filter, count-not)

pub common-least : (xs ys : List ℕ) → length (common_members xs ys) ≤ length xs
common-least xs ys = omega (arith, length-filter (has_member ys) xs, count_by-le-length (has_member ys) xs)

pub common-least_right : (first last : ℕ) (xs ys : List ℕ) → IsIncreasing first last xs → IsIncreasing first last ys → length (common_members xs ys) ≤ length ys
common-least_right first last xs ys i j = omega (arith, ap length (common-turned first last xs ys i j), common-least ys xs)

-- ---- no distance exceeds the number of candidates

-- an increasing list begins with its least number, or does not have it
begins : (first last : ℕ) (xs : List ℕ) → IsIncreasing first last xs → IsIncreasing (first + 1) last xs ⊎ ((rest : List ℕ) × (xs ≡ first ∷ rest) × IsIncreasing (first + 1) last rest)
begins first last [] i = inl tt
begins first last (x ∷ xs) i = grind (arith, common_steps, cases_order first x)

AreDisjoint : List ℕ → List ℕ → Type 0
AreDisjoint xs ys = (k : ℕ) → has_member xs k ≡ true → has_member ys k ≡ false

or-false : (a b : Bool) → (a || b) ≡ false → b ≡ false
or-false true b h = absurd (cc)
or-false false b h = h

or-true : (a b : Bool) → b ≡ true → (a || b) ≡ true
or-true true b h = refl
or-true false b h = h

-- two lists of numbers from first on with nothing in common
disjoint-fit : (n first last : ℕ) → first + n ≡ last + 1 → (xs ys : List ℕ) → IsIncreasing first last xs → IsIncreasing first last ys → AreDisjoint xs ys → length xs + length ys ≤ n
unfolding AreDisjoint
disjoint-fit zero first last e xs ys i j apart = omega (arith, length-increasing first last xs i, length-increasing first last ys j)
disjoint-fit (suc n) first last e xs ys i j apart =
    elim (begins first last xs i) [
      | inl x ↦ elim (begins first last ys j) [
        | inl y ↦ omega (arith, disjoint-fit n (first + 1) last (omega (arith, e)) xs ys x y apart)
        | inr y ↦
            let less : AreDisjoint xs y.0 = λ k h. or-false (first == k) (has_member y.0 k) (subst (λ l. has_member l k ≡ false) y.1 (apart k h)) in
            omega (arith, ap length y.1, disjoint-fit n (first + 1) last (omega (arith, e)) xs y.0 x y.2 less)
      ]
      | inr x ↦ elim (begins first last ys j) [
        | inl y ↦
            let less : AreDisjoint x.0 ys = λ k h. apart k (subst (λ l. has_member l k ≡ true) (sym x.1) (or-true (first == k) (has_member x.0 k) h)) in
            omega (arith, ap length x.1, disjoint-fit n (first + 1) last (omega (arith, e)) x.0 ys x.2 y less)
        | inr y ↦
            let here : has_member ys first ≡ true = subst (λ l. has_member l first ≡ true) (sym y.1) (has_member_head first y.0) in
            let there : has_member ys first ≡ false = apart first (subst (λ l. has_member l first ≡ true) (sym x.1) (has_member_head first x.0)) in
            absurd (cc)
      ]
    ]

only-one : (a b : Bool) → (not b && a) ≡ true → (not a && b) ≡ false
only-one true b h = refl
only-one false true h = absurd (cc)
only-one false false h = refl

pub distance-most : (m : ℕ) (ballot committee : List ℕ) → IsIncreasing 1 m ballot → IsIncreasing 1 m committee → distance ballot committee ≤ m
unfolding AreDisjoint
distance-most m ballot committee i j =
    let of_ballot : List ℕ = filter (λ n. not (has_member committee n)) ballot in
    let of_committee : List ℕ = filter (λ n. not (has_member ballot n)) committee in
    let apart : AreDisjoint of_ballot of_committee = λ k h.
    has_member-filter (λ n. not (has_member ballot n)) committee k
    ∙ only-one (has_member ballot k) (has_member committee k) (sym (has_member-filter (λ n. not (has_member committee n)) ballot k) ∙ h) in
    omega (
      arith,
      disjoint-fit m 1 m (omega arith) of_ballot of_committee (IsIncreasing-filter (λ n. not (has_member committee n)) 1 m ballot i)
          (IsIncreasing-filter (λ n. not (has_member ballot n)) 1 m committee j) apart,
      length-filter (λ n. not (has_member committee n)) ballot,
      length-filter (λ n. not (has_member ballot n)) committee,
    )

-- ---- the greatest

pub greatest_distance-most : (m : ℕ) (rows : List Row) (committee : List ℕ) → AllByRecursion (λ (row : Row). IsIncreasing 1 m row.0) rows → IsIncreasing 1 m committee → greatest_distance rows committee ≤ m
greatest_distance-most m rows committee all j = from 0 rows (omega arith) all
  where
    from : (low : ℕ) (rest : List Row) → low ≤ m → AllByRecursion (λ (row : Row). IsIncreasing 1 m row.0) rest → fold (λ greatest (row : Row). max greatest (distance row.0 committee)) low rest ≤ m
    from low [] h each = h
    from low (row ∷ rest) h each = from (max low (distance row.0 committee)) rest (omega (arith, distance-most m row.0 committee each.0 j)) each.1

-- the candidates of a ballot that was found are those of all
pub ballot-found : (m : ℕ) (rows : List Row) (i : ℕ) (row : Row) → AllByRecursion (λ (r : Row). IsIncreasing 1 m r.0) rows → slice_get rows i ≡ Some row → IsIncreasing 1 m row.0
ballot-found m [] i row all found = absurd (cc)
ballot-found m (r ∷ rows) zero row all found = let same : r ≡ row = cc in subst (λ (x : Row). IsIncreasing 1 m x.0) same all.0
ballot-found m (r ∷ rows) (suc i) row all found = ballot-found m rows i row all.1 found

-- the maximum of two numbers as their method has it
pub ord_max-max : (a b : ℕ) → ord_max nat_cmp a b ≡ max a b
ord_max-max a b = grind (arith, nat_tests)
