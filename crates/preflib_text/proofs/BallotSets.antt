-- Sets of the numbers of a ballot.
use Rattle.std.proofs.Math.Bool.{or-false}
use Rattle.std.proofs.Common.{◌≡◌, ℕ, zero, suc, ◌+◌, ◌<◌, ◌≤◌, Bool, true, false, not, ltb, eqb, ◌||◌, List, [], ◌∷◌, length, refl, sym, ap, ◌∙◌, arith, inl, inr}
use Rattle.std.specs.Prelude.{fold}
use Rattle.std.specs.List.{list_any, range_with_len}
use Rattle.std.proofs.lemmas.Bool.{or_left, cases_lt, cases_eq, lt-ltb, le-ltb, eq-eqb, ne_eqb}
use Rattle.ballot_base.specs.Lists.{IsIncreasing}
use Rattle.ballot_base.specs.CandSet.{has_member, with_member}
use Rattle.ballot_base.proofs.Increasing.{has_member-with_member, has_member-below, or_moved}

-- the members of a set with more numbers
pub has_member-fold : (ns set : List ℕ) (x : ℕ) → has_member (fold with_member set ns) x ≡ (has_member set x || has_member ns x)
has_member-fold [] set x = sym (or-false (has_member set x))
has_member-fold (n ∷ ns) set x =
    has_member-fold ns (with_member set n) x ∙ ap (λ (b : Bool). b || has_member ns x) (has_member-with_member set n x) ∙ or_moved (eqb n x) (has_member set x) (has_member ns x)

-- ---- all candidates

length-increasing : (low high : ℕ) (set : List ℕ) → low ≤ high + 1 → IsIncreasing low high set → length set + low ≤ high + 1
length-increasing low high [] h inc = omega arith
length-increasing low high (x ∷ xs) h inc =
    omega (arith, inc.0, inc.1, length-increasing (x + 1) high xs (omega (arith, inc.1)) inc.2)

pub any-same : (p q : ℕ → Bool) (low k : ℕ) → ((n : ℕ) → low ≤ n → p n ≡ q n) → list_any p (range_with_len low k) ≡ list_any q (range_with_len low k)
any-same p q low zero same = refl
any-same p q low (suc k) same =
    ap (λ (b : Bool). b || list_any p (range_with_len (low + 1) k)) (same low (omega arith)) ∙ ap (λ (b : Bool). q low || b) (any-same p q (low + 1) k (λ n h. same n (omega arith)))

ltb-suc : (a b : ℕ) → ltb a b ≡ ltb (suc a) (suc b)
ltb-suc a b =
    elim (cases_lt a b) [
      | inl h ↦ lt-ltb a b h ∙ sym (lt-ltb (suc a) (suc b) (omega arith))
      | inr h ↦ le-ltb a b h ∙ sym (le-ltb (suc a) (suc b) (omega arith))
    ]

-- a number of the range is missing where the set has fewer
pub any-missing : (low k high : ℕ) (set : List ℕ) → low + k ≡ high + 1 → IsIncreasing low high set → list_any (λ n. not (has_member set n)) (range_with_len low k) ≡ ltb (length set) k
any-missing low zero high set e inc = sym (le-ltb (length set) 0 (omega arith))
any-missing low (suc k) high [] e inc = sym (lt-ltb 0 (suc k) (omega arith))
any-missing low (suc k) high (x ∷ xs) e inc =
    elim (cases_eq x low) [
      | inl h ↦
          let first : not (has_member (x ∷ xs) low) ≡ false = ap not (or_left (eqb x low) (has_member xs low) (eq-eqb x low h)) in
          let others : list_any (λ n. not (has_member (x ∷ xs) n)) (range_with_len (low + 1) k) ≡ list_any (λ n. not (has_member xs n)) (range_with_len (low + 1) k) = any-same (λ n. not (has_member (x ∷ xs) n)) (λ n. not (has_member xs n)) (low + 1) k (λ n above. ap (λ (b : Bool). not (b || has_member xs n)) (ne_eqb x n (λ d. omega (arith, d, h)))) in
          let inc' : IsIncreasing (low + 1) high xs = rw (← h) inc.2 in
          rw first (others ∙ any-missing (low + 1) k high xs (omega arith) inc' ∙ ltb-suc (length xs) k)
      | inr h ↦
          let first : not (has_member (x ∷ xs) low) ≡ true = ap not (has_member-below x high (x ∷ xs) low (omega arith, inc.1, inc.2) (omega (arith, inc.0, h))) in
          let few : length xs < k = omega (arith, inc.0, h, length-increasing (x + 1) high xs (omega (arith, inc.1)) inc.2) in
          or_left (not (has_member (x ∷ xs) low)) (list_any (λ n. not (has_member (x ∷ xs) n)) (range_with_len (low + 1) k)) first ∙ sym (lt-ltb (suc (length xs)) (suc k) (omega arith))
    ]
