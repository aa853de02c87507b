-- Committees that complete a set, as its members grow and its free candidates are struck out.
use Rattle.std.proofs.lemmas.Grind.{common_steps}
use Rattle.std.proofs.Common.{◌≡◌, ℕ, ◌+◌, ◌-◌, ◌<◌, ◌≤◌, ◌==◌, ◌&&◌, ◌||◌, ◌∙◌, Bool, true, false, not, List, [], ◌∷◌, ◌++◌, refl, sym, ap, arith, inl, inr, length, filter}
use Rattle.std.proofs.Math.Bool.{or-false}
use Rattle.std.proofs.lemmas.Bool.{and_parts, cases_eq, eq-eqb, ne_eqb, cases_lt}
use Rattle.std.proofs.lemmas.List.Filters.{length-filter_both}
use Rattle.std.proofs.lemmas.List.Folds.{list_any-append}
use Rattle.std.proofs.lemmas.List.Sums.{sum_by-cons}
use Rattle.ballot_base.specs.Lists.{IsIncreasing}
use Rattle.std.specs.List.{range_with_len}
use Rattle.ballot_base.specs.CandSet.{common_members, has_member, with_member, without_member}
use Rattle.ballot_base.specs.Ballots.{hits}
use Rattle.ballot_base.proofs.Increasing.{IsIncreasing-filter, IsIncreasing-with_member, has_member-below, has_member-filter, has_member-with_member, length-with_member, same_increasing}
pub use Rattle.ballot_base.proofs.Passed.{member-high}
use Rattle.ballot_base.proofs.Passed.{filter-member}
use Rattle.ballot_base.proofs.Committees.{IsIncreasing-range}
use Rattle.row_multipliers.specs.Completions.{IsNode, IsCompletion}

-- ---- members

-- a member of an increasing list is one of its numbers
pub member-low : (first last : ℕ) (set : List ℕ) (n : ℕ) → IsIncreasing first last set → has_member set n ≡ true → first ≤ n
member-low first last set n up here = elim (cases_lt n first) [
  | inl low ↦ absurd (let e : true ≡ false = sym here ∙ has_member-below first last set n up low in cc)
  | inr high ↦ omega arith
]

pub member-without : (set : List ℕ) (n x : ℕ) → has_member (without_member set n) x ≡ (not (x == n) && has_member set x)
member-without set n x = has_member-filter (λ y. not (y == n)) set x

pub and-true : (p q : Bool) → (p && q) ≡ true → (p ≡ true) × (q ≡ true)
and-true p q h = and_parts p q h

without-other : (n x : ℕ) → not (x == n) ≡ true → x ≡ n → ⊥
without-other n x h same = let e : not (x == n) ≡ false = ap not (eq-eqb x n same) in cc

-- who is left without n was there, and is not n
pub without-is : (set : List ℕ) (n x : ℕ) → has_member (without_member set n) x ≡ true → has_member set x ≡ true
without-is set n = filter-member (λ y. not (y == n)) set

pub without-not : (set : List ℕ) (n x : ℕ) → has_member (without_member set n) x ≡ true → x ≡ n → ⊥
without-not set n x h = without-other n x (and-true (not (x == n)) (has_member set x) (sym (member-without set n x) ∙ h)).0

with-stays : (set : List ℕ) (n x : ℕ) → (x ≡ n → ⊥) → has_member (with_member set n) x ≡ has_member set x
with-stays set n x other = has_member-with_member set n x ∙ ap (λ b. b || has_member set x) (ne_eqb n x (λ e. other (sym e)))

pub filter-most : (p : ℕ → Bool) (xs : List ℕ) → length (filter p xs) ≤ length xs
filter-most p xs = omega (arith, length-filter_both p (λ x. not (p x)) (λ x. refl) xs)

-- a member less is shorter
pub without-shorter : (set : List ℕ) (n : ℕ) → has_member set n ≡ true → length (without_member set n) < length set
without-shorter [] n h = absurd cc
without-shorter (x ∷ set) n h = grind (arith, common_steps, without-shorter set n, filter-most (λ y. not (y == n)) set, h, cases_eq x n, eq-eqb x n, ne_eqb x n)

pub or-more : (p q r : Bool) → (q ≡ true → r ≡ true) → (p || q) ≡ true → (p || r) ≡ true
or-more true q r h is = refl
or-more false q r h is = h is

-- ---- a branch of the search

pub node-without : (m : ℕ) (set free : List ℕ) (n : ℕ) → IsNode m set free → IsNode m set (without_member free n)
node-without m set free n is_node = record {
  set_within = is_node.set_within;
  free_within = IsIncreasing-filter (λ x. not (x == n)) 1 m free is_node.free_within;
  apart = λ x here. is_node.apart x (without-is free n x here);
}

pub node-with : (m : ℕ) (set free : List ℕ) (n : ℕ) → IsNode m set free → has_member free n ≡ true → IsNode m (with_member set n) (without_member free n)
node-with m set free n is_node here = record {
  set_within = IsIncreasing-with_member 1 m set n (member-low 1 m free n is_node.free_within here) (member-high 1 m free n is_node.free_within here) is_node.set_within;
  free_within = IsIncreasing-filter (λ x. not (x == n)) 1 m free is_node.free_within;
  apart = λ x is. with-stays set n x (without-not free n x is) ∙ is_node.apart x (without-is free n x is);
}

module _ (m : ℕ) (set free : List ℕ) (left n : ℕ) (is_node : IsNode m set free) (here : has_member free n ≡ true) where
  longer : length (with_member set n) ≡ length set + 1
  longer = length-with_member set n (is_node.apart n here)

  -- a committee without the candidate
  pub completion-without : (committee : List ℕ) → IsCompletion m set free left committee → has_member committee n ≡ false → IsCompletion m set (without_member free n) left committee
  completion-without committee whole out = record {
    candidates = whole.candidates;
    whole = whole.whole;
    within = λ x is. grind (arith, common_steps, member-without free n x, whole.within x is, out, eq-eqb x n, cases_eq x n);
    size = whole.size;
  }

  -- a committee with it
  pub completion-with : (committee : List ℕ) → 1 ≤ left → IsCompletion m set free left committee → has_member committee n ≡ true → IsCompletion m (with_member set n) (without_member free n) (left - 1) committee
  completion-with committee some whole in_ = record {
    candidates = whole.candidates;
    whole = λ x is. grind (arith, common_steps, has_member-with_member set n x, whole.whole x, is, in_, cases_eq x n, ne_eqb n x);
    within = λ x is. grind (arith, common_steps, has_member-with_member set n x, member-without free n x, whole.within x is, cases_eq x n, eq-eqb n x, ne_eqb x n);
    size = omega (arith, whole.size, longer, some);
  }

  -- a committee that was found below
  pub completion-back : (rest committee : List ℕ) → 1 ≤ left → ((x : ℕ) → has_member rest x ≡ true → has_member free x ≡ true)
      → IsCompletion m (with_member set n) rest (left - 1) committee → IsCompletion m set free left committee
  completion-back rest committee some among below = record {
    candidates = below.candidates;
    whole = λ x is. grind (arith, common_steps, has_member-with_member set n x, below.whole x, is);
    within = λ x is. grind (arith, common_steps, has_member-with_member set n x, below.within x is, among x, here, cases_eq x n, ne_eqb n x);
    size = omega (arith, below.size, longer, some);
  }

-- ---- the whole of a completion

module _ (m : ℕ) (set free : List ℕ) (left : ℕ) (committee : List ℕ) (is_node : IsNode m set free) (whole : IsCompletion m set free left committee) where
  -- those who were added
  abbrev pub added : List ℕ
  added = filter (has_member committee) free

  pub added-increasing : IsIncreasing 1 m added
  added-increasing = IsIncreasing-filter (has_member committee) 1 m free is_node.free_within

  pub added-free : (n : ℕ) → has_member added n ≡ true → has_member free n ≡ true
  added-free = filter-member (has_member committee) free

  pub completion-members : (n : ℕ) → has_member committee n ≡ has_member (set ++ added) n
  completion-members n =
      grind (arith, common_steps, list_any-append (λ y. y == n) set added, has_member-filter (has_member committee) free n, whole.whole n, whole.within n)

  -- the set and those who were added are the whole
  pub completion-inside : filter (has_member set) committee ≡ set
  completion-inside =
      same_increasing 1 m (filter (has_member set) committee) set (IsIncreasing-filter (has_member set) 1 m committee whole.candidates) is_node.set_within
      (λ n. grind (arith, common_steps, has_member-filter (has_member set) committee n, whole.whole n))

  pub completion-outside : filter (λ x. not (has_member set x)) committee ≡ added
  completion-outside =
      same_increasing 1 m (filter (λ x. not (has_member set x)) committee) added (IsIncreasing-filter (λ x. not (has_member set x)) 1 m committee whole.candidates) added-increasing
      (λ n. grind (arith, common_steps, has_member-filter (λ x. not (has_member set x)) committee n, whole.within n, is_node.apart n, has_member-filter (has_member committee) free n))

  pub added-size : length added ≡ left
  added-size =
      let both : length (filter (has_member set) committee) + length (filter (λ x. not (has_member set x)) committee) ≡ length committee =
      length-filter_both (has_member set) (λ x. not (has_member set x)) (λ x. refl) committee in
      omega (arith, both, ap length completion-inside, ap length completion-outside, whole.size)

  -- so many are free
  pub completion-few : left ≤ length free
  completion-few = omega (arith, added-size, filter-most (has_member committee) free)

  pub completion-whole : left ≡ 0 → committee ≡ set
  completion-whole none =
      same_increasing 1 m committee set whole.candidates is_node.set_within
      (λ n. completion-members n ∙ list_any-append (λ y. y == n) set added
      ∙ ap (λ l. has_member set n || has_member l n) (empty added (added-size ∙ none)) ∙ or-false (has_member set n))
    where
      empty : (xs : List ℕ) → length xs ≡ 0 → xs ≡ []
      empty [] h = refl
      empty (x ∷ xs) h = absurd (omega (arith, h))

-- a set completes itself
pub completion-self : (m : ℕ) (set free : List ℕ) → IsNode m set free → IsCompletion m set free 0 set
completion-self m set free is_node = record {
  candidates = is_node.set_within;
  whole = λ n h. h;
  within = λ n h. ap (λ b. b || has_member free n) h;
  size = omega arith;
}

-- ---- values see only the members

pub hits-same : (ballot xs ys : List ℕ) → ((n : ℕ) → has_member xs n ≡ has_member ys n) → hits ballot xs ≡ hits ballot ys
hits-same [] xs ys same = refl
hits-same (n ∷ ballot) xs ys same = grind (arith, common_steps, same n, hits-same ballot xs ys same, sum_by-cons)

-- the candidates 1 to m among the members
pub candidates-among : (m : ℕ) (all committee known : List ℕ) → all ≡ range_with_len 1 m → known ≡ common_members all committee → IsIncreasing 1 m known
candidates-among m all committee known whole is = rw (is, whole) (IsIncreasing-filter (has_member committee) 1 m (range_with_len 1 m) (IsIncreasing-range 1 m m (omega arith)))
