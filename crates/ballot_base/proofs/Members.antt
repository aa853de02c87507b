-- The members of a word: an increasing list, in which a number stands where its bit is 1.
use Rattle.std.proofs.lemmas.Grind.{common_steps}
use Rattle.std.proofs.Common.{◌≡◌, ℕ, zero, suc, ◌+◌, ◌-◌, ◌*◌, ◌/◌, ◌%◌, ◌^◌, ◌<◌, ◌≤◌, ◌==◌, ◌&&◌, ◌||◌, ◌⊎◌, not, min, max, bit_and, bit_or, bit_xor, w64, false, List, [], ◌∷◌, refl, sym, ap, ◌∙◌, subst, arith, inl, inr}
use Rattle.std.specs.Int.{bit_at}
use Rattle.std.proofs.lemmas.Bool.{eq-eqb, eqb-true, ne_eqb, cases_eq, cases_lt, or_left, and_left, and_right, not_from_true}
use Rattle.std.proofs.lemmas.Bool.Decides.{same_from_decides}
use Rattle.std.specs.Str.{bytes_eq}
use Rattle.std.specs.Cmp.Lexicographic.{bytes_decides}
use Rattle.std.proofs.lemmas.Nat.{pow_below, one_shl, or_lt, and_le_l}
use Rattle.std.proofs.lemmas.Nat.Bits.{bit_at-lt, bit_at_and, bit_at_or, bit_at_xor, bit_at_set_same, bit_at_set_other, bit_at_clear_same, bit_at_clear_other, bit_at_not, shr_and_one}
use Rattle.ballot_base.specs.Limits.{most_candidates}
use Rattle.ballot_base.specs.Lists.{IsIncreasing}
use Rattle.ballot_base.specs.CandSet.{has_member, with_member, without_member, common_members, either_members, other_members, includes}
use Rattle.ballot_base.specs.Steps.Bits.{members_among, members, bits_of, bits_of_members}
use Rattle.ballot_base.proofs.Increasing.{IsIncreasing-lower, has_member-below, has_member-above, has_member_head, has_member_tail, same_increasing, has_member-filter, IsIncreasing-filter, has_member-with_member, IsIncreasing-with_member, has_member-either, IsIncreasing-either}
use Rattle.ballot_base.proofs.Included.{kept_whole}

-- the members from a number on, by its bit
pub members_among_yes : (first count bits : ℕ) → bit_at bits (first - 1) ≡ 1 → members_among first (suc count) bits ≡ first ∷ members_among (first + 1) count bits
unfolding members_among
members_among_yes first count bits h = rw (eq-eqb (bit_at bits (first - 1)) 1 h)

pub members_among_no : (first count bits : ℕ) → (bit_at bits (first - 1) ≡ 1 → ⊥) → members_among first (suc count) bits ≡ members_among (first + 1) count bits
unfolding members_among
members_among_no first count bits h = rw (ne_eqb (bit_at bits (first - 1)) 1 h)

pub members_among_none : (first bits : ℕ) → members_among first 0 bits ≡ []
unfolding members_among
members_among_none first bits = refl

pub IsIncreasing-members_among : (first count last bits : ℕ) → first + count ≤ last + 1 → IsIncreasing first last (members_among first count bits)
IsIncreasing-members_among first zero last bits h = rw members_among_none tt
IsIncreasing-members_among first (suc count) last bits h =
    grind (arith, common_steps, IsIncreasing-members_among (first + 1) count last bits (omega arith), cases_eq, members_among_yes, members_among_no, IsIncreasing-lower)

pub has_member-members_among : (first count bits n : ℕ) → first ≤ n → n < first + count → has_member (members_among first count bits) n ≡ (bit_at bits (n - 1) == 1)
has_member-members_among first zero bits n low high = absurd (omega arith)
has_member-members_among first (suc count) bits n low high =
    let inc = IsIncreasing-members_among (first + 1) count (first + count) bits (omega arith) in
    elim (cases_eq first n) [
      | inl e ↦ subst (λ k. has_member (members_among first (suc count) bits) k ≡ (bit_at bits (k - 1) == 1)) e
          (elim (cases_eq (bit_at bits (first - 1)) 1) [
            | inl one ↦ rw (members_among_yes first count bits one, eq-eqb (bit_at bits (first - 1)) 1 one) (has_member_head first (members_among (first + 1) count bits))
            | inr other ↦ rw (members_among_no first count bits other, ne_eqb (bit_at bits (first - 1)) 1 other) (has_member-below (first + 1) (first + count) (members_among (first + 1) count bits) first inc (omega arith))
          ])
      | inr d ↦
          let rest = has_member-members_among (first + 1) count bits n (omega arith) (omega arith) in
          elim (cases_eq (bit_at bits (first - 1)) 1) [
            | inl one ↦ rw (members_among_yes first count bits one) (has_member_tail first n (members_among (first + 1) count bits) d ∙ rest)
            | inr other ↦ rw (members_among_no first count bits other) rest
          ]
    ]

pub IsIncreasing-members : (bits : ℕ) → IsIncreasing 1 most_candidates (members bits)
unfolding members
IsIncreasing-members bits = IsIncreasing-members_among 1 most_candidates most_candidates bits (omega arith)

pub has_member-members : (bits n : ℕ) → 1 ≤ n → n ≤ most_candidates → has_member (members bits) n ≡ (bit_at bits (n - 1) == 1)
unfolding members
has_member-members bits n low high = has_member-members_among 1 most_candidates bits n low (omega arith)

pub members_none : members 0 ≡ []
unfolding members members_among
members_none = refl

-- the members are the increasing list with exactly the numbers whose bit is 1
pub same_members : (bits : ℕ) (set : List ℕ) → IsIncreasing 1 most_candidates set → ((n : ℕ) → 1 ≤ n → n ≤ most_candidates → (bit_at bits (n - 1) == 1) ≡ has_member set n) → members bits ≡ set
same_members bits set i same =
    let inc = IsIncreasing-members bits in
    same_increasing 1 most_candidates (members bits) set inc i (λ n.
    elim (cases_lt n 1) [
      | inl low ↦ has_member-below 1 most_candidates (members bits) n inc low ∙ sym (has_member-below 1 most_candidates set n i low)
      | inr from ↦ elim (cases_lt most_candidates n) [
        | inl high ↦ has_member-above 1 most_candidates (members bits) n inc high ∙ sym (has_member-above 1 most_candidates set n i high)
        | inr to ↦ has_member-members bits n from to ∙ same n from to
      ]
    ])

-- equality of the words is equality of the sets
pub eqb-members : (bits other : ℕ) → bits < 2 ^ most_candidates → other < 2 ^ most_candidates → (bits == other) ≡ bytes_eq (members bits) (members other)
eqb-members bits other fits others =
    same_from_decides {P = members bits ≡ members other} (bits == other) (bytes_eq (members bits) (members other))
    (λ same. ap members (eqb-true bits other same), λ same. eq-eqb bits other (sym (bits_of_members bits fits) ∙ (ap bits_of same ∙ bits_of_members other others)))
    (bytes_decides (members bits) (members other))

both_set : (a b : ℕ) → a < 2 → b < 2 → (min a b == 1) ≡ ((b == 1) && (a == 1))
both_set zero zero h k = refl
both_set zero (suc zero) h k = refl
both_set (suc zero) zero h k = refl
both_set (suc zero) (suc zero) h k = refl
both_set (suc (suc a)) b h k = absurd (omega arith)
both_set a (suc (suc b)) h k = absurd (omega arith)

-- what the operations on words do to the sets
pub has_member_by_shift : (bits n : ℕ) → 1 ≤ n → n ≤ most_candidates → (bit_and (bits / 2 ^ (n - 1)) 1 == 1) ≡ has_member (members bits) n
has_member_by_shift bits n l h = ap (λ b. b == 1) (shr_and_one bits (n - 1)) ∙ sym (has_member-members bits n l h)

pub has_member_outside : (bits n : ℕ) → (n ≡ 0) ⊎ (most_candidates < n) → has_member (members bits) n ≡ false
has_member_outside bits n (inl e) = has_member-below 1 most_candidates (members bits) n (IsIncreasing-members bits) (omega (arith, e))
has_member_outside bits n (inr h) = has_member-above 1 most_candidates (members bits) n (IsIncreasing-members bits) h

pub bound_of_with : (bits n : ℕ) → bits < 2 ^ most_candidates → 1 ≤ n → n ≤ most_candidates → bit_or bits (1 * 2 ^ (n - 1) % 2 ^ 64) < 2 ^ most_candidates
bound_of_with bits n b l h = rw (one_shl (n - 1) 64 (omega arith)) (or_lt most_candidates bits (2 ^ (n - 1)) b (pow_below (n - 1) most_candidates (omega arith)))

pub members_with : (bits n : ℕ) → 1 ≤ n → n ≤ most_candidates → members (bit_or bits (1 * 2 ^ (n - 1) % 2 ^ 64)) ≡ with_member (members bits) n
members_with bits n l h =
    same_members (bit_or bits (1 * 2 ^ (n - 1) % 2 ^ 64)) (with_member (members bits) n)
    (IsIncreasing-with_member 1 most_candidates (members bits) n l h (IsIncreasing-members bits))
    (λ k kl kh. rw (has_member-with_member (members bits) n k)
    (elim (cases_eq n k) [
      | inl e ↦ eq-eqb (bit_at (bit_or bits (1 * 2 ^ (n - 1) % 2 ^ 64)) (k - 1)) 1 (rw (← e) (bit_at_set_same w64 bits (n - 1) (omega arith)))
          ∙ sym (or_left (n == k) (has_member (members bits) k) (eq-eqb n k e))
      | inr d ↦ rw (ne_eqb n k d) (ap (λ b. b == 1) (bit_at_set_other w64 bits (n - 1) (omega arith) (k - 1) (λ e. d (omega (arith, e)))) ∙ sym (has_member-members bits k kl kh))
    ]))

pub bound_of_and : (bits other : ℕ) → bits < 2 ^ most_candidates → bit_and bits other < 2 ^ most_candidates
bound_of_and bits other b = omega (arith, and_le_l bits other)

pub members_without : (bits n : ℕ) → 1 ≤ n → n ≤ most_candidates → members (bit_and bits (2 ^ 64 - 1 - 1 * 2 ^ (n - 1) % 2 ^ 64)) ≡ without_member (members bits) n
members_without bits n l h =
    let word : ℕ = bit_and bits (2 ^ 64 - 1 - 1 * 2 ^ (n - 1) % 2 ^ 64) in
    same_members word (without_member (members bits) n)
    (IsIncreasing-filter (λ x. not (x == n)) 1 most_candidates (members bits) (IsIncreasing-members bits))
    (λ k kl kh. rw (has_member-filter (λ x. not (x == n)) (members bits) k)
    (elim (cases_eq k n) [
      | inl e ↦ ne_eqb (bit_at word (k - 1)) 1 (λ one.
          let none : bit_at word (k - 1) ≡ 0 = rw e (bit_at_clear_same w64 bits (n - 1) (omega arith)) in omega arith)
          ∙ sym (and_left (not (k == n)) (has_member (members bits) k) (not_from_true (k == n) (eq-eqb k n e)))
      | inr d ↦ rw (ne_eqb k n d) (ap (λ b. b == 1) (bit_at_clear_other w64 bits (n - 1) (omega arith) (k - 1) (omega arith) (λ e. d (omega (arith, e)))) ∙ sym (has_member-members bits k kl kh))
    ]))

pub members_without_outside : (bits n : ℕ) → (n ≡ 0) ⊎ (most_candidates < n) → members bits ≡ without_member (members bits) n
members_without_outside bits n out =
    let inc = IsIncreasing-members bits in
    same_increasing 1 most_candidates (members bits) (without_member (members bits) n) inc
    (IsIncreasing-filter (λ x. not (x == n)) 1 most_candidates (members bits) inc)
    (λ k. rw (has_member-filter (λ x. not (x == n)) (members bits) k)
    (elim (cases_eq k n) [
      | inl e ↦ rw e (has_member_outside bits n out ∙ sym (and_right (not (n == n)) (has_member (members bits) n) (has_member_outside bits n out)))
      | inr d ↦ rw (ne_eqb k n d)
    ]))

pub members_common : (bits other : ℕ) → members (bit_and bits other) ≡ common_members (members bits) (members other)
members_common bits other =
    same_members (bit_and bits other) (common_members (members bits) (members other))
    (IsIncreasing-filter (has_member (members other)) 1 most_candidates (members bits) (IsIncreasing-members bits))
    (λ k kl kh. rw (has_member-filter (has_member (members other)) (members bits) k, has_member-members other k kl kh, has_member-members bits k kl kh, bit_at_and bits other (k - 1))
    (both_set (bit_at bits (k - 1)) (bit_at other (k - 1)) (bit_at-lt bits (k - 1)) (bit_at-lt other (k - 1))))

some_set : (a b : ℕ) → a < 2 → b < 2 → (max a b == 1) ≡ ((a == 1) || (b == 1))
some_set zero zero h k = refl
some_set zero (suc zero) h k = refl
some_set (suc zero) zero h k = refl
some_set (suc zero) (suc zero) h k = refl
some_set (suc (suc a)) b h k = absurd (omega arith)
some_set a (suc (suc b)) h k = absurd (omega arith)

pub members_either : (bits other : ℕ) → members (bit_or bits other) ≡ either_members (members bits) (members other)
members_either bits other =
    same_members (bit_or bits other) (either_members (members bits) (members other))
    (IsIncreasing-either 1 most_candidates (members bits) (members other) (IsIncreasing-members bits) (IsIncreasing-members other))
    (λ k kl kh. rw (has_member-either (members bits) (members other) k, has_member-members other k kl kh, has_member-members bits k kl kh, bit_at_or bits other (k - 1))
    (some_set (bit_at bits (k - 1)) (bit_at other (k - 1)) (bit_at-lt bits (k - 1)) (bit_at-lt other (k - 1))))

one_set_alone : (a b : ℕ) → a < 2 → b < 2 → ((a + b) % 2 == 1) ≡ (not ((b == 1) && (a == 1)) && ((a == 1) || (b == 1)))
one_set_alone zero zero h k = refl
one_set_alone zero (suc zero) h k = refl
one_set_alone (suc zero) zero h k = refl
one_set_alone (suc zero) (suc zero) h k = refl
one_set_alone (suc (suc a)) b h k = absurd (omega arith)
one_set_alone a (suc (suc b)) h k = absurd (omega arith)

pub members_differing : (bits other : ℕ)
    → members (bit_xor bits other) ≡ other_members (either_members (members bits) (members other)) (common_members (members bits) (members other))
members_differing bits other =
    let set : List ℕ = members bits in
    let more : List ℕ = members other in
    let both : List ℕ = common_members set more in
    same_members (bit_xor bits other) (other_members (either_members set more) both)
    (IsIncreasing-filter (λ n. not (has_member both n)) 1 most_candidates (either_members set more) (IsIncreasing-either 1 most_candidates set more (IsIncreasing-members bits) (IsIncreasing-members other)))
    (λ k kl kh. rw (has_member-filter (λ n. not (has_member both n)) (either_members set more) k, has_member-filter (has_member more) set k, has_member-either set more k, has_member-members other k kl kh, has_member-members bits k kl kh, bit_at_xor bits other (k - 1))
    (one_set_alone (bit_at bits (k - 1)) (bit_at other (k - 1)) (bit_at-lt bits (k - 1)) (bit_at-lt other (k - 1))))

pub members_included : (bits other : ℕ) → other < 2 ^ most_candidates → (bit_and other bits == other) ≡ includes (members bits) (members other)
members_included bits other small =
    grind (arith, common_steps, eqb-members, bound_of_and, members_common, kept_whole)

one_set : (a b : ℕ) → a < 2 → b < 2 → (min a (1 - b) == 1) ≡ (not (b == 1) && (a == 1))
one_set zero zero h k = refl
one_set zero (suc zero) h k = refl
one_set (suc zero) zero h k = refl
one_set (suc zero) (suc zero) h k = refl
one_set (suc (suc a)) b h k = absurd (omega arith)
one_set a (suc (suc b)) h k = absurd (omega arith)

pub members_minus : (bits other : ℕ) → other < 2 ^ most_candidates → members (bit_and bits (2 ^ 64 - 1 - other)) ≡ other_members (members bits) (members other)
members_minus bits other small =
    same_members (bit_and bits (2 ^ 64 - 1 - other)) (other_members (members bits) (members other))
    (IsIncreasing-filter (λ n. not (has_member (members other) n)) 1 most_candidates (members bits) (IsIncreasing-members bits))
    (λ k kl kh. rw (has_member-filter (λ n. not (has_member (members other) n)) (members bits) k, has_member-members other k kl kh, has_member-members bits k kl kh, bit_at_and bits (2 ^ 64 - 1 - other) (k - 1), bit_at_not w64 other (k - 1) (omega arith) (omega arith))
    (one_set (bit_at bits (k - 1)) (bit_at other (k - 1)) (bit_at-lt bits (k - 1)) (bit_at-lt other (k - 1))))
