-- How many members a word has, the least of them, and the order of two words by their members.
use Rattle.std.proofs.lemmas.Grind.{common_steps}
use Rattle.std.proofs.Common.{◌≡◌, ℕ, zero, suc, ◌+◌, ◌-◌, ◌*◌, ◌/◌, ◌%◌, ◌^◌, ◌<◌, ◌≤◌, ◌==◌, Bool, true, false, cond, min, List, [], ◌∷◌, refl, sym, ap, ◌∙◌, subst, arith, inl, inr, length, add-one, bit_and, bit_xor, w64, Less, Equal, Greater}
use Rattle.std.specs.Int.Count.{ones-ones}
use Rattle.std.specs.Int.{bit_at, trailing_zeros}
use Rattle.std.specs.Int.RustNames.{count_ones}
use Rattle.std.specs.Ordering.{nat_cmp, ordering_then, ordering_reverse}
use Rattle.std.specs.Cmp.Lexicographic.{slice_cmp}
use Rattle.std.specs.declared.cmp.Ordering.{Ordering}
use Rattle.std.proofs.lemmas.Cmp.{nat_list_cmp_total}
use Rattle.std.proofs.lemmas.List.Sums.{sum_by-cons}
use Rattle.std.proofs.Math.Nat.{mod-eq_of_lt}
use Rattle.std.proofs.lemmas.Bool.{eq-eqb, eqb-true, ne_eqb, lt-ltb, le-ltb, cases_eq, cases_order, cases_lt}
use Rattle.std.proofs.lemmas.Nat.{mod_below, mod-pow-add, shr-shr, shr_below, ones_cat, ones_le_self, and_le_l, pow_pos, xor_lt}
use Rattle.std.proofs.lemmas.Nat.Bits.{bit_at-lt, bit_at-zero, bit_at_above, bit_at-trailing_zeros, bit_at_lowest, bit_at-suc, bit_at_and, bit_at_clear_same, bit_at_clear_other, bit_at_xor, shr_and_one, same_from_bits, same_from_bits_below}
use Rattle.ballot_base.specs.Limits.{most_candidates}
use Rattle.ballot_base.specs.Lists.{IsIncreasing}
use Rattle.ballot_base.specs.CandSet.{has_member, without_member}
use Rattle.ballot_base.specs.Steps.Bits.{members_among, members, bits_of}
use Rattle.ballot_base.specs.Steps.Bits.{bits_of_members_among, bits_of_members}
use Rattle.ballot_base.proofs.Increasing.{IsIncreasing-lower, has_member-below, has_member_head}
use Rattle.ballot_base.proofs.Members.{members_among_yes, members_among_no, members_among_none, IsIncreasing-members_among, IsIncreasing-members, has_member-members, members_none, members_without}

-- ---- how many
pub ones_bit : (b : ℕ) → b < 2 → count_ones b ≡ b
ones_bit zero h = omega (arith, ones_le_self 0)
ones_bit (suc zero) h = ones-ones 1
ones_bit (suc (suc b)) h = absurd (omega arith)

pub length-members_among : (bits count a : ℕ) → length (members_among (a + 1) count bits) ≡ count_ones (bits / 2 ^ a % 2 ^ count)
length-members_among bits zero a = grind (arith, common_steps, mod_below, members_among_none, ones_bit)
length-members_among bits (suc count) a =
    let q : ℕ = bits / 2 ^ a in
    let back : a + 1 - 1 ≡ a = omega arith in
    let rest : length (members_among (a + 1 + 1) count bits) ≡ count_ones (bits / 2 ^ a / 2 % 2 ^ count) =
    length-members_among bits count (a + 1) ∙ ap (λ n. count_ones (n % 2 ^ count)) (sym (shr-shr bits a 1)) in
    let split : bits / 2 ^ a % 2 ^ (suc count) ≡ (bits / 2 ^ a / 2 % 2 ^ count) * 2 ^ 1 + bits / 2 ^ a % 2 =
    subst (λ k. bits / 2 ^ a % 2 ^ k ≡ (bits / 2 ^ a / 2 % 2 ^ count) * 2 ^ 1 + bits / 2 ^ a % 2) (add-one count) (mod-pow-add (bits / 2 ^ a) count 1) in
    let low : bits / 2 ^ a % 2 < 2 = mod_below (bits / 2 ^ a) 2 (omega arith) in
    let right : count_ones (bits / 2 ^ a % 2 ^ (suc count)) ≡ count_ones (bits / 2 ^ a / 2 % 2 ^ count) + bits / 2 ^ a % 2 =
    ap count_ones split ∙ (ones_cat 1 (bits / 2 ^ a / 2 % 2 ^ count) (bits / 2 ^ a % 2) low ∙ ap (λ n. count_ones (bits / 2 ^ a / 2 % 2 ^ count) + n) (ones_bit (bits / 2 ^ a % 2) low)) in
    let here : bit_at bits (a + 1 - 1) ≡ bits / 2 ^ a % 2 = ap (bit_at bits) back in
    elim (cases_eq (bit_at bits (a + 1 - 1)) 1) [
      | inl one ↦ ap length (members_among_yes (a + 1) count bits one) ∙ omega (arith, rest, right, here, one)
      | inr other ↦ ap length (members_among_no (a + 1) count bits other) ∙ omega (arith, rest, right, here, other, low)
    ]

pub length-members : (bits : ℕ) → bits < 2 ^ most_candidates → count_ones bits ≡ length (members bits)
unfolding members
length-members bits h = sym (length-members_among bits most_candidates 0 ∙ ap count_ones (omega (arith, h)))

-- ---- none
pub zero_from_none : (bits : ℕ) → bits < 2 ^ most_candidates → members bits ≡ [] → bits ≡ 0
zero_from_none bits h e = sym (bits_of_members bits h) ∙ ap bits_of e

pub none_from_zero : (bits : ℕ) → bits ≡ 0 → members bits ≡ []
none_from_zero bits e = ap members e ∙ members_none

-- ---- the least member
pub without_member-below : (x last : ℕ) (xs : List ℕ) → IsIncreasing (x + 1) last xs → without_member xs x ≡ xs
without_member-below x last [] i = refl
without_member-below x last (y ∷ ys) i =
    rw (ne_eqb y x (λ e. omega (arith, i.0, e))) (ap (λ s. y ∷ s) (without_member-below x last ys (IsIncreasing-lower (x + 1) (y + 1) last ys (omega (arith, i.0)) i.2)))

pub without_member_head : (x last : ℕ) (xs : List ℕ) → IsIncreasing (x + 1) last xs → without_member (x ∷ xs) x ≡ xs
without_member_head x last xs i = rw (eq-eqb x x refl) (without_member-below x last xs i)

-- the place t of the lowest 1
least_at : (bits t : ℕ) (set : List ℕ) → bits < 2 ^ most_candidates → t < most_candidates → members bits ≡ set → bit_at bits t ≡ 1 → ((i : ℕ) → i < t → bit_at bits i ≡ 0) → set ≡ (t + 1) ∷ without_member set (t + 1)
least_at bits t [] h u e one below = grind (arith, common_steps, zero_from_none, bit_at-zero)
least_at bits t (x ∷ xs) h u e one below =
    let inc = subst (λ s. IsIncreasing 1 most_candidates s) e (IsIncreasing-members bits) in
    let has : (n : ℕ) → 1 ≤ n → n ≤ most_candidates → has_member (x ∷ xs) n ≡ (bit_at bits (n - 1) == 1) =
    λ n l k. subst (λ s. has_member s n ≡ (bit_at bits (n - 1) == 1)) e (has_member-members bits n l k) in
    let back : t + 1 - 1 ≡ t = omega arith in
    let x_bit : bit_at bits (x - 1) ≡ 1 = eqb-true (bit_at bits (x - 1)) 1 (sym (has x inc.0 inc.1) ∙ has_member_head x xs) in
    let t_has : has_member (x ∷ xs) (t + 1) ≡ true = has (t + 1) (omega arith) (omega arith) ∙ eq-eqb (bit_at bits (t + 1 - 1)) 1 (ap (bit_at bits) back ∙ one) in
    elim (cases_order x (t + 1)) [
      | inl same ↦ subst (λ n. x ∷ xs ≡ n ∷ without_member (x ∷ xs) n) same (ap (λ s. x ∷ s) (sym (without_member_head x most_candidates xs inc.2)))
      | inr d ↦ elim d [
        | inl less ↦ absurd (omega (arith, x_bit, below (x - 1) (omega (arith, less, inc.0))))
        | inr more ↦ let f : has_member (x ∷ xs) (t + 1) ≡ false = has_member-below x most_candidates (x ∷ xs) (t + 1) (omega arith, inc.1, inc.2) more in cc
      ]
    ]

pub lowest_below : (bits : ℕ) → bits < 2 ^ most_candidates → (bits ≡ 0 → ⊥) → trailing_zeros w64 bits < most_candidates
lowest_below bits h ne =
    let z = bit_at-trailing_zeros w64 bits (omega arith) (omega arith) in
    elim (cases_lt (trailing_zeros w64 bits) most_candidates) [
      | inl u ↦ u
      | inr v ↦ absurd (omega (arith, z.1, bit_at_above bits most_candidates (trailing_zeros w64 bits) h v))
    ]

pub split_members : (bits : ℕ) → bits < 2 ^ most_candidates → (bits ≡ 0 → ⊥) → members bits ≡ (trailing_zeros w64 bits + 1) ∷ without_member (members bits) (trailing_zeros w64 bits + 1)
split_members bits h ne =
    grind (arith, common_steps, bit_at-trailing_zeros w64 bits (omega arith) (omega arith), least_at, lowest_below bits h ne)

-- the least member, and the word of the others
-- the lowest bit is off in the number below
lowest_off : (t bits : ℕ) → bit_at bits t ≡ 1 → ((i : ℕ) → i < t → bit_at bits i ≡ 0)
    → (i : ℕ) → min (bit_at bits i) (bit_at (bits - 1) i) ≡ cond (i == t) 0 (bit_at bits i)
lowest_off zero bits one none zero = omega (arith, bit_at_lowest bits, bit_at_lowest (bits - 1), one)
lowest_off zero bits one none (suc i) = grind (arith, common_steps, bit_at_lowest, bit_at-suc, ne_eqb)
lowest_off (suc t) bits one none zero =
    omega (
      arith,
      none 0 (omega arith),
      ap (λ b. cond b 0 (bit_at bits 0)) (ne_eqb 0 (suc t) (λ e. absurd (omega (arith, e)))),
    )
lowest_off (suc t) bits one none (suc i) =
    let half : (bits - 1) / 2 ≡ bits / 2 - 1 = omega (arith, bit_at_lowest bits, none 0 (omega arith)) in
    let same : (suc i == suc t) ≡ (i == t) = elim (cases_eq i t) [
      | inl e ↦ eq-eqb (suc i) (suc t) (ap suc e) ∙ sym (eq-eqb i t e)
      | inr d ↦ ne_eqb (suc i) (suc t) (λ e. d (omega (arith, e))) ∙ sym (ne_eqb i t d)
    ] in
    rw (same, bit_at-suc bits i, bit_at-suc (bits - 1) i, half)
    (lowest_off t (bits / 2) (sym (bit_at-suc bits t) ∙ one) (λ j low. sym (bit_at-suc bits j) ∙ none (suc j) (omega (arith, low))) i)

pub next_members : (bits : ℕ) → bits < 2 ^ most_candidates → (bits ≡ 0 → ⊥)
    → members bits ≡ (trailing_zeros w64 bits + 1) ∷ members (bit_and bits (bits - 1))
next_members bits h ne =
    let t = trailing_zeros w64 bits in
    let back : t + 1 - 1 ≡ t = omega arith in
    let low = lowest_below bits h ne in
    let word : ℕ = bit_and bits (2 ^ 64 - 1 - 1 * 2 ^ t % 2 ^ 64) in
    let is = bit_at-trailing_zeros w64 bits (omega (arith, ne)) (omega (arith, h)) in
    let same : bit_and bits (bits - 1) ≡ word =
    same_from_bits_below 64 (bit_and bits (bits - 1)) word (omega (arith, and_le_l bits (bits - 1), h)) (omega (arith, and_le_l bits (2 ^ 64 - 1 - 1 * 2 ^ t % 2 ^ 64), h))
    (λ i within. bit_at_and bits (bits - 1) i ∙ lowest_off t bits is.1 is.2 i ∙ sym (elim (cases_eq i t) [
      | inl e ↦ rw e (bit_at_clear_same w64 bits t is.0) ∙ sym (ap (λ b. cond b 0 (bit_at bits i)) (eq-eqb i t e))
      | inr d ↦ bit_at_clear_other w64 bits t is.0 i within d ∙ sym (ap (λ b. cond b 0 (bit_at bits i)) (ne_eqb i t d))
    ])) in
    let rest : members word ≡ without_member (members bits) (t + 1) =
    subst (λ k. members (bit_and bits (2 ^ 64 - 1 - 1 * 2 ^ k % 2 ^ 64)) ≡ without_member (members bits) (t + 1)) back (members_without bits (t + 1) (omega arith) (omega arith)) in
    split_members bits h ne ∙ ap (λ set. (t + 1) ∷ set) (sym rest ∙ ap members (sym same))

-- ---- the order
-- what a list that begins with a number compares as, against a list of larger numbers
order_above : List ℕ → Ordering
order_above [] = Greater
order_above (y ∷ ys) = Less

nat_cmp_same : (n : ℕ) → nat_cmp n n ≡ Equal
nat_cmp_same n = rw (le-ltb n n (omega arith), eq-eqb n n refl)

pub slice_cmp_same : (n : ℕ) (xs ys : List ℕ) → slice_cmp nat_cmp (n ∷ xs) (n ∷ ys) ≡ slice_cmp nat_cmp xs ys
slice_cmp_same n xs ys = ap (λ o. ordering_then o (slice_cmp nat_cmp xs ys)) (nat_cmp_same n)

slice_cmp_above : (p last : ℕ) (xs ys : List ℕ) → IsIncreasing (p + 1) last ys → slice_cmp nat_cmp (p ∷ xs) ys ≡ order_above ys
unfolding order_above
slice_cmp_above p last xs [] i = refl
slice_cmp_above p last xs (y ∷ ys) i = rw (lt-ltb p y (omega (arith, i.0)))

cmp_among : (a b count first p above : ℕ) → first ≤ p → p + suc above ≡ first + count → ((k : ℕ) → first ≤ k → k < p → bit_at a (k - 1) ≡ bit_at b (k - 1)) → bit_at a (p - 1) ≡ 1 → (bit_at b (p - 1) ≡ 1 → ⊥) → slice_cmp nat_cmp (members_among first count a) (members_among first count b) ≡ order_above (members_among (p + 1) above b)
cmp_among a b zero first p above l e same one other = absurd (omega arith)
cmp_among a b (suc count) first p above l e same one other =
    elim (cases_eq first p) [
      | inl here ↦
          let c : above ≡ count = omega arith in
          let ya = members_among_yes first count a (rw here one) in
          let nb = members_among_no first count b (rw here other) in
          rw (ya, nb, c, ← here) (slice_cmp_above first (first + count) (members_among (first + 1) count a) (members_among (first + 1) count b) (IsIncreasing-members_among (first + 1) count (first + count) b (omega arith)))
      | inr later ↦
          let rest = cmp_among a b count (first + 1) p above (omega arith) (omega arith) (λ k lo hi. same k (omega arith) hi) one other in
          let equal = same first (omega arith) (omega arith) in
          elim (cases_eq (bit_at a (first - 1)) 1) [
            | inl set ↦
                rw (members_among_yes first count a set, members_among_yes first count b (sym equal ∙ set))
                (slice_cmp_same first (members_among (first + 1) count a) (members_among (first + 1) count b) ∙ rest)
            | inr unset ↦
                rw (members_among_no first count a unset, members_among_no first count b (λ s. unset (equal ∙ s))) rest
          ]
    ]

same_bits : (a b : ℕ) → a < 2 → b < 2 → (a + b) % 2 ≡ 0 → a ≡ b
same_bits a b h k e = omega arith

turned : (b : Bool) → ordering_reverse (cond b Greater Less) ≡ cond b Less Greater
turned true = refl
turned false = refl

zero_from_product : (m p : ℕ) → 0 < p → m * p ≡ 0 → m ≡ 0
zero_from_product zero p h e = refl
zero_from_product (suc m) p h e = absurd (omega arith)

-- a word in which bit t is 0 has a member above t where it is not 0 from there on
order_above_is : (b t : ℕ) (set : List ℕ) → b < 2 ^ most_candidates → t < most_candidates → (bit_at b t ≡ 1 → ⊥) → bits_of set ≡ (b / 2 ^ (t + 1) % 2 ^ (most_candidates - 1 - t)) * 2 ^ (t + 1) → order_above set ≡ cond (b / 2 ^ t == 0) Greater Less
unfolding order_above
order_above_is b t [] h u other w =
    grind (arith, common_steps, shr-shr b t 1, shr_below, zero_from_product, pow_pos, mod-eq_of_lt, bit_at-lt b t, eq-eqb)
order_above_is b t (x ∷ xs) h u other w =
    let half : b / 2 ^ t / 2 ≡ b / 2 ^ (t + 1) = shr-shr b t 1 in
    let some : b / 2 ^ t ≡ 0 → ⊥ = λ z.
    let none : b / 2 ^ (t + 1) ≡ 0 = omega arith in
    let low : b / 2 ^ (t + 1) % 2 ^ (most_candidates - 1 - t) ≡ 0 = ap (λ n. n % 2 ^ (most_candidates - 1 - t)) none ∙ mod-eq_of_lt (pow_pos (most_candidates - 1 - t)) in
    let left : bits_of (x ∷ xs) ≡ 0 = w ∙ (ap (λ n. n * 2 ^ (t + 1)) low ∙ omega arith) in
    omega (arith, left, sum_by-cons (λ m. 2 ^ (m - 1)) x xs, pow_pos (x - 1)) in
    rw (ne_eqb (b / 2 ^ t) 0 some)

-- the words agree below t, and the first alone has the member t + 1
cmp_members : (a b t : ℕ) → b < 2 ^ most_candidates → t < most_candidates → ((i : ℕ) → i < t → bit_at a i ≡ bit_at b i) → bit_at a t ≡ 1 → (bit_at b t ≡ 1 → ⊥) → slice_cmp nat_cmp (members a) (members b) ≡ cond (b / 2 ^ t == 0) Greater Less
unfolding members
cmp_members a b t h u same one other =
    let back : t + 1 - 1 ≡ t = omega arith in
    cmp_among a b most_candidates 1 (t + 1) (most_candidates - 1 - t) (omega arith) (omega arith) (λ k l m. same (k - 1) (omega arith)) (ap (bit_at a) back ∙ one) (λ e. other (sym (ap (bit_at b) back) ∙ e))
    ∙ order_above_is b t (members_among (t + 1 + 1) (most_candidates - 1 - t) b) h u other (bits_of_members_among b (most_candidates - 1 - t) (t + 1))

-- the least place where the words differ
pub lowest_difference : (a b : ℕ) → a < 2 ^ most_candidates → b < 2 ^ most_candidates → (bit_xor a b ≡ 0 → ⊥) → (trailing_zeros w64 (bit_xor a b) < most_candidates) × ((bit_at a (trailing_zeros w64 (bit_xor a b)) + bit_at b (trailing_zeros w64 (bit_xor a b))) % 2 ≡ 1) × ((i : ℕ) → i < trailing_zeros w64 (bit_xor a b) → bit_at a i ≡ bit_at b i)
lowest_difference a b h k ne =
    let x = xor_lt most_candidates a b h k in
    let z = bit_at-trailing_zeros w64 (bit_xor a b) (omega arith) (omega arith) in (
      lowest_below (bit_xor a b) x ne,
      sym (bit_at_xor a b (trailing_zeros w64 (bit_xor a b))) ∙ z.1,
      λ i l. same_bits (bit_at a i) (bit_at b i) (bit_at-lt a i) (bit_at-lt b i) (sym (bit_at_xor a b i) ∙ z.2 i l),
    )

pub cmp_self_first : (a b : ℕ) → a < 2 ^ most_candidates → b < 2 ^ most_candidates → (bit_xor a b ≡ 0 → ⊥) → bit_and (a / 2 ^ (trailing_zeros w64 (bit_xor a b))) 1 ≡ 1 → slice_cmp nat_cmp (members a) (members b) ≡ cond (b / 2 ^ (trailing_zeros w64 (bit_xor a b)) == 0) Greater Less
cmp_self_first a b h k ne one = grind (arith, common_steps, lowest_difference, shr_and_one, cmp_members)

pub cmp_other_first : (a b : ℕ) → a < 2 ^ most_candidates → b < 2 ^ most_candidates → (bit_xor a b ≡ 0 → ⊥) → (bit_and (a / 2 ^ (trailing_zeros w64 (bit_xor a b))) 1 ≡ 1 → ⊥) → slice_cmp nat_cmp (members a) (members b) ≡ cond (a / 2 ^ (trailing_zeros w64 (bit_xor a b)) == 0) Less Greater
cmp_other_first a b h k ne other =
    let t : ℕ = trailing_zeros w64 (bit_xor a b) in
    let d = lowest_difference a b h k ne in
    let mine : bit_at a t ≡ 1 → ⊥ = λ e. other (shr_and_one a t ∙ e) in
    let theirs : bit_at b t ≡ 1 = omega (arith, d.1, mine, bit_at-lt a t, bit_at-lt b t) in
    nat_list_cmp_total.antisymm (members a) (members b)
    ∙ (ap ordering_reverse (cmp_members b a t h d.0 (λ i l. sym (d.2 i l)) theirs mine) ∙ turned (a / 2 ^ t == 0))

pub same_from_xor : (a b : ℕ) → bit_xor a b ≡ 0 → a ≡ b
same_from_xor a b e = same_from_bits a b (λ i. same_bits (bit_at a i) (bit_at b i) (bit_at-lt a i) (bit_at-lt b i) (sym (bit_at_xor a b i) ∙ (ap (λ n. bit_at n i) e ∙ bit_at-zero i)))

pub cmp_same : (set : List ℕ) → slice_cmp nat_cmp set set ≡ Equal
cmp_same [] = refl
cmp_same (x ∷ xs) = slice_cmp_same x xs xs ∙ cmp_same xs
