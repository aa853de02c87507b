-- A set of candidates as a word: bit n - 1 is 1 exactly if n is a member. The members determine the word.
use Rattle.std.proofs.Common.{◌≡◌, ℕ, zero, suc, ◌+◌, ◌-◌, ◌*◌, ◌/◌, ◌%◌, ◌^◌, ◌<◌, ◌==◌, Bool, true, false, cond, List, ◌∷◌, filter, sum_by, sym, ap, ◌∙◌, subst, arith, add-one}
use Rattle.std.specs.List.{range_with_len}
use Rattle.std.specs.Int.{bit_at}
use Rattle.std.specs.Str.{bytes_eq}
use Rattle.std.specs.Cmp.Lexicographic.{bytes_decides}
use Rattle.std.proofs.lemmas.List.Sums.{sum_by-cons}
use Rattle.std.proofs.lemmas.Nat.{mod_below, mod-pow-add, shr-shr, pow-add}
use Rattle.ballot_base.specs.Limits.{most_candidates}

-- the members of a word among the `count` numbers from `first` on
unfoldable pub members_among : ℕ → ℕ → ℕ → List ℕ
members_among first count bits = filter (λ n. bit_at bits (n - 1) == 1) (range_with_len first count)

-- the members of the set that a word stands for
unfoldable pub members : ℕ → List ℕ
members bits = members_among 1 most_candidates bits

-- the word of a list of members
abbrev pub bits_of : List ℕ → ℕ
bits_of set = sum_by (λ n. 2 ^ (n - 1)) set

-- the sum over a filtered list, one element at a time
sum_by-filter-cons : (f : ℕ → ℕ) (p : ℕ → Bool) (x : ℕ) (xs : List ℕ)
    → sum_by f (filter p (x ∷ xs)) ≡ cond (p x) (f x) 0 + sum_by f (filter p xs)
sum_by-filter-cons f p x xs =
    elim (p x) as (λ b. sum_by f (cond b (x ∷ filter p xs) (filter p xs)) ≡ cond b (f x) 0 + sum_by f (filter p xs))
    [ true ↦ sum_by-cons f x (filter p xs) | false ↦ omega arith ]

bit_term : (b w : ℕ) → b < 2 → cond (b == 1) w 0 ≡ b * w
bit_term zero w h = omega arith
bit_term (suc zero) w h = omega arith
bit_term (suc (suc b)) w h = omega arith

joined : (q p c s : ℕ) → s ≡ (q / 2 % c) * 2 + q % 2 → (q % 2) * p + (q / 2 % c) * (p * 2) ≡ s * p
joined q p c s e = rw e (omega arith)

-- the bits from a on, as the sum of their powers
pub bits_of_members_among : (bits count a : ℕ)
    → bits_of (members_among (a + 1) count bits) ≡ (bits / 2 ^ a % 2 ^ count) * 2 ^ a
unfolding members_among
bits_of_members_among bits zero a =
    let e : bits / 2 ^ a % 2 ^ 0 ≡ 0 = omega (arith, mod_below (bits / 2 ^ a) 1 (omega arith)) in rw e (omega arith)
bits_of_members_among bits (suc count) a =
    let back : a + 1 - 1 ≡ a = omega arith in
    let rest = bits_of_members_among bits count (a + 1) in
    let halves : bits / 2 ^ (a + 1) ≡ bits / 2 ^ a / 2 = sym (shr-shr bits a 1) in
    let double : 2 ^ (a + 1) ≡ 2 ^ a * 2 = pow-add 2 a 1 in
    let split : bits / 2 ^ a % 2 ^ (suc count) ≡ (bits / 2 ^ a / 2 % 2 ^ count) * 2 + bits / 2 ^ a % 2 =
    subst (λ k. bits / 2 ^ a % 2 ^ k ≡ (bits / 2 ^ a / 2 % 2 ^ count) * 2 + bits / 2 ^ a % 2) (add-one count)
    (mod-pow-add (bits / 2 ^ a) count 1) in
    let here = bit_term (bits / 2 ^ a % 2) (2 ^ a) (mod_below (bits / 2 ^ a) 2 (omega arith)) in
    sum_by-filter-cons (λ n. 2 ^ (n - 1)) (λ n. bit_at bits (n - 1) == 1) (a + 1) (range_with_len (a + 1 + 1) count)
    ∙ (rw (back, rest, halves, double, here)
    (joined (bits / 2 ^ a) (2 ^ a) (2 ^ count) (bits / 2 ^ a % 2 ^ (suc count)) split))

-- a word from its members
pub bits_of_members : (bits : ℕ) → bits < 2 ^ most_candidates → bits_of (members bits) ≡ bits
unfolding members
bits_of_members bits h = bits_of_members_among bits most_candidates 0 ∙ omega (arith, h)

-- equal sets have the same word
pub bits_of_same : (set other : List ℕ) → bytes_eq set other ≡ true → bits_of set ≡ bits_of other
bits_of_same set other same = ap bits_of ((bytes_decides set other).0 same)
