-- The word of the set after another one of its size.
use Rattle.std.proofs.lemmas.Grind.{common_steps}
use Rattle.std.proofs.Common.{◌≡◌, ℕ, zero, suc, ◌+◌, ◌-◌, ◌*◌, ◌/◌, ◌^◌, ◌<◌, ◌≤◌, ◌==◌, min, max, List, [], ◌∷◌, ◌++◌, refl, sym, ap, ◌∙◌, subst, arith, inl, inr, bit_and, bit_or, w64, append_assoc, append-nil, add-zero, zero-add}
use Rattle.std.specs.Int.{bit_at}
use Rattle.std.specs.List.{range_with_len}
use Rattle.std.specs.Prelude.{nat_le}
use Rattle.std.proofs.lemmas.Bool.{eqb-false, cases_eq, cases_lt, ne_eqb, and_left, lt-leb, le-leb}
use Rattle.std.proofs.lemmas.List.Elements.{filter-append}
use Rattle.std.proofs.lemmas.List.FromFn.{length-range_with_len}
use Rattle.std.proofs.lemmas.Nat.{pow-add, pow_pos, or_lt, and_le_l, shr_high}
use Rattle.std.proofs.Math.Pow.{pow_mono}
use Rattle.std.proofs.lemmas.Nat.Bits.{bit_at-lt, bit_at-zero, bit_at_and, bit_at_or, bit_at_not, bit_at_ones, bit_at_ones_above, bit_at_above, bit_at_cat_high, bit_at_mask_inside, bit_at_mask_below, bit_at_mask_above}
use Rattle.ballot_base.specs.Limits.{most_candidates}
use Rattle.ballot_base.specs.Lists.{IsIncreasing}
use Rattle.ballot_base.specs.CandSet.{has_member, members_upto}
use Rattle.ballot_base.specs.Steps.Bits.{members_among, members}
use Rattle.ballot_base.specs.Steps.Subsets.{IsLastSet, IsNextSet}
use Rattle.ballot_base.proofs.Increasing.{has_member-above, has_member-filter, IsIncreasing-filter}
use Rattle.ballot_base.proofs.Members.{members_among_yes, members_among_no, members_among_none, has_member-members, IsIncreasing-members, same_members}

-- ---- the word of the first numbers
ones_product : (a b : ℕ) → 0 < a → 0 < b → a * b - 1 ≡ (a - 1) * b + (b - 1)
ones_product zero b some_a some_b = absurd (omega arith)
ones_product (suc a) b some_a some_b = let less : suc a - 1 ≡ a = omega arith in rw less (omega arith)

-- the highest n bits of a word of 1s, moved down
pub ones_shr : (n width : ℕ) → n ≤ width → (2 ^ width - 1) / 2 ^ (width - n) ≡ 2 ^ n - 1
ones_shr n width within = grind (arith, common_steps, pow-add, ones_product, pow_pos, shr_high)

-- ---- the greatest number of a word
-- the greatest power of 2 that is no greater than the word stands for its greatest number
pub greatest_is : (bits top last : ℕ) → 2 ^ top ≤ bits → bits < 2 * 2 ^ top → last ≡ top + 1
    → (bit_at bits (last - 1) ≡ 1) × ((i : ℕ) → last ≤ i → bit_at bits i ≡ 0)
greatest_is bits top last low high is =
    grind (arith, common_steps, pow-add 2 top 1, bit_at_cat_high 1 top (bits - 2 ^ top) top (omega arith) (omega arith), bit_at_above)

-- a word of few bits has no great number
pub greatest_most : (most bits top : ℕ) → 2 ^ top ≤ bits → bits < 2 ^ most → top + 1 ≤ most
greatest_most most bits top low high = grind (arith, common_steps, cases_lt, pow_mono)

-- ---- runs of members
range-append : (a i j : ℕ) → range_with_len a (i + j) ≡ range_with_len a i ++ range_with_len (a + i) j
range-append a zero j = rw (zero-add, add-zero)
range-append a (suc i) j =
    let e : a + 1 + i ≡ a + suc i = omega arith in
    let f : suc i + j ≡ suc (i + j) = omega arith in
    rw (f, ← e) (ap (λ s. a ∷ s) (range-append (a + 1) i j))

pub members_among-append : (first i j bits : ℕ) → members_among first (i + j) bits ≡ members_among first i bits ++ members_among (first + i) j bits
unfolding members_among
members_among-append first i j bits = grind (arith, common_steps, range-append, filter-append)

pub members_among_full : (first count bits : ℕ) → ((n : ℕ) → first ≤ n → n < first + count → bit_at bits (n - 1) ≡ 1) → members_among first count bits ≡ range_with_len first count
members_among_full first zero bits h = members_among_none first bits
members_among_full first (suc count) bits h =
    members_among_yes first count bits (h first (omega arith) (omega arith))
    ∙ ap (λ s. first ∷ s) (members_among_full (first + 1) count bits (λ n l u. h n (omega arith) (omega arith)))

pub members_among_clear : (first count bits : ℕ) → ((n : ℕ) → first ≤ n → n < first + count → bit_at bits (n - 1) ≡ 0) → members_among first count bits ≡ []
members_among_clear first zero bits h = members_among_none first bits
members_among_clear first (suc count) bits h =
    members_among_no first count bits (λ e. omega (arith, e, h first (omega arith) (omega arith)))
    ∙ members_among_clear (first + 1) count bits (λ n l u. h n (omega arith) (omega arith))

pub members_among_same : (first count a b : ℕ) → ((n : ℕ) → first ≤ n → n < first + count → bit_at a (n - 1) ≡ bit_at b (n - 1)) → members_among first count a ≡ members_among first count b
members_among_same first zero a b h = members_among_none first a ∙ sym (members_among_none first b)
members_among_same first (suc count) a b h =
    let rest = members_among_same (first + 1) count a b (λ n l u. h n (omega arith) (omega arith)) in
    let here = h first (omega arith) (omega arith) in
    elim (cases_eq (bit_at a (first - 1)) 1) [
      | inl one ↦ members_among_yes first count a one ∙ (ap (λ s. first ∷ s) rest ∙ sym (members_among_yes first count b (sym here ∙ one)))
      | inr other ↦ members_among_no first count a other ∙ (rest ∙ sym (members_among_no first count b (λ e. other (here ∙ e))))
    ]

-- the numbers 1 to low as in b, then none, then a run, then none
pub stacked : (a b low from run : ℕ) → low + 1 ≤ from → from + run ≤ most_candidates + 1 → ((n : ℕ) → 1 ≤ n → n ≤ low → bit_at a (n - 1) ≡ bit_at b (n - 1)) → ((n : ℕ) → low < n → n < from → bit_at a (n - 1) ≡ 0) → ((n : ℕ) → from ≤ n → n < from + run → bit_at a (n - 1) ≡ 1) → ((n : ℕ) → from + run ≤ n → n ≤ most_candidates → bit_at a (n - 1) ≡ 0) → members a ≡ members_among 1 low b ++ range_with_len from run
unfolding members
stacked a b low from run l h same gap full rest =
    let g : ℕ = from - 1 - low in
    let r : ℕ = most_candidates + 1 - from - run in
    let all : low + (g + (run + r)) ≡ most_candidates = omega arith in
    let at_gap : 1 + low + g ≡ from = omega arith in
    subst (λ n. members_among 1 n a ≡ members_among 1 low b ++ range_with_len from run) all
    (members_among-append 1 low (g + (run + r)) a
    ∙ (rw (
      members_among_same 1 low a b (λ n k u. same n k (omega arith)),
      members_among-append (1 + low) g (run + r) a,
      members_among_clear (1 + low) g a (λ n k u. gap n (omega arith) (omega arith)),
      at_gap,
      members_among-append from run r a,
      members_among_full from run a full,
      members_among_clear (from + run) r a (λ n k u. rest n k (omega arith)),
      append-nil,
    )))

-- ---- the two words
-- a set that is a run up to m is the last of its size
IsLastSet-from_run : (m from run : ℕ) (set : List ℕ) → set ≡ range_with_len from run → from + run ≡ m + 1 → IsLastSet m set
IsLastSet-from_run m from run set e h = grind (arith, common_steps, length-range_with_len)

-- a set of the numbers 1 to m has none above m
none_above : (bits m : ℕ) → IsIncreasing 1 m (members bits) → (n : ℕ) → 1 ≤ n → m < n → n ≤ most_candidates → bit_at bits (n - 1) ≡ 0
none_above bits m i n low h high =
    grind (arith, common_steps, has_member-members bits n low high, has_member-above 1 m (members bits) n i h, eqb-false, bit_at-lt bits (n - 1))

-- the numbers 1 to m that a word has not
absent_bit : (bits m i : ℕ) → bits < 2 ^ most_candidates → m ≤ most_candidates → i < most_candidates → bit_at (bit_and (2 ^ m - 1) (2 ^ 64 - 1 - bits)) i ≡ min (bit_at (2 ^ m - 1) i) (1 - bit_at bits i)
absent_bit bits m i b h k = bit_at_and (2 ^ m - 1) (2 ^ 64 - 1 - bits) i ∙ ap (λ n. min (bit_at (2 ^ m - 1) i) n) (bit_at_not w64 bits i (omega arith) (omega arith))

-- f is the greatest of them, or 0 where there is none
pub record IsFree (bits m f : ℕ) : Type 0 where
  pub most : f ≤ m
  pub absent : 0 < f → bit_at bits (f - 1) ≡ 0
  pub above : (n : ℕ) → f < n → n ≤ m → bit_at bits (n - 1) ≡ 1

free_none : (bits m : ℕ) → bits < 2 ^ most_candidates → m ≤ most_candidates → bit_and (2 ^ m - 1) (2 ^ 64 - 1 - bits) ≡ 0 → IsFree bits m 0
free_none bits m b h e = record {
  most = omega arith;
  absent = λ p. absurd (omega arith);
  above = λ n l u.
      let w = absent_bit bits m (n - 1) b h (omega arith) in
      let z = ap (λ x. bit_at x (n - 1)) e ∙ bit_at-zero (n - 1) in
      omega (arith, w, z, bit_at_ones m (n - 1) (omega arith), bit_at-lt bits (n - 1));
}

free_some : (bits m f : ℕ) → bits < 2 ^ most_candidates → m ≤ most_candidates → 1 ≤ f → f ≤ most_candidates → bit_at (bit_and (2 ^ m - 1) (2 ^ 64 - 1 - bits)) (f - 1) ≡ 1 → ((i : ℕ) → f ≤ i → bit_at (bit_and (2 ^ m - 1) (2 ^ 64 - 1 - bits)) i ≡ 0) → IsFree bits m f
free_some bits m f b h low high here clear =
    grind (arith, common_steps, absent_bit, cases_lt, bit_at_ones_above, bit_at-lt, bit_at_ones)

-- a set above whose free numbers all are members, and below them none, is the last
pub last_if_none_free : (bits m : ℕ) → bits < 2 ^ most_candidates → m ≤ most_candidates → IsIncreasing 1 m (members bits) → bit_and (2 ^ m - 1) (2 ^ 64 - 1 - bits) ≡ 0 → IsLastSet m (members bits)
last_if_none_free bits m b h i e =
    let free = free_none bits m b h e in
    let run : members bits ≡ range_with_len 1 m =
    stacked bits bits 0 1 m (omega arith) (omega arith) (λ n l u. refl) (λ n l u. absurd (omega arith)) (λ n l u. free.above n (omega arith) (omega arith)) (λ n l u. none_above bits m i n (omega arith) (omega arith) u)
    ∙ ap (λ s. s ++ range_with_len 1 m) (members_among_none 1 bits) in
    IsLastSet-from_run m 1 m (members bits) run (omega arith)

below_in : (bits k i : ℕ) → i < k → bit_at (bit_and bits (2 ^ k - 1)) i ≡ bit_at bits i
below_in bits k i h = let e = bit_at_and bits (2 ^ k - 1) i in omega (arith, e, bit_at_ones k i h, bit_at-lt bits i)

below_out : (bits k i : ℕ) → k ≤ i → bit_at (bit_and bits (2 ^ k - 1)) i ≡ 0
below_out bits k i h = let e = bit_at_and bits (2 ^ k - 1) i in omega (arith, e, bit_at_ones_above k i h)

last_if_none_below_free : (bits m f : ℕ) → m ≤ most_candidates → 1 ≤ f → IsIncreasing 1 m (members bits) → IsFree bits m f → bit_and bits (2 ^ (f - 1) - 1) ≡ 0 → IsLastSet m (members bits)
last_if_none_below_free bits m f h low i free e =
    let gap : (n : ℕ) → 0 < n → n < f + 1 → bit_at bits (n - 1) ≡ 0 = λ n l u.
    elim (cases_lt n f) [
      | inl under ↦ sym (below_in bits (f - 1) (n - 1) (omega arith)) ∙ (ap (λ x. bit_at x (n - 1)) e ∙ bit_at-zero (n - 1))
      | inr at ↦ let same : n ≡ f = omega arith in ap (λ x. bit_at bits (x - 1)) same ∙ free.absent low
    ] in
    let most = free.most in
    let run : members bits ≡ range_with_len (f + 1) (m - f) =
    stacked bits bits 0 (f + 1) (m - f) (omega arith) (omega arith) (λ n l u. refl) gap (λ n l u. free.above n (omega arith) (omega arith)) (λ n l u. none_above bits m i n (omega arith) (omega arith) u)
    ∙ ap (λ s. s ++ range_with_len (f + 1) (m - f)) (members_among_none 1 bits) in
    IsLastSet-from_run m (f + 1) (m - f) (members bits) run (omega arith)

-- l is the greatest member below f
pub record IsGrowing (bits f l : ℕ) : Type 0 where
  pub low : 1 ≤ l
  pub less : l < f
  pub member : bit_at bits (l - 1) ≡ 1
  pub gap : (n : ℕ) → l < n → n < f → bit_at bits (n - 1) ≡ 0

growing_from : (bits f l : ℕ) → 1 ≤ f → 1 ≤ l → bit_at (bit_and bits (2 ^ (f - 1) - 1)) (l - 1) ≡ 1 → ((i : ℕ) → l ≤ i → bit_at (bit_and bits (2 ^ (f - 1) - 1)) i ≡ 0) → IsGrowing bits f l
growing_from bits f l some low here clear = grind (arith, common_steps, cases_lt, below_out, below_in)

-- the word of the next set
pub grown : ℕ → ℕ → ℕ → ℕ → ℕ
grown bits m f l = bit_or (bit_and (bit_and bits (2 ^ (f - 1) - 1)) (2 ^ (l - 1) - 1)) (2 ^ (l + 1 + (m - f)) - 2 ^ l)

grown_bit : (bits m f l i : ℕ) → bit_at (grown bits m f l) i ≡ max (bit_at (bit_and (bit_and bits (2 ^ (f - 1) - 1)) (2 ^ (l - 1) - 1)) i) (bit_at (2 ^ (l + 1 + (m - f)) - 2 ^ l) i)
unfolding grown
grown_bit bits m f l i = bit_at_or (bit_and (bit_and bits (2 ^ (f - 1) - 1)) (2 ^ (l - 1) - 1)) (2 ^ (l + 1 + (m - f)) - 2 ^ l) i

grown_below : (bits m f l i : ℕ) → l < f → i < l - 1 → bit_at (grown bits m f l) i ≡ bit_at bits i
grown_below bits m f l i g h = grind (arith, common_steps, grown_bit, below_in, bit_at_mask_below)

grown_gap : (bits m f l i : ℕ) → l - 1 ≤ i → i < l → bit_at (grown bits m f l) i ≡ 0
grown_gap bits m f l i g h = grind (arith, common_steps, grown_bit, below_out, bit_at_mask_below)

grown_run : (bits m f l i : ℕ) → l ≤ i → i < l + 1 + (m - f) → bit_at (grown bits m f l) i ≡ 1
grown_run bits m f l i g h = grind (arith, common_steps, grown_bit, below_out, bit_at_mask_inside)

grown_above : (bits m f l i : ℕ) → l + 1 + (m - f) ≤ i → bit_at (grown bits m f l) i ≡ 0
grown_above bits m f l i g = grind (arith, common_steps, grown_bit, below_out, bit_at_mask_above)

members_grown : (bits m f l : ℕ) → m ≤ most_candidates → f ≤ m → IsGrowing bits f l → members (grown bits m f l) ≡ members_among 1 (l - 1) bits ++ range_with_len (l + 1) (suc (m - f))
members_grown bits m f l h most g =
    let low = g.low in
    let less = g.less in
    stacked (grown bits m f l) bits (l - 1) (l + 1) (suc (m - f)) (omega arith) (omega arith)
    (λ n k u. grown_below bits m f l (n - 1) less (omega arith))
    (λ n k u. grown_gap bits m f l (n - 1) (omega arith) (omega arith))
    (λ n k u. grown_run bits m f l (n - 1) (omega arith) (omega arith))
    (λ n k u. grown_above bits m f l (n - 1) (omega arith))

members_before : (bits m f l : ℕ) → m ≤ most_candidates → IsIncreasing 1 m (members bits) → IsFree bits m f → IsGrowing bits f l → members bits ≡ members_among 1 (l - 1) bits ++ l ∷ range_with_len (m + 1 - (m - f)) (m - f)
members_before bits m f l h i free g =
    let low = g.low in
    let less = g.less in
    let most = free.most in
    let start : m + 1 - (m - f) ≡ f + 1 = omega arith in
    let gap : (n : ℕ) → l < n → n < f + 1 → bit_at bits (n - 1) ≡ 0 = λ n k u.
    elim (cases_lt n f) [
      | inl under ↦ g.gap n k under
      | inr at ↦ let same : n ≡ f = omega arith in ap (λ x. bit_at bits (x - 1)) same ∙ free.absent (omega arith)
    ] in
    let runs : members bits ≡ members_among 1 l bits ++ range_with_len (f + 1) (m - f) =
    stacked bits bits l (f + 1) (m - f) (omega arith) (omega arith) (λ n k u. refl) gap (λ n k u. free.above n (omega arith) (omega arith)) (λ n k u. none_above bits m i n (omega arith) (omega arith) u) in
    let whole : l - 1 + 1 ≡ l = omega arith in
    let next : 1 + (l - 1) ≡ l = omega arith in
    let front : members_among 1 l bits ≡ members_among 1 (l - 1) bits ++ l ∷ [] =
    subst (λ n. members_among 1 n bits ≡ members_among 1 (l - 1) bits ++ l ∷ []) whole
    (members_among-append 1 (l - 1) 1 bits ∙ ap (λ s. members_among 1 (l - 1) bits ++ s) (rw next (members_among_full l 1 bits (λ n k u. let same : n ≡ l = omega arith in ap (λ x. bit_at bits (x - 1)) same ∙ g.member)))) in
    rw (start, runs, front) (append_assoc (members_among 1 (l - 1) bits) (l ∷ []) (range_with_len (f + 1) (m - f)))

-- ---- the same, of words that the code computes
pub free_of : (bits m word f : ℕ) → bits < 2 ^ most_candidates → m ≤ most_candidates → word ≡ 2 ^ m - 1 → 1 ≤ f → f ≤ most_candidates → bit_at (bit_and word (2 ^ 64 - 1 - bits)) (f - 1) ≡ 1 → ((i : ℕ) → f ≤ i → bit_at (bit_and word (2 ^ 64 - 1 - bits)) i ≡ 0) → IsFree bits m f
free_of bits m word f b h e low high = rw e (free_some bits m f b h low high)

pub growing_of : (bits word f l : ℕ) → word ≡ 2 ^ (f - 1) - 1 → 1 ≤ f → 1 ≤ l → bit_at (bit_and bits word) (l - 1) ≡ 1 → ((i : ℕ) → l ≤ i → bit_at (bit_and bits word) i ≡ 0) → IsGrowing bits f l
growing_of bits word f l e some low = rw e (growing_from bits f l some low)

pub last_if_all : (bits m word : ℕ) → bits < 2 ^ most_candidates → m ≤ most_candidates → word ≡ 2 ^ m - 1 → IsIncreasing 1 m (members bits) → bit_and word (2 ^ 64 - 1 - bits) ≡ 0 → IsLastSet m (members bits)
last_if_all bits m word b h e i = rw e (last_if_none_free bits m b h i)

pub last_if_none_below : (bits m word f : ℕ) → m ≤ most_candidates → word ≡ 2 ^ (f - 1) - 1 → 1 ≤ f → IsIncreasing 1 m (members bits) → IsFree bits m f → bit_and bits word ≡ 0 → IsLastSet m (members bits)
last_if_none_below bits m word f h e low i free = rw e (last_if_none_below_free bits m f h low i free)

pub grown_is : (bits m f l below low high last : ℕ) → below ≡ 2 ^ (f - 1) - 1 → low ≡ 2 ^ (l - 1) - 1 → high ≡ 2 ^ (l + 1 + (m - f)) - 1 → last ≡ 2 ^ l - 1 → bit_or (bit_and (bit_and bits below) low) (high - last) ≡ grown bits m f l
unfolding grown
grown_is bits m f l below low high last d e h k = grind (arith, common_steps, pow_pos)

pub bound_of_grown : (bits m f l : ℕ) → bits < 2 ^ most_candidates → m ≤ most_candidates → f ≤ m → l < f → grown bits m f l < 2 ^ most_candidates
unfolding grown
bound_of_grown bits m f l b h most less =
    let low : ℕ = bit_and (bit_and bits (2 ^ (f - 1) - 1)) (2 ^ (l - 1) - 1) in
    let fits : low < 2 ^ most_candidates = omega (arith, and_le_l (bit_and bits (2 ^ (f - 1) - 1)) (2 ^ (l - 1) - 1), and_le_l bits (2 ^ (f - 1) - 1)) in
    let top : 2 ^ (l + 1 + (m - f)) ≤ 2 ^ most_candidates = pow_mono {i = l + 1 + (m - f)} {j = most_candidates} (omega arith) in
    or_lt most_candidates low (2 ^ (l + 1 + (m - f)) - 2 ^ l) fits (omega (arith, top, pow_pos l))

pub IsNextSet-grown : (bits m f l : ℕ) → m ≤ most_candidates → IsIncreasing 1 m (members bits) → IsFree bits m f → IsGrowing bits f l → IsNextSet m (members bits) (members (grown bits m f l))
IsNextSet-grown bits m f l h i free g =
    let less = g.less in
    let most = free.most in
    (members_among 1 (l - 1) bits, l, m - f, omega arith, members_before bits m f l h i free g, members_grown bits m f l h most g)

pub members_up_to : (n : ℕ) → n ≤ most_candidates → members (2 ^ n - 1) ≡ range_with_len 1 n
members_up_to n h =
    stacked (2 ^ n - 1) (2 ^ n - 1) 0 1 n (omega arith) (omega arith) (λ k l u. refl) (λ k l u. absurd (omega arith)) (λ k l u. bit_at_ones n (k - 1) (omega arith)) (λ k l u. bit_at_ones_above n (k - 1) (omega arith))
    ∙ ap (λ s. s ++ range_with_len 1 n) (members_among_none 1 (2 ^ n - 1))

pub bound_of_up_to : (n : ℕ) → n ≤ most_candidates → 2 ^ n - 1 < 2 ^ most_candidates
bound_of_up_to n h = omega (arith, pow_mono {i = n} {j = most_candidates} h, pow_pos n)

pub members_after : (c m : ℕ) → c ≤ m → m ≤ most_candidates → members (bit_and (2 ^ m - 1) (2 ^ 64 - 1 - (2 ^ c - 1))) ≡ range_with_len (c + 1) (m - c)
members_after c m within most =
    let word : ℕ = bit_and (2 ^ m - 1) (2 ^ 64 - 1 - (2 ^ c - 1)) in
    let small : 2 ^ c - 1 < 2 ^ 64 = bound_of_up_to c (omega (arith, within, most)) in
    let bit : (n : ℕ) → 1 ≤ n → n ≤ most_candidates → bit_at word (n - 1) ≡ min (bit_at (2 ^ m - 1) (n - 1)) (1 - bit_at (2 ^ c - 1) (n - 1)) =
    λ n low high. bit_at_and (2 ^ m - 1) (2 ^ 64 - 1 - (2 ^ c - 1)) (n - 1) ∙ ap (λ b. min (bit_at (2 ^ m - 1) (n - 1)) b) (bit_at_not w64 (2 ^ c - 1) (n - 1) small (omega arith)) in
    stacked word word 0 (c + 1) (m - c) (omega arith) (omega (arith, within, most)) (λ k l u. refl)
    (λ k l u. omega (arith, bit k (omega arith) (omega (arith, within, most)), bit_at_ones c (k - 1) (omega arith)))
    (λ k l u. omega (arith, bit k (omega arith) (omega (arith, within, most)), bit_at_ones m (k - 1) (omega (arith, within)), bit_at_ones_above c (k - 1) (omega arith)))
    (λ k l u. omega (arith, bit k (omega arith) u, bit_at_ones_above m (k - 1) (omega (arith, within))))
    ∙ ap (λ s. s ++ range_with_len (c + 1) (m - c)) (members_among_none 1 word)

-- the members that are at most c
pub members_upto_word : (bits word c : ℕ) → word ≡ 2 ^ c - 1 → members (bit_and bits word) ≡ members_upto (members bits) c
members_upto_word bits word c is =
    rw is (same_members (bit_and bits (2 ^ c - 1)) (members_upto (members bits) c)
    (IsIncreasing-filter (λ n. nat_le n c) 1 most_candidates (members bits) (IsIncreasing-members bits))
    (λ n low high. rw (has_member-filter (λ k. nat_le k c) (members bits) n)
    (elim (cases_lt c n) [
      | inl above ↦ ne_eqb (bit_at (bit_and bits (2 ^ c - 1)) (n - 1)) 1 (λ one. omega (arith, one, below_out bits c (n - 1) (omega arith)))
          ∙ sym (and_left (nat_le n c) (has_member (members bits) n) (lt-leb n c above))
      | inr within ↦ rw (le-leb n c within) (ap (λ b. b == 1) (below_in bits c (n - 1) (omega arith)) ∙ sym (has_member-members bits n low high))
    ])))
