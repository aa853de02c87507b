-- Orders of two and of three candidates.
use Rattle.std.proofs.Common.{◌≡◌, ℕ, ◌+◌, ◌-◌, ◌*◌, ◌/◌, ◌<◌, ◌≤◌, ◌∙◌, Bool, true, false, List, [], ◌∷◌, refl, sym, ap, subst, arith, inl, inr, length, max, min, set, sum_by}
use Rattle.std.specs.Prelude.{slice_index}
use Rattle.std.proofs.lemmas.Bool.{cases_lt}
use Rattle.std.proofs.lemmas.List.{get_or-set_other, get_or-set_same}
use Rattle.std.proofs.lemmas.List.Sums.{sum_by-cons}
use Rattle.ballot_base.specs.Ballots.{Row}
use Rattle.ballot_base.specs.CandSet.{common_members, has_member, without_member}
use Rattle.ballot_base.specs.Limits.{most_candidates}
use Rattle.row_multipliers.specs.declared.node.Node.{Node}
use Rattle.ballot_base.proofs.Increasing.{has_member-filter}
use Rattle.row_multipliers.proofs.CompletionLemmas.{and-true, without-is, without-not}
use Rattle.row_multipliers.proofs.HitLemmas.{free-common}
use Rattle.thiele_bounds.specs.Triples.{all_triples, threshold_sum}
use Rattle.thiele_bounds.specs.Steps.Cubics.{row_triple}
use Rattle.thiele_bounds.specs.Steps.Paired.{overlap_at, pair_place, triangle}
use Rattle.thiele_bounds.specs.Steps.Places.{HasRoom, tetrahedron, triple_place, word_of}
use Rattle.thiele_bounds.specs.Steps.Threes.{AreThrees, AreTriples, AreTwos, IsSumOfOne, IsSumOfTwo, roughly, three_at, three_of}
use Rattle.thiele_bounds.specs.declared.pairs.Totals.{Totals}
use Rattle.thiele_bounds.specs.declared.triples.Threes.{Threes}
use Rattle.thiele_bounds.proofs.PairBounds.CubicLemmas.{one-same, threshold-same, triple-sum}
use Rattle.thiele_bounds.proofs.PairBounds.OverlapLemmas.{pair-within, place-row, place-turned}
use Rattle.thiele_bounds.proofs.PairBounds.PlaceLemmas.{tetrahedron-rises, word-within}
use Rattle.thiele_bounds.proofs.PairBounds.TripleLemmas.{part, rests-turned}

-- ---- places

-- three candidates have a place in the table
pub room-within : (free table : List ℕ) → HasRoom free table → (i j l : ℕ) → has_member free i ≡ true → has_member free j ≡ true → has_member free l ≡ true → triple_place i j l < length table
room-within free table room i j l one two three =
    let high : ℕ = max (max i j) l in
    let middle : ℕ = max (min (max i j) l) (min i j) in
    let low : ℕ = min (min (max i j) l) (min i j) in
    omega (arith, word-within high middle low (omega arith) (omega arith), room-max (max i j) l (room-max i j (room i one) (room j two)) (room l three))
  where
    room-max : (a b : ℕ) → tetrahedron (a + 1) ≤ length table → tetrahedron (b + 1) ≤ length table → tetrahedron (max a b + 1) ≤ length table
    room-max a b first second = elim (cases_lt a b) [
      | inl less ↦ subst (λ n. tetrahedron (n + 1) ≤ length table) (let is : b ≡ max a b = omega (arith, less) in is) second
      | inr high ↦ subst (λ n. tetrahedron (n + 1) ≤ length table) (let is : a ≡ max a b = omega (arith, high) in is) first
    ]

pub place-small : (i j l : ℕ) → i ≤ most_candidates → j ≤ most_candidates → l ≤ most_candidates → triple_place i j l < 47905
place-small i j l one two three =
    let high : ℕ = max (max i j) l in
    omega (arith, word-within high (max (min (max i j) l) (min i j)) (min (min (max i j) l) (min i j)) (omega arith) (omega arith), tetrahedron-rises (high + 1) 65 (let few : high + 1 ≤ 65 = omega (arith, one, two, three) in few))

-- the first two may be in either order
triple-turned : (i j l : ℕ) → triple_place i j l ≡ triple_place j i l
triple-turned i j l =
    let more : max i j ≡ max j i = omega arith in
    let less : min i j ≡ min j i = omega arith in
    ap (λ n. tetrahedron (max n l) + pair_place (min n l) (min i j)) more ∙ ap (λ n. tetrahedron (max (max j i) l) + pair_place (min (max j i) l) n) less

pub place-is : (i j l z y x : ℕ) → max (max i j) l ≡ z → max (min (max i j) l) (min i j) ≡ y → min (min (max i j) l) (min i j) ≡ x → triple_place i j l ≡ tetrahedron z + triangle y + x
place-is i j l z y x high middle low = omega (arith, ap tetrahedron high, ap triangle middle, low)

-- the sum of two is set
module _ (twos : List ℕ) (i first v : ℕ) (long : length twos ≡ 2145) (small : i ≤ most_candidates) (low : first < i) where
  abbrev after : List ℕ
  after = set twos (pair_place i first) v

  pub row-place : (a b : ℕ) → b < a → pair_place a b ≡ triangle a + b
  row-place a b less = omega (arith, ap triangle (let is : max a b ≡ a = omega (arith, less) in is))

  pub two-made : overlap_at after i first ≡ v
  two-made = get_or-set_same twos (pair_place i first) v 0 (omega (arith, long, pair-within i first small (omega (arith, low, small))))

  pub two-kept : (a b : ℕ) → b < a → (a ≡ i → b ≡ first → ⊥) → overlap_at after a b ≡ overlap_at twos a b
  two-kept a b less other =
      get_or-set_other twos (pair_place i first) (pair_place a b) v 0
      (λ same.
      let places : triangle a + b ≡ triangle i + first = omega (arith, same, row-place a b less, row-place i first low) in
      let row : a ≡ i = place-row a b i first (omega (arith, less)) (omega (arith, low)) places in
      other row (omega (arith, places, ap triangle row)))

-- ---- triples of all voters

sums-same : (f g : Row → ℕ) → ((r : Row) → f r ≡ g r) → (rows : List Row) → sum_by f rows ≡ sum_by g rows
sums-same f g same [] = refl
sums-same f g same (r ∷ rows) = omega (arith, sum_by-cons f r rows, sum_by-cons g r rows, same r, sums-same f g same rows)

all-first : (triple : Row → ℕ) (rows : List Row) (i j l : ℕ) → all_triples triple rows i j l ≡ all_triples triple rows j i l
all-first triple rows i j l =
    triple-sum triple rows i j l
    ∙ sums-same (λ (r : Row). part (has_member r.0 i) (has_member r.0 j) (has_member r.0 l) (r.1 * triple r)) (λ (r : Row). part (has_member r.0 j) (has_member r.0 i) (has_member r.0 l) (r.1 * triple r))
    (λ (r : Row). turned (has_member r.0 i) (has_member r.0 j) (has_member r.0 l) (r.1 * triple r)) rows
    ∙ sym (triple-sum triple rows j i l)
  where
    turned : (p q r : Bool) (n : ℕ) → part p q r n ≡ part q p r n
    turned true true r n = refl
    turned true false r n = refl
    turned false true r n = refl
    turned false false r n = refl

all-last : (triple : Row → ℕ) (rows : List Row) (i j l : ℕ) → all_triples triple rows i j l ≡ all_triples triple rows i l j
all-last triple rows i j l =
    triple-sum triple rows i j l
    ∙ sums-same (λ (r : Row). part (has_member r.0 i) (has_member r.0 j) (has_member r.0 l) (r.1 * triple r)) (λ (r : Row). part (has_member r.0 i) (has_member r.0 l) (has_member r.0 j) (r.1 * triple r))
    (λ (r : Row). turned (has_member r.0 i) (has_member r.0 j) (has_member r.0 l) (r.1 * triple r)) rows
    ∙ sym (triple-sum triple rows i l j)
  where
    turned : (p q r : Bool) (n : ℕ) → part p q r n ≡ part p r q n
    turned true true true n = refl
    turned true true false n = refl
    turned true false true n = refl
    turned true false false n = refl
    turned false q r n = refl

-- the table has the triples of three different candidates in any order
module _ (sums : List ℕ) (shift : ℕ) (rows : List Row) (node : Node) (table : List ℕ) (are : AreTriples sums shift rows node table) where
  abbrev one : Row → ℕ
  one = row_triple sums shift node.set node.free node.left

  word-falling : (i j l : ℕ) → j < i → has_member node.free i ≡ true → has_member node.free j ≡ true → has_member node.free l ≡ true → (l ≡ i → ⊥) → (l ≡ j → ⊥)
      → word_of table i j l ≡ all_triples one rows i j l
  word-falling i j l less first second third apart other = elim (cases_lt l j) [
    | inl low ↦ ap (slice_index table) (place-is i j l i j l (omega (arith, less, low)) (omega (arith, less, low)) (omega (arith, less, low))) ∙ are i j l low less first second third
    | inr high ↦ elim (cases_lt l i) [
      | inl below ↦
          let above : j < l = between j l high other in
          ap (slice_index table) (place-is i j l i l j (omega (arith, below, above)) (omega (arith, below, above)) (omega (arith, below, above))) ∙ are i l j above below first third second ∙ all-last one rows i l j
      | inr beyond ↦
          let above : i < l = between i l beyond apart in
          ap (slice_index table) (place-is i j l l i j (omega (arith, less, above)) (omega (arith, less, above)) (omega (arith, less, above)))
          ∙ are l i j less above third first second
          ∙ all-first one rows l i j
          ∙ all-last one rows i l j
    ]
  ]
    where
      between : (a b : ℕ) → a ≤ b → (b ≡ a → ⊥) → a < b
      between a b few unlike = elim (cases_lt a b) [
        | inl less ↦ less
        | inr most ↦ absurd (unlike (omega (arith, few, most)))
      ]

  pub word-is : (i j l : ℕ) → has_member node.free i ≡ true → has_member node.free j ≡ true → has_member node.free l ≡ true → (j ≡ i → ⊥) → (l ≡ i → ⊥) → (l ≡ j → ⊥)
      → word_of table i j l ≡ all_triples one rows i j l
  word-is i j l first second third unlike apart other = elim (cases_lt j i) [
    | inl less ↦ word-falling i j l less first second third apart other
    | inr high ↦ elim (cases_lt i j) [
      | inl more ↦ ap (slice_index table) (triple-turned i j l) ∙ word-falling j i l more second first third other apart ∙ all-first one rows j i l
      | inr most ↦ absurd (unlike (omega (arith, high, most)))
    ]
  ]

-- row sums by the words of the table are those by the triples of all voters
pub one-is : (sums : List ℕ) (shift : ℕ) (rows : List Row) (node : Node) (totals : Totals) (table : List ℕ) (raise : ℕ) → AreTriples sums shift rows node table → (i sum : ℕ) → has_member node.free i ≡ true
    → IsSumOfOne (three_at totals (word_of table) node.left raise) node.free node.left i sum
    → IsSumOfOne (three_at totals (all_triples (row_triple sums shift node.set node.free node.left) rows) node.left raise) node.free node.left i sum
one-is sums shift rows node totals table raise are i sum here is =
    let free = node.free in
    let third : ℕ → ℕ → ℕ → ℕ = all_triples (row_triple sums shift node.set node.free node.left) rows in
    one-same (three_at totals (word_of table) node.left raise) (three_at totals third node.left raise) free node.left i sum
    (λ j l one two.
    let other = without-is (without_member free i) j l two in
    ap (λ t. slice_index totals.worths i + slice_index totals.worths j + slice_index totals.worths l + 3 * (node.left - 1) * (node.left - 2) * t + raise
    - (node.left - 1) * (overlap_at totals.overlaps i j + overlap_at totals.overlaps i l + overlap_at totals.overlaps j l))
    (word-is sums shift rows node table are i j l here (without-is free i j one) (without-is free i l other) (without-not free i j one) (without-not free i l other) (without-not (without_member free i) j l two)))
    is

-- ---- what a ballot adds

pub part-most : (p q r : Bool) (n : ℕ) → part p q r n ≤ n
part-most true true true n = omega arith
part-most true true false n = omega arith
part-most true false r n = omega arith
part-most false q r n = omega arith

pub common-among : (ballot free : List ℕ) (n : ℕ) → has_member (common_members ballot free) n ≡ true → has_member free n ≡ true
common-among ballot free n is = (and-true (has_member free n) (has_member ballot n) (sym (has_member-filter (has_member free) ballot n) ∙ is)).0

-- free candidates that are on a ballot
pub parts-same : (ballot free open_ : List ℕ) (z y x amount : ℕ) → open_ ≡ common_members ballot free → has_member free z ≡ true → has_member free y ≡ true → has_member free x ≡ true
    → part (has_member open_ z) (has_member open_ y) (has_member open_ x) amount ≡ part (has_member ballot z) (has_member ballot y) (has_member ballot x) amount
parts-same ballot free open_ z y x amount is one two three =
    ap (λ b. part b (has_member open_ y) (has_member open_ x) amount) (ap (λ l. has_member l z) is ∙ free-common ballot free z one)
    ∙ ap (λ b. part (has_member ballot z) b (has_member open_ x) amount) (ap (λ l. has_member l y) is ∙ free-common ballot free y two)
    ∙ ap (λ b. part (has_member ballot z) (has_member ballot y) b amount) (ap (λ l. has_member l x) is ∙ free-common ballot free x three)

-- ---- sums of two

three-turned : (threes : Threes) (i j l : ℕ) → three_of threes j i l ≡ three_of threes i j l
three-turned threes i j l =
    let left = threes.node.now.left in
    omega (arith, ap (slice_index threes.pairs.now) (place-turned j i), ap (λ n. 3 * (left - 1) * (left - 2) * slice_index threes.triples.now n / roughly) (triple-turned j i l))

-- the sum of two in either order
pub two-read : (threes : Threes) (twos : List ℕ) → AreThrees threes → AreTwos threes twos → (i j : ℕ) → has_member threes.node.now.free i ≡ true → has_member threes.node.now.free j ≡ true → (j ≡ i → ⊥)
    → IsSumOfTwo threes i j (overlap_at twos i j)
two-read threes twos are made i j first second unlike = elim (cases_lt j i) [
  | inl less ↦ made i j first second less
  | inr high ↦ elim (cases_lt i j) [
    | inl more ↦ turn (made j i second first more)
    | inr most ↦ absurd (unlike (omega (arith, high, most)))
  ]
]
  where
    turn : IsSumOfTwo threes j i (overlap_at twos j i) → IsSumOfTwo threes i j (overlap_at twos i j)
    turn (third, is) = (
      third,
      omega (
        arith,
        is,
        ap (slice_index twos) (place-turned j i),
        threshold-same (three_of threes j i) (three_of threes i j) (without_member (without_member threes.node.now.free j) i) (threes.node.now.left - 2) third (λ l here. three-turned threes i j l),
        ap (λ xs. threshold_sum (three_of threes i j) xs (threes.node.now.left - 2) third) (rests-turned most_candidates threes.node.now.free are.candidates j i),
      ),
    )
