-- Worths of three, by the parts of pairs.
use Rattle.std.proofs.Common.{◌≡◌, ℕ, ◌+◌, ◌-◌, ◌*◌, ◌/◌, ◌^◌, ◌<◌, ◌≤◌, ◌==◌, ◌∙◌, ◌&&◌, not, Bool, true, false, List, [], ◌∷◌, refl, sym, ap, arith, inl, inr, cond, get_or, max, sum_by, nat_le}
use Rattle.std.specs.Prelude.{slice_index}
use mir.Val.{bool_byte}
use Rattle.std.proofs.Math.Nat.{mul-le-mul}
use Rattle.std.proofs.lemmas.Bool.{cases_eq, cases_lt, le-leb, leb-true, ne_eqb}
use Rattle.ballot_base.specs.CandSet.{has_member, members_upto, other_members, without_member}
use Rattle.ballot_base.specs.Limits.{most_candidates}
use Rattle.ballot_base.specs.Lists.{IsIncreasing}
use Rattle.ballot_base.proofs.Increasing.{has_member-filter, has_member_head}
use Rattle.row_multipliers.proofs.CompletionLemmas.{and-true, member-high, without-is, without-not}
use Rattle.row_multipliers.proofs.MemberLemmas.{first-gone}
use Rattle.thiele_bounds.specs.Steps.Paired.{overlap_at, pair_place, triangle}
use Rattle.thiele_bounds.specs.Steps.Places.{tetrahedron, triple_place, word_of}
use Rattle.thiele_bounds.specs.Steps.Threes.{ArePlaces, AreShared, IsPart, AreThrees, most_part, roughly, three_at, three_rough, worth_by}
use Rattle.thiele_bounds.specs.declared.pairs.Totals.{Totals}
use Rattle.thiele_bounds.specs.declared.triples.Threes.{Threes}
use Rattle.thiele_bounds.proofs.PairBounds.OverlapLemmas.{pair-within, place-turned}
use Rattle.thiele_bounds.proofs.PairBounds.PairLemmas.{sum-apart}
use Rattle.thiele_bounds.proofs.PairBounds.TripleLemmas.{rest-rises}
use Rattle.thiele_bounds.proofs.PairBounds.TurnLemmas.{place-is, room-within}

-- ---- members after a number

pub not-true : (b : Bool) → (b ≡ true → ⊥) → b ≡ false
not-true true other = absurd (other refl)
not-true false other = refl

-- the members that are not among the first ones
pub after-is : (free : List ℕ) (c x : ℕ) → has_member (other_members free (members_upto free c)) x ≡ true → (has_member free x ≡ true) × (c < x)
after-is free c x is =
    let both = and-true (not (has_member (members_upto free c) x)) (has_member free x) (sym (has_member-filter (λ n. not (has_member (members_upto free c) n)) free x) ∙ is) in (
      both.1,
      elim (cases_lt c x) [
        | inl less ↦ less
        | inr high ↦ absurd (apart (has_member (members_upto free c) x) both.0 (has_member-filter (λ n. nat_le n c) free x ∙ ap (λ b. b && has_member free x) (le-leb x c high) ∙ both.1))
      ],
    )
  where
    apart : (b : Bool) → not b ≡ true → b ≡ true → ⊥
    apart true one other = absurd cc
    apart false one other = absurd cc

pub after-in : (free : List ℕ) (c x : ℕ) → has_member free x ≡ true → c < x → has_member (other_members free (members_upto free c)) x ≡ true
after-in free c x here low =
    has_member-filter (λ n. not (has_member (members_upto free c) n)) free x
    ∙ ap (λ b. not b && has_member free x) (not-true (has_member (members_upto free c) x) beyond)
    ∙ here
  where
    beyond : has_member (members_upto free c) x ≡ true → ⊥
    beyond is =
        let few : x ≤ c = leb-true x c (and-true (nat_le x c) (has_member free x) (sym (has_member-filter (λ n. nat_le n c) free x) ∙ is)).0 in
        absurd (omega (arith, few, low))

pub later-not : (left rest : List ℕ) (first : ℕ) → left ≡ first ∷ rest → IsIncreasing 1 most_candidates left → (x : ℕ) → has_member rest x ≡ true → x ≡ first → ⊥
later-not left rest first is up x later same = absurd (let e : true ≡ false = sym later ∙ ap (has_member rest) same ∙ first-gone left rest first is up in cc)

-- ---- parts

-- an overlap that is still the first one
pub part-from : (worths now begun : List ℕ) (left most i j part : ℕ) → overlap_at now i j ≡ overlap_at begun i j → IsPart worths now left most i j part → IsPart worths begun left most i j part
part-from worths now begun left most i j part same is = record {
  enough = omega (arith, is.enough, ap (λ n. 2 * (left - 1) * (most - n)) same);
  small = is.small;
}

-- what is spared fits
pub spare-small : (others most spare : ℕ) → others ≤ 255 → spare ≤ most → most ≤ 2 ^ 58 → 2 * others * spare ≤ 510 * 2 ^ 58
spare-small others most spare few less small = mul-le-mul (let top : 2 * others ≤ 510 = omega (arith, few) in top) (let low : spare ≤ 2 ^ 58 = omega (arith, less, small) in low)

-- ---- places

pub row-is : (i j : ℕ) → j < i → pair_place i j ≡ triangle i + j
row-is i j less = omega (arith, ap triangle (let is : max i j ≡ i = omega (arith, less) in is))

pub row-turned : (i j : ℕ) → j < i → pair_place j i ≡ triangle i + j
row-turned i j less = place-turned j i ∙ row-is i j less

module _ (threes : Threes) (are : AreThrees threes) where
  part-small : (i j : ℕ) → has_member threes.node.now.free i ≡ true → has_member threes.node.now.free j ≡ true → (j ≡ i → ⊥) → overlap_at threes.pairs.now i j ≤ most_part
  part-small i j one two apart = elim (cases_lt j i) [
    | inl less ↦ are.small i j one two less
    | inr high ↦ elim (cases_lt i j) [
      | inl more ↦ omega (arith, are.small j i two one more, ap (slice_index threes.pairs.now) (place-turned i j))
      | inr most ↦ absurd (apart (omega (arith, high, most)))
    ]
  ]

  low : (i : ℕ) → has_member threes.node.now.free i ≡ true → i ≤ most_candidates
  low i here = member-high 1 most_candidates threes.node.now.free i are.candidates here

  -- the places of three free candidates
  pub three-places : (i j l : ℕ) → has_member threes.node.now.free i ≡ true → has_member threes.node.now.free j ≡ true → has_member threes.node.now.free l ≡ true
      → (j ≡ i → ⊥) → (l ≡ i → ⊥) → (l ≡ j → ⊥) → ArePlaces threes (pair_place i j) (pair_place i l) (pair_place j l) (triple_place i j l)
  three-places i j l one two three unlike apart other = record {
    first_low = pair-within i j (low i one) (low j two);
    second_low = pair-within i l (low i one) (low l three);
    third_low = pair-within j l (low j two) (low l three);
    triple_low = room-within threes.node.now.free threes.triples.now are.room i j l one two three;
    small = omega (arith, part-small i j one two unlike, part-small i l one three apart, part-small j l two three other);
  }

  -- other numbers for the same places
  module _ (a b c d a' b' c' d' : ℕ) (first : a ≡ a') (second : b ≡ b') (third : c ≡ c') (triple : d ≡ d') where
    pub places-same : ArePlaces threes a' b' c' d' → ArePlaces threes a b c d
    places-same places = record {
      first_low = omega (arith, places.first_low, first);
      second_low = omega (arith, places.second_low, second);
      third_low = omega (arith, places.third_low, third);
      triple_low = omega (arith, places.triple_low, triple);
      small = omega (arith, places.small, ap (slice_index threes.pairs.now) first, ap (slice_index threes.pairs.now) second, ap (slice_index threes.pairs.now) third);
    }

    pub worth-same : worth_by threes a b c d ≡ worth_by threes a' b' c' d'
    worth-same =
        let left = threes.node.now.left in
        omega (
          arith,
          ap (slice_index threes.pairs.now) first,
          ap (slice_index threes.pairs.now) second,
          ap (slice_index threes.pairs.now) third,
          ap (λ n. 3 * (left - 1) * (left - 2) * slice_index threes.triples.now n / roughly) triple,
        )

  -- three free candidates, by where the third one lies
  module _ (i j l a b c d : ℕ) (one : has_member threes.node.now.free i ≡ true) (two : has_member threes.node.now.free j ≡ true) (three : has_member threes.node.now.free l ≡ true) (order : j < i) where
    abbrev Placed : Type 0
    Placed = ArePlaces threes a b c d × (worth_by threes a b c d ≡ three_rough threes i j l)

    placed : (l ≡ i → ⊥) → (l ≡ j → ⊥) → a ≡ pair_place i j → b ≡ pair_place i l → c ≡ pair_place j l → d ≡ triple_place i j l → Placed
    placed apart other first second third triple = (
      places-same a b c d (pair_place i j) (pair_place i l) (pair_place j l) (triple_place i j l) first second third triple
          (three-places i j l one two three (λ same. absurd (omega (arith, same, order))) apart other),
      worth-same a b c d (pair_place i j) (pair_place i l) (pair_place j l) (triple_place i j l) first second third triple,
    )

    pub below-placed : l < j → a ≡ triangle i + j → b ≡ triangle i + l → c ≡ triangle j + l → d ≡ tetrahedron i + triangle j + l → Placed
    below-placed less first second third triple =
        let far : l < i = omega (arith, less, order) in
        placed (λ same. absurd (omega (arith, same, far))) (λ same. absurd (omega (arith, same, less))) (first ∙ sym (row-is i j order)) (second ∙ sym (row-is i l far)) (third ∙ sym (row-is j l less))
        (triple ∙ sym (place-is i j l i j l (omega (arith, less, order)) (omega (arith, less, order)) (omega (arith, less, order))))

    pub between-placed : j < l → l < i → a ≡ triangle i + j → b ≡ triangle i + l → c ≡ triangle l + j → d ≡ tetrahedron i + triangle l + j → Placed
    between-placed more less first second third triple =
        placed (λ same. absurd (omega (arith, same, less))) (λ same. absurd (omega (arith, same, more))) (first ∙ sym (row-is i j order)) (second ∙ sym (row-is i l less)) (third ∙ sym (row-turned l j more))
        (triple ∙ sym (place-is i j l i l j (omega (arith, more, less)) (omega (arith, more, less)) (omega (arith, more, less))))

    pub above-placed : i < l → a ≡ triangle i + j → b ≡ triangle l + i → c ≡ triangle l + j → d ≡ tetrahedron l + triangle i + j → Placed
    above-placed more first second third triple =
        let far : j < l = omega (arith, more, order) in
        placed (λ same. absurd (omega (arith, same, more))) (λ same. absurd (omega (arith, same, far))) (first ∙ sym (row-is i j order)) (second ∙ sym (row-turned l i more)) (third ∙ sym (row-turned l j far))
        (triple ∙ sym (place-is i j l l i j (omega (arith, more, order)) (omega (arith, more, order)) (omega (arith, more, order))))

-- ---- steps of loops

module _ (first : ℕ) (before after begun : List ℕ) (v : ℕ) (is_set : (n : ℕ) → get_or after n 0 ≡ cond (n == first) v (get_or before n 0)) where
  -- what is not among the members stays
  pub kept-more : (members : List ℕ) → has_member members first ≡ true → ((x : ℕ) → has_member members x ≡ false → get_or before x 0 ≡ get_or begun x 0)
      → (x : ℕ) → has_member members x ≡ false → get_or after x 0 ≡ get_or begun x 0
  kept-more members here kept x out = elim (cases_eq x first) [
    | inl same ↦ absurd (let e : true ≡ false = sym here ∙ ap (has_member members) (sym same) ∙ out in cc)
    | inr other ↦ is_set x ∙ ap (λ b. cond b v (get_or before x 0)) (ne_eqb x first other) ∙ kept x out
  ]

pub byte-few : (b : Bool) → bool_byte b ≤ 1
byte-few true = omega arith
byte-few false = omega arith

-- ---- sums over candidates below a number

pub none-covered : (f : ℕ → ℕ) (xs : List ℕ) → IsIncreasing 1 most_candidates xs → ((x : ℕ) → has_member xs x ≡ true → x < 1) → sum_by f xs ≤ 0
none-covered f [] up below = omega arith
none-covered f (x ∷ xs) up below =
    let least : x < 1 = below x (has_member_head x xs) in
    absurd (omega (arith, least, up.0))

pub next-covered : (f : ℕ → ℕ) (n more : ℕ) → ((xs : List ℕ) → IsIncreasing 1 most_candidates xs → ((x : ℕ) → has_member xs x ≡ true → x < n) → sum_by f xs ≤ more)
    → (xs : List ℕ) → IsIncreasing 1 most_candidates xs → ((x : ℕ) → has_member xs x ≡ true → x < n + 1) → sum_by f xs ≤ more + f n
next-covered f n more covered xs up below = by (has_member xs n) refl
  where
    less : (x : ℕ) → x < n + 1 → (x ≡ n → ⊥) → x < n
    less x few other = elim (cases_lt x n) [
      | inl is ↦ is
      | inr high ↦ absurd (other (omega (arith, few, high)))
    ]

    by : (b : Bool) → has_member xs n ≡ b → sum_by f xs ≤ more + f n
    by true is =
        omega (
          arith,
          sum-apart f most_candidates 1 n xs up is,
          covered (without_member xs n) (rest-rises most_candidates n xs up) (λ x in_. less x (below x (without-is xs n x in_)) (without-not xs n x in_)),
        )
    by false is =
        omega (
          arith,
          covered xs up (λ x in_. less x (below x in_) (λ same. absurd (let e : true ≡ false = sym in_ ∙ ap (has_member xs) same ∙ is in cc))),
        )

-- ---- the parts of pairs bound worths of three

module _ (totals : Totals) (pairs triples free : List ℕ) (left most raise : ℕ) (shared : AreShared totals.worths totals.overlaps free left most pairs) (all : raise ≡ 3 * (left - 1) * most)
    (highest : (i j : ℕ) → i ≤ most_candidates → j ≤ most_candidates → overlap_at totals.overlaps i j ≤ most) (up : IsIncreasing 1 most_candidates free) where
  part-enough : (i j : ℕ) → has_member free i ≡ true → has_member free j ≡ true → (j ≡ i → ⊥)
      → slice_index totals.worths i + slice_index totals.worths j + 2 * ((left - 1) * most) ≤ 2 * roughly * overlap_at pairs i j + 2 * ((left - 1) * overlap_at totals.overlaps i j)
  part-enough i j one two apart = elim (cases_lt j i) [
    | inl less ↦ enough i j (overlap_at pairs i j) (highest i j (few i one) (few j two)) (shared i j one two less).enough
    | inr high ↦ elim (cases_lt i j) [
      | inl more ↦
          omega (
            arith,
            enough j i (overlap_at pairs j i) (highest j i (few j two) (few i one)) (shared j i two one more).enough,
            ap (slice_index pairs) (place-turned i j),
            ap (λ n. (left - 1) * slice_index totals.overlaps n) (place-turned i j),
          )
      | inr same ↦ absurd (apart (omega (arith, high, same)))
    ]
  ]
    where
      few : (i : ℕ) → has_member free i ≡ true → i ≤ most_candidates
      few i here = member-high 1 most_candidates free i up here

      enough : (i j part : ℕ) → overlap_at totals.overlaps i j ≤ most
          → slice_index totals.worths i + slice_index totals.worths j + 2 * (left - 1) * (most - overlap_at totals.overlaps i j) ≤ 2 * roughly * part
          → slice_index totals.worths i + slice_index totals.worths j + 2 * ((left - 1) * most) ≤ 2 * roughly * part + 2 * ((left - 1) * overlap_at totals.overlaps i j)
      enough i j part within is =
          let o = overlap_at totals.overlaps i j in
          let whole : most - o + o ≡ most = omega (arith, within) in
          let split : (k x y : ℕ) → 2 * (k * (x + y)) ≡ 2 * k * x + 2 * (k * y) = λ k x y. omega arith in
          omega (arith, is, split (left - 1) (most - o) o, ap (λ n. 2 * ((left - 1) * n)) whole)

  pub three-less : (i j l : ℕ) → has_member free i ≡ true → has_member free j ≡ true → has_member free l ≡ true → (j ≡ i → ⊥) → (l ≡ i → ⊥) → (l ≡ j → ⊥)
      → three_at totals (word_of triples) left raise i j l
      ≤ roughly * (overlap_at pairs i j + overlap_at pairs i l + overlap_at pairs j l + 3 * (left - 1) * (left - 2) * word_of triples i j l / roughly + 1)
  three-less i j l one two three unlike apart other =
      let split : (k x y z : ℕ) → k * (x + y + z) ≡ k * x + k * y + k * z = λ k x y z. omega arith in
      let thrice : (k m : ℕ) → 3 * k * m ≡ 3 * (k * m) = λ k m. omega arith in
      omega (
        arith,
        part-enough i j one two unlike,
        part-enough i l one three apart,
        part-enough j l two three other,
        all,
        thrice (left - 1) most,
        split (left - 1) (overlap_at totals.overlaps i j) (overlap_at totals.overlaps i l) (overlap_at totals.overlaps j l),
      )
