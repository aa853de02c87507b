-- Tables of pairs, and what a ballot adds to them.
use Rattle.std.proofs.Common.{◌≡◌, ℕ, ◌+◌, ◌*◌, ◌/◌, ◌<◌, ◌≤◌, ◌==◌, ◌&&◌, ◌∙◌, ◌⊎◌, Bool, true, false, cond, List, ◌∷◌, refl, sym, ap, subst, arith, inl, inr, length, max, min, get_or, set, nat_le}
use Rattle.std.proofs.Math.Nat.{mul-le-mul}
use Rattle.std.proofs.lemmas.Bool.{cases_eq, cases_lt, eq-eqb, le-leb, ne_eqb}
use Rattle.std.proofs.lemmas.List.{get_or-set_same, get_or-set_other}
use Rattle.ballot_base.specs.Limits.{most_candidates}
use Rattle.ballot_base.specs.Lists.{IsIncreasing}
use Rattle.ballot_base.specs.CandSet.{has_member, members_upto}
use Rattle.ballot_base.proofs.Increasing.{has_member-filter}
use Rattle.row_multipliers.proofs.MemberLemmas.{first-gone, first-in, first-low, others-same}
use Rattle.thiele_bounds.specs.Steps.Paired.{overlap_at, pair_place, triangle}

-- who is in the row or among the members gets so much
abbrev pub portion : Bool → Bool → ℕ → ℕ
portion here there amount = cond here (cond there amount 0) 0

pub portion-none : (here : Bool) (amount : ℕ) → portion here false amount ≡ 0
portion-none true amount = refl
portion-none false amount = refl

-- a pair in either order
pub portion-pair : (has : ℕ → Bool) (i j amount : ℕ) → portion (has (max i j)) (has (min i j)) amount ≡ portion (has i) (has j) amount
portion-pair has i j amount = elim (cases_lt i j) [
  | inl low ↦
      ap (λ n. portion (has n) (has (min i j)) amount) (max-right i j (omega (arith, low)))
      ∙ ap (λ n. portion (has j) (has n) amount) (min-left i j (omega (arith, low)))
      ∙ turned (has j) (has i)
  | inr high ↦
      ap (λ n. portion (has n) (has (min i j)) amount) (max-left i j (omega (arith, high)))
      ∙ ap (λ n. portion (has i) (has n) amount) (min-right i j (omega (arith, high)))
]
  where
    max-left : (a b : ℕ) → b ≤ a → max a b ≡ a
    max-left a b low = omega (arith, low)

    min-left : (a b : ℕ) → a ≤ b → min a b ≡ a
    min-left a b low = omega (arith, low)

    max-right : (a b : ℕ) → a ≤ b → max a b ≡ b
    max-right a b low = omega (arith, low)

    min-right : (a b : ℕ) → b ≤ a → min a b ≡ b
    min-right a b low = omega (arith, low)

    turned : (p q : Bool) → portion p q amount ≡ portion q p amount
    turned true true = refl
    turned true false = refl
    turned false true = refl
    turned false false = refl

-- ---- places

-- a row more
pub triangle-next : (n : ℕ) → triangle (n + 1) ≡ triangle n + n + 1
triangle-next n = omega arith

pub triangle-rises : (a b : ℕ) → a ≤ b → triangle a ≤ triangle b
triangle-rises a b low =
    let product : a * (a + 1) ≤ b * (b + 1) = mul-le-mul low (let next : a + 1 ≤ b + 1 = omega (arith, low) in next) in
    omega (arith, product)

-- each pair of candidates has a place in the table
pub place-within : (row column : ℕ) → row ≤ most_candidates → column ≤ row → triangle row + column < 2145
place-within row column low few =
    let last : triangle (row + 1) ≤ triangle 65 = triangle-rises (row + 1) 65 (omega (arith, low)) in
    omega (arith, last, triangle-next row, few)

pub pair-within : (i j : ℕ) → i ≤ most_candidates → j ≤ most_candidates → pair_place i j < 2145
pair-within i j one other = place-within (max i j) (min i j) (omega (arith, one, other)) (omega arith)

-- rows are apart
row-apart : (row other column : ℕ) (P : Type 0) → row < other → column ≤ row → (last : ℕ) → triangle row + column ≡ triangle other + last → P
row-apart row other column P less few last same = absurd (omega (arith, triangle-rises (row + 1) other (omega (arith, less)), triangle-next row, few, same))

-- the place of a pair tells its candidates
pub place-row : (row column other last : ℕ) → column ≤ row → last ≤ other → triangle row + column ≡ triangle other + last → row ≡ other
place-row row column other last few less same = elim (cases_lt row other) [
  | inl low ↦ row-apart row other column (row ≡ other) low few last same
  | inr high ↦ elim (cases_lt other row) [
    | inl low ↦ row-apart other row last (row ≡ other) low less column (sym same)
    | inr most ↦ omega (arith, high, most)
  ]
]

-- the place of a pair in either order
pub place-turned : (i j : ℕ) → pair_place i j ≡ pair_place j i
place-turned i j =
    let high : max i j ≡ max j i = omega arith in
    let low : min i j ≡ min j i = omega arith in
    omega (arith, ap (λ n. n * (n + 1) / 2) high, low)

module _ (left rest : List ℕ) (first : ℕ) (is : left ≡ first ∷ rest) (up : IsIncreasing 1 most_candidates left) where
  module _ (before after : List ℕ) (v : ℕ) (is_set : (n : ℕ) → get_or after n 0 ≡ cond (n == first) v (get_or before n 0)) where
    first-is : get_or after first 0 ≡ v
    first-is = is_set first ∙ ap (λ b. cond b v (get_or before first 0)) (eq-eqb first first refl)

    other-is : (n : ℕ) → (n ≡ first → ⊥) → get_or after n 0 ≡ get_or before n 0
    other-is n other = is_set n ∙ ap (λ b. cond b v (get_or before n 0)) (ne_eqb n first other)

    -- the worth of the first of those who are left is set
    pub one-made : (P : ℕ → ℕ → Type 0) (free : List ℕ) → P first v → ((j : ℕ) → has_member free j ≡ true → has_member left j ≡ false → P j (get_or before j 0))
        → (j : ℕ) → has_member free j ≡ true → has_member rest j ≡ false → P j (get_or after j 0)
    one-made P free here made j in_ gone = elim (cases_eq j first) [
      | inl same ↦ subst (λ x. P x (get_or after x 0)) (sym same) (subst (λ x. P first x) (sym first-is) here)
      | inr other ↦ subst (λ x. P j x) (sym (other-is j other)) (made j in_ (others-same left rest first is up j other ∙ gone))
    ]

    pub one-most : (most : ℕ) → v ≤ most → ((j : ℕ) → get_or before j 0 ≤ most) → (j : ℕ) → get_or after j 0 ≤ most
    one-most most low small j = elim (cases_eq j first) [
      | inl same ↦ omega (arith, low, ap (λ n. get_or after n 0) same, first-is)
      | inr other ↦ omega (arith, small j, other-is j other)
    ]

  module _ (table begun columns : List ℕ) (row amount : ℕ) (low : first ≤ row)
      (made : (i j : ℕ) → overlap_at table i j + portion (max i j == row) (has_member left (min i j)) amount ≡ overlap_at begun i j + portion (max i j == row) (has_member columns (min i j)) amount) where
    -- the first of those who are left has got its part
    pub row-more : length table ≡ 2145 → row ≤ most_candidates → (i j : ℕ)
        → overlap_at (set table (triangle row + first) (get_or table (triangle row + first) 0 + amount)) i j + portion (max i j == row) (has_member rest (min i j)) amount
        ≡ overlap_at begun i j + portion (max i j == row) (has_member columns (min i j)) amount
    row-more long within i j = elim (cases_eq (pair_place i j) (triangle row + first)) [
      | inl same ↦
          let row-is : max i j ≡ row = place-row (max i j) (min i j) row first (omega arith) low same in
          let first-is : min i j ≡ first = omega (arith, same, ap triangle row-is) in
          omega (
            arith,
            made i j,
            ap (λ n. get_or (set table (triangle row + first) (get_or table (triangle row + first) 0 + amount)) n 0) same,
            get_or-set_same table (triangle row + first) (get_or table (triangle row + first) 0 + amount) 0 (omega (arith, long, place-within row first within low)),
            ap (λ n. get_or table n 0) same,
            ap (λ b. portion b (has_member left (min i j)) amount) (eq-eqb (max i j) row row-is),
            ap (λ b. portion b (has_member rest (min i j)) amount) (eq-eqb (max i j) row row-is),
            ap (λ b. cond b amount 0) (ap (has_member left) first-is ∙ (first-in left rest first is up)),
            ap (λ b. cond b amount 0) (ap (has_member rest) first-is ∙ (first-gone left rest first is up)),
          )
      | inr other ↦
          omega (
            arith,
            made i j,
            get_or-set_other table (triangle row + first) (pair_place i j) (get_or table (triangle row + first) 0 + amount) 0 other,
            kept (cases_eq (max i j) row) other,
          )
    ]
      where
        kept : (max i j ≡ row) ⊎ (max i j ≡ row → ⊥) → (pair_place i j ≡ triangle row + first → ⊥) → portion (max i j == row) (has_member rest (min i j)) amount ≡ portion (max i j == row) (has_member left (min i j)) amount
        kept (inl same) other = ap (λ b. portion (max i j == row) b amount) (sym (others-same left rest first is up (min i j) (λ e. other (omega (arith, ap triangle same, e)))))
        kept (inr apart) other = ap (λ b. portion b (has_member rest (min i j)) amount) (ne_eqb (max i j) row apart) ∙ sym (ap (λ b. portion b (has_member left (min i j)) amount) (ne_eqb (max i j) row apart))

    -- the next number fits
    pub row-fits : (bound : ℕ) → overlap_at begun row first + amount < bound → get_or table (triangle row + first) 0 + amount < bound
    row-fits bound fits =
        let more : max row first ≡ row = omega (arith, low) in
        let less : min row first ≡ first = omega (arith, low) in
        let at : pair_place row first ≡ triangle row + first = omega (arith, ap triangle more, less) in
        omega (
          arith,
          made row first,
          fits,
          ap (λ n. get_or table n 0) at,
          ap (λ b. portion b (has_member left (min row first)) amount) (eq-eqb (max row first) row more),
          ap (λ b. portion b (has_member columns (min row first)) amount) (eq-eqb (max row first) row more),
          ap (λ b. cond b amount 0) (ap (has_member left) less ∙ (first-in left rest first is up)),
          most (has_member columns (min row first)),
        )
      where
        most : (b : Bool) → cond b amount 0 ≤ amount
        most true = omega arith
        most false = omega arith

  module _ (table begun after members : List ℕ) (amount : ℕ)
      (made : (i j : ℕ) → j ≤ most_candidates
      → overlap_at table i j + portion (has_member left (max i j)) (has_member members (min i j)) amount ≡ overlap_at begun i j + portion (has_member members (max i j)) (has_member members (min i j)) amount) where
    -- the row of the first of those who are left is done
    pub rows-more : ((i j : ℕ) → overlap_at after i j ≡ overlap_at table i j + portion (max i j == first) (has_member (members_upto members first) (min i j)) amount) → (i j : ℕ) → j ≤ most_candidates
        → overlap_at after i j + portion (has_member rest (max i j)) (has_member members (min i j)) amount ≡ overlap_at begun i j + portion (has_member members (max i j)) (has_member members (min i j)) amount
    rows-more more i j low = elim (cases_eq (max i j) first) [
      | inl same ↦
          let column : has_member (members_upto members first) (min i j) ≡ has_member members (min i j) =
          has_member-filter (λ n. nat_le n first) members (min i j) ∙ ap (λ b. b && has_member members (min i j)) (let few : min i j ≤ first = omega (arith, same) in le-leb (min i j) first few) in
          omega (
            arith,
            made i j low,
            more i j,
            ap (λ b. portion b (has_member (members_upto members first) (min i j)) amount) (eq-eqb (max i j) first same),
            ap (λ b. cond b amount 0) column,
            ap (λ b. portion b (has_member members (min i j)) amount) (ap (has_member left) same ∙ (first-in left rest first is up)),
            ap (λ b. portion b (has_member members (min i j)) amount) (ap (has_member rest) same ∙ (first-gone left rest first is up)),
          )
      | inr other ↦
          omega (
            arith,
            made i j low,
            more i j,
            ap (λ b. portion b (has_member (members_upto members first) (min i j)) amount) (ne_eqb (max i j) first other),
            ap (λ b. portion b (has_member members (min i j)) amount) (others-same left rest first is up (max i j) other),
          )
    ]

    pub rows-fit : (bound : ℕ) → ((i j : ℕ) → j ≤ most_candidates → overlap_at begun i j + amount < bound) → (j : ℕ) → j ≤ first → overlap_at table first j + amount < bound
    rows-fit bound fits j few =
        let inside : j ≤ most_candidates = omega (arith, few, (first-low left rest first is up)) in
        let more : max first j ≡ first = omega (arith, few) in
        omega (
          arith,
          made first j inside,
          fits first j inside,
          ap (λ b. portion b (has_member members (min first j)) amount) (ap (has_member left) more ∙ (first-in left rest first is up)),
          less (has_member members (max first j)) (has_member members (min first j)),
        )
      where
        less : (p q : Bool) → portion p q amount ≤ cond q amount 0
        less true q = omega arith
        less false true = omega arith
        less false false = omega arith
