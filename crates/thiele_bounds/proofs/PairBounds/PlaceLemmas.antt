-- Tables of triples, and what a ballot adds to them.
use Rattle.std.proofs.Common.{◌≡◌, ℕ, zero, suc, ◌+◌, ◌-◌, ◌*◌, ◌<◌, ◌≤◌, ◌==◌, ◌&&◌, ◌||◌, ◌∙◌, ◌⊎◌, Bool, true, false, cond, List, [], ◌∷◌, refl, sym, ap, arith, inl, inr, length, get_or, set, nat_le}
use Rattle.std.proofs.Math.Nat.{mul-le-mul}
use Rattle.std.proofs.lemmas.Bool.{cases_eq, cases_lt, eq-eqb, le-leb, leb-true, lt-leb, ne_eqb}
use Rattle.std.proofs.lemmas.List.{get_or-set_same, get_or-set_other}
use Rattle.ballot_base.specs.Limits.{most_candidates}
use Rattle.ballot_base.specs.Lists.{IsIncreasing}
use Rattle.ballot_base.specs.CandSet.{has_member, members_upto}
use Rattle.ballot_base.proofs.Increasing.{has_member-filter}
use Rattle.row_multipliers.proofs.CompletionLemmas.{and-true}
use Rattle.row_multipliers.proofs.MemberLemmas.{first-gone, first-in, others-same}
use Rattle.thiele_bounds.specs.Steps.Paired.{triangle}
use Rattle.thiele_bounds.specs.Steps.Places.{tetrahedron}
use Rattle.thiele_bounds.proofs.PairBounds.OverlapLemmas.{portion, place-row, triangle-next, triangle-rises}

-- ---- places

even : (n : ℕ) → n * (n + 1) ≡ 2 * triangle n
even zero = refl
even (suc n) = omega (arith, even n)

-- a plane more
pub tetrahedron-next : (n : ℕ) → tetrahedron (n + 1) ≡ tetrahedron n + triangle (n + 1)
tetrahedron-next n =
    let more : (n + 1) * (n + 1 + 1) * (n + 1 + 2) ≡ n * (n + 1) * (n + 2) + 3 * ((n + 1) * (n + 1 + 1)) = omega arith in
    omega (arith, more, even (n + 1))

pub tetrahedron-rises : (a b : ℕ) → a ≤ b → tetrahedron a ≤ tetrahedron b
tetrahedron-rises a b low =
    let two : a * (a + 1) ≤ b * (b + 1) = mul-le-mul low (let next : a + 1 ≤ b + 1 = omega (arith, low) in next) in
    let three : a * (a + 1) * (a + 2) ≤ b * (b + 1) * (b + 2) = mul-le-mul two (let next : a + 2 ≤ b + 2 = omega (arith, low) in next) in
    omega (arith, three)

-- each place is in the plane of its first candidate
pub word-within : (z y x : ℕ) → x ≤ y → y ≤ z → tetrahedron z + triangle y + x < tetrahedron (z + 1)
word-within z y x low less =
    let last : triangle (y + 1) ≤ triangle (z + 1) = triangle-rises (y + 1) (z + 1) (omega (arith, less)) in
    omega (arith, low, last, triangle-next y, tetrahedron-next z)

-- planes are apart
plane-apart : (z y x c b a : ℕ) (P : Type 0) → x ≤ y → y ≤ z → z < c → tetrahedron z + triangle y + x ≡ tetrahedron c + triangle b + a → P
plane-apart z y x c b a P low less before same = absurd (omega (arith, word-within z y x low less, tetrahedron-rises (z + 1) c (omega (arith, before)), same))

-- a place tells its first candidate
place-plane : (z y x c b a : ℕ) → x ≤ y → y ≤ z → a ≤ b → b ≤ c → tetrahedron z + triangle y + x ≡ tetrahedron c + triangle b + a → z ≡ c
place-plane z y x c b a low less low' less' same = elim (cases_lt z c) [
  | inl before ↦ plane-apart z y x c b a (z ≡ c) low less before same
  | inr high ↦ elim (cases_lt c z) [
    | inl after ↦ plane-apart c b a z y x (z ≡ c) low' less' after (sym same)
    | inr most ↦ omega (arith, high, most)
  ]
]

-- ---- what is added

-- an amount for one place alone
abbrev pub alone : ℕ → ℕ → ℕ → ℕ → ℕ → ℕ → ℕ → ℕ
alone z y x c b a amount = cond (x == a) (cond (z == c) (cond (y == b) amount 0) 0) 0

alone-none : (z y x c b a amount : ℕ) → (tetrahedron z + triangle y + x ≡ tetrahedron c + triangle b + a → ⊥) → alone z y x c b a amount ≡ 0
alone-none z y x c b a amount other = elim (cases_eq x a) [
  | inr apart ↦ ap (λ b'. cond b' (cond (z == c) (cond (y == b) amount 0) 0) 0) (ne_eqb x a apart)
  | inl one ↦ elim (cases_eq z c) [
    | inr apart ↦ ap (λ b'. cond (x == a) (cond b' (cond (y == b) amount 0) 0) 0) (ne_eqb z c apart) ∙ nothing (x == a)
    | inl two ↦ elim (cases_eq y b) [
      | inr apart ↦ ap (λ b'. cond (x == a) (cond (z == c) (cond b' amount 0) 0) 0) (ne_eqb y b apart) ∙ nothing-two (x == a) (z == c)
      | inl three ↦ absurd (other (omega (arith, ap tetrahedron two, ap triangle three, one)))
    ]
  ]
]
  where
    nothing : (p : Bool) → cond p zero zero ≡ zero
    nothing true = refl
    nothing false = refl

    nothing-two : (p q : Bool) → cond p (cond q zero zero) zero ≡ zero
    nothing-two true q = nothing q
    nothing-two false q = refl

-- one word gets more
pub word-set : (table : List ℕ) (z y x c b a amount : ℕ) → x < y → y < z → a < b → b < c → tetrahedron (c + 1) ≤ length table
    → get_or (set table (tetrahedron c + triangle b + a) (get_or table (tetrahedron c + triangle b + a) 0 + amount)) (tetrahedron z + triangle y + x) 0
    ≡ get_or table (tetrahedron z + triangle y + x) 0 + alone z y x c b a amount
word-set table z y x c b a amount low less low' less' room = elim (cases_eq (tetrahedron z + triangle y + x) (tetrahedron c + triangle b + a)) [
  | inl same ↦
      let plane : z ≡ c = place-plane z y x c b a (omega (arith, low)) (omega (arith, less)) (omega (arith, low')) (omega (arith, less')) same in
      let rest : triangle y + x ≡ triangle b + a = omega (arith, same, ap tetrahedron plane) in
      let row : y ≡ b = place-row y x b a (omega (arith, low)) (omega (arith, low')) rest in
      let column : x ≡ a = omega (arith, rest, ap triangle row) in
      omega (
        arith,
        ap (λ n. get_or (set table (tetrahedron c + triangle b + a) (get_or table (tetrahedron c + triangle b + a) 0 + amount)) n 0) same,
        get_or-set_same table (tetrahedron c + triangle b + a) (get_or table (tetrahedron c + triangle b + a) 0 + amount) 0 (omega (arith, room, word-within c b a (omega (arith, low')) (omega (arith, less')))),
        ap (λ n. get_or table n 0) same,
        ap (λ p. cond p (cond (z == c) (cond (y == b) amount 0) 0) 0) (eq-eqb x a column),
        ap (λ p. cond p (cond (y == b) amount 0) 0) (eq-eqb z c plane),
        ap (λ p. cond p amount 0) (eq-eqb y b row),
      )
  | inr other ↦
      omega (
        arith,
        get_or-set_other table (tetrahedron c + triangle b + a) (tetrahedron z + triangle y + x) (get_or table (tetrahedron c + triangle b + a) 0 + amount) 0 other,
        alone-none z y x c b a amount other,
      )
]

-- ---- members before a number

pub upto-same : (members : List ℕ) (first x : ℕ) → x < first → has_member (members_upto members (first - 1)) x ≡ has_member members x
upto-same members first x low =
    has_member-filter (λ n. nat_le n (first - 1)) members x ∙ ap (λ b. b && has_member members x) (let few : x ≤ first - 1 = omega (arith, low) in le-leb x (first - 1) few)

pub upto-among : (members : List ℕ) (last x : ℕ) → has_member (members_upto members last) x ≡ true → has_member members x ≡ true
upto-among members last x is = (and-true (nat_le x last) (has_member members x) (sym (has_member-filter (λ n. nat_le n last) members x) ∙ is)).1

pub upto-before : (members : List ℕ) (first n : ℕ) → 1 ≤ first → has_member (members_upto members (first - 1)) n ≡ true → n < first
upto-before members first n some is =
    let low : n ≤ first - 1 = leb-true n (first - 1) (and-true (nat_le n (first - 1)) (has_member members n) (sym (has_member-filter (λ x. nat_le x (first - 1)) members n) ∙ is)).0 in
    omega (arith, low, some)

-- a set of one candidate
pub one-other : (one n : ℕ) → (one ≡ n → ⊥) → has_member (one ∷ []) n ≡ false
one-other one n other = ap (λ b. b || false) (ne_eqb one n other)

pub one-most : (one n : ℕ) → has_member (one ∷ []) n ≡ true → n ≤ one
one-most one n is = elim (cases_eq one n) [
  | inl same ↦ omega (arith, same)
  | inr other ↦ absurd (let e : true ≡ false = sym is ∙ one-other one n other in cc)
]

-- a candidate is up to itself, and so are those before it
pub own-and-before : (members : List ℕ) (first row column amount : ℕ) → 1 ≤ first → has_member members first ≡ true → column ≤ row
    → portion (row == first) (has_member (first ∷ []) column) amount + portion (row == first) (has_member (members_upto members (first - 1)) column) amount
    ≡ portion (row == first) (has_member (members_upto members first) column) amount
own-and-before members first row column amount some is low = elim (cases_eq row first) [
  | inr other ↦
      omega (
        arith,
        ap (λ b. portion b (has_member (first ∷ []) column) amount) (ne_eqb row first other),
        ap (λ b. portion b (has_member (members_upto members (first - 1)) column) amount) (ne_eqb row first other),
        ap (λ b. portion b (has_member (members_upto members first) column) amount) (ne_eqb row first other),
      )
  | inl same ↦
      omega (
        arith,
        ap (λ b. portion b (has_member (first ∷ []) column) amount) (eq-eqb row first same),
        ap (λ b. portion b (has_member (members_upto members (first - 1)) column) amount) (eq-eqb row first same),
        ap (λ b. portion b (has_member (members_upto members first) column) amount) (eq-eqb row first same),
        parts (cases_eq column first) (omega (arith, low, same)),
      )
]
  where
    own : (c : ℕ) → c ≡ first → has_member (first ∷ []) c ≡ true
    own c here = ap (λ b. b || false) (eq-eqb first c (sym here))

    parts : (column ≡ first) ⊎ (column ≡ first → ⊥) → column ≤ first
        → cond (has_member (first ∷ []) column) amount 0 + cond (has_member (members_upto members (first - 1)) column) amount 0 ≡ cond (has_member (members_upto members first) column) amount 0
    parts (inl here) few =
        let before : has_member (members_upto members (first - 1)) column ≡ false =
        has_member-filter (λ n. nat_le n (first - 1)) members column ∙ ap (λ b. b && has_member members column) (let high : first - 1 < column = omega (arith, here, some) in lt-leb column (first - 1) high) in
        let upto : has_member (members_upto members first) column ≡ true =
        has_member-filter (λ n. nat_le n first) members column ∙ ap (λ b. b && has_member members column) (le-leb column first few) ∙ ap (has_member members) here ∙ is in
        omega (arith, ap (λ b. cond b amount 0) (own column here), ap (λ b. cond b amount 0) before, ap (λ b. cond b amount 0) upto)
    parts (inr apart) few =
        let before = upto-same members first column (omega (arith, few, apart)) in
        let upto : has_member (members_upto members first) column ≡ has_member members column =
        has_member-filter (λ n. nat_le n first) members column ∙ ap (λ b. b && has_member members column) (le-leb column first few) in
        let other : has_member (first ∷ []) column ≡ false = ap (λ b. b || false) (ne_eqb first column (λ e. apart (sym e))) in
        omega (arith, ap (λ b. cond b amount 0) other, ap (λ b. cond b amount 0) before, ap (λ b. cond b amount 0) upto)

-- ---- steps of loops

module _ (left rest : List ℕ) (first : ℕ) (is : left ≡ first ∷ rest) (up : IsIncreasing 1 most_candidates left) where
  pub first-some : 1 ≤ first
  first-some = let at : IsIncreasing 1 most_candidates (first ∷ rest) = rw is at up in at.0

  -- the first of those who are left is done: with what is still to be added, the number is that at the end
  pub one-more : (k before after begun all w : ℕ) → after ≡ before + cond (k == first) w 0 → before + cond (has_member left k) w 0 ≡ begun + all → after + cond (has_member rest k) w 0 ≡ begun + all
  one-more k before after begun all w more made = elim (cases_eq k first) [
    | inl same ↦
        omega (
          arith,
          more,
          made,
          ap (λ b. cond b w 0) (eq-eqb k first same),
          ap (λ b. cond b w 0) (ap (has_member left) same ∙ first-in left rest first is up),
          ap (λ b. cond b w 0) (ap (has_member rest) same ∙ first-gone left rest first is up),
        )
    | inr other ↦ omega (arith, more, made, ap (λ b. cond b w 0) (ne_eqb k first other), ap (λ b. cond b w 0) (others-same left rest first is up k other))
  ]

  -- the number of the first is as it was at the beginning
  pub one-low : (before begun all w : ℕ) → all ≤ w → before + cond (has_member left first) w 0 ≡ begun + all → before ≤ begun
  one-low before begun all w most made = omega (arith, most, made, ap (λ b. cond b w 0) (first-in left rest first is up))

  -- the members before the first
  below-same : (members : List ℕ) (x y : ℕ) → x < y → y ≡ first → has_member (members_upto members (first - 1)) x ≡ has_member members x
  below-same members x y low same = upto-same members first x (omega (arith, low, same))

  -- a row of a plane
  pub row-part : (members : List ℕ) (z y x c amount : ℕ) → x < y
      → cond (has_member (members_upto members (first - 1)) x) (cond (z == c) (cond (y == first) amount 0) 0) 0 ≡ cond (y == first) (cond (z == c) (cond (has_member members x) amount 0) 0) 0
  row-part members z y x c amount low = elim (cases_eq y first) [
    | inl same ↦
        ap (λ b. cond b (cond (z == c) (cond (y == first) amount 0) 0) 0) (below-same members x y low same)
        ∙ ap (λ b. cond (has_member members x) (cond (z == c) (cond b amount 0) 0) 0) (eq-eqb y first same)
        ∙ turned (has_member members x) (z == c)
        ∙ sym (ap (λ b. cond b (cond (z == c) (cond (has_member members x) amount 0) 0) 0) (eq-eqb y first same))
    | inr other ↦
        ap (λ b. cond (has_member (members_upto members (first - 1)) x) (cond (z == c) (cond b amount 0) 0) 0) (ne_eqb y first other)
        ∙ nothing (has_member (members_upto members (first - 1)) x) (z == c)
        ∙ sym (ap (λ b. cond b (cond (z == c) (cond (has_member members x) amount 0) 0) 0) (ne_eqb y first other))
  ]
    where
      turned : (p q : Bool) → cond p (cond q amount 0) 0 ≡ cond q (cond p amount 0) 0
      turned true true = refl
      turned true false = refl
      turned false true = refl
      turned false false = refl

      nothing : (p q : Bool) → cond p (cond q zero zero) zero ≡ zero
      nothing true true = refl
      nothing true false = refl
      nothing false q = refl

  -- a plane
  pub plane-part : (members : List ℕ) (z y x amount : ℕ) → x < y → y < z
      → cond (has_member (members_upto members (first - 1)) y) (cond (z == first) (cond (has_member (members_upto members (first - 1)) x) amount 0) 0) 0
      ≡ cond (z == first) (cond (has_member members y) (cond (has_member members x) amount 0) 0) 0
  plane-part members z y x amount low less = elim (cases_eq z first) [
    | inl same ↦
        ap (λ b. cond b (cond (z == first) (cond (has_member (members_upto members (first - 1)) x) amount 0) 0) 0) (below-same members y z less same)
        ∙ ap (λ b. cond (has_member members y) (cond (z == first) (cond b amount 0) 0) 0) (below-same members x z (omega (arith, low, less)) same)
        ∙ ap (λ b. cond (has_member members y) (cond b (cond (has_member members x) amount 0) 0) 0) (eq-eqb z first same)
        ∙ sym (ap (λ b. cond b (cond (has_member members y) (cond (has_member members x) amount 0) 0) 0) (eq-eqb z first same))
    | inr other ↦
        ap (λ b. cond (has_member (members_upto members (first - 1)) y) (cond b (cond (has_member (members_upto members (first - 1)) x) amount 0) 0) 0) (ne_eqb z first other)
        ∙ nothing (has_member (members_upto members (first - 1)) y)
        ∙ sym (ap (λ b. cond b (cond (has_member members y) (cond (has_member members x) amount 0) 0) 0) (ne_eqb z first other))
  ]
    where
      nothing : (p : Bool) → cond p zero zero ≡ zero
      nothing true = refl
      nothing false = refl

pub cond-most : (p : Bool) (n : ℕ) → cond p n 0 ≤ n
cond-most true n = omega arith
cond-most false n = omega arith
