-- Elections by party lists: the rows, and what is summed over them.
use Rattle.std.proofs.Common.{◌≡◌, ℕ, ◌+◌, ◌*◌, ◌≤◌, ◌∙◌, ◌⊎◌, Bool, true, false, cond, List, [], ◌∷◌, refl, sym, ap, arith, inl, inr, subst, sum_by}
use Rattle.std.specs.Prelude.{count_by}
use Rattle.std.specs.List.{list_all, AllByRecursion}
use Rattle.std.proofs.lemmas.Bool.{and_from, and_parts}
use Rattle.std.proofs.lemmas.List.Sums.{sum_by-cons}
use Rattle.ballot_base.specs.CandSet.{has_member}
use Rattle.ballot_base.specs.Ballots.{Row, hits}
use Rattle.ballot_base.specs.Lists.{IsIncreasing}
use Rattle.field_laws.proofs.Exchanges.{hits-turned}
use Rattle.field_laws.proofs.Losses.{sum-none}

-- the row is one of these
abbrev pub Among : List Row → Row → Type 0
Among [] row = ⊥
Among (first ∷ rows) row = (first ≡ row) ⊎ Among rows row

-- what holds of each holds of all
pub all-among : (p : Row → Bool) (rows : List Row) → ((row : Row) → Among rows row → p row ≡ true) → list_all p rows ≡ true
all-among p [] each = refl
all-among p (row ∷ rows) each = and_from (p row) (list_all p rows) (each row (inl refl)) (all-among p rows (λ other inside. each other (inr inside)))

-- and the other way
pub among-all : (p : Row → Bool) (rows : List Row) (row : Row) → list_all p rows ≡ true → Among rows row → p row ≡ true
among-all p [] row all inside = absurd inside
among-all p (first ∷ rows) row all (inl is) = subst (λ r. p r ≡ true) is (and_parts (p first) (list_all p rows) all).0
among-all p (first ∷ rows) row all (inr inside) = among-all p rows row (and_parts (p first) (list_all p rows) all).1 inside

-- the same of propositions
pub among-each : (P : Row → Type 0) (rows : List Row) (row : Row) → AllByRecursion P rows → Among rows row → P row
among-each P [] row all inside = absurd inside
among-each P (first ∷ rows) row all (inl is) = subst P is all.0
among-each P (first ∷ rows) row all (inr inside) = among-each P rows row all.1 inside

-- how many rows have the candidate
abbrev pub lists_with : ℕ → List Row → ℕ
lists_with c rows = count_by (λ (row : Row). has_member row.0 c) rows

pub lists-cons : (c : ℕ) (row : Row) (rows : List Row) → lists_with c (row ∷ rows) ≡ cond (has_member row.0 c) 1 0 + lists_with c rows
lists-cons c row rows = sum_by-cons (λ (r : Row). cond (has_member r.0 c) 1 0) row rows

-- a row that has the candidate counts
pub some-list : (c : ℕ) (rows : List Row) (row : Row) → Among rows row → has_member row.0 c ≡ true → 1 ≤ lists_with c rows
some-list c [] row inside has = absurd inside
some-list c (first ∷ rows) row (inl is) has =
    let here = ap (λ b. cond {A = ℕ} b 1 0) (ap (λ (r : Row). has_member r.0 c) is ∙ has) in
    omega (arith, here, lists-cons c first rows)
some-list c (first ∷ rows) row (inr inside) has = omega (arith, some-list c rows row inside has, lists-cons c first rows)

-- two rows that have the same candidate are one, if nobody is on two lists
pub same-list : (c : ℕ) (rows : List Row) (one other : Row) → lists_with c rows ≤ 1 → Among rows one → Among rows other → has_member one.0 c ≡ true → has_member other.0 c ≡ true → one ≡ other
same-list c [] one other apart inside also has has' = absurd inside
same-list c (first ∷ rows) one other apart (inl is) (inl is') has has' = sym is ∙ is'
same-list c (first ∷ rows) one other apart (inl is) (inr also) has has' =
    let here = ap (λ b. cond {A = ℕ} b 1 0) (ap (λ (r : Row). has_member r.0 c) is ∙ has) in
    absurd (omega (arith, apart, here, lists-cons c first rows, some-list c rows other also has'))
same-list c (first ∷ rows) one other apart (inr inside) (inl is) has has' =
    let here = ap (λ b. cond {A = ℕ} b 1 0) (ap (λ (r : Row). has_member r.0 c) is ∙ has') in
    absurd (omega (arith, apart, here, lists-cons c first rows, some-list c rows one inside has))
same-list c (first ∷ rows) one other apart (inr inside) (inr also) has has' =
    same-list c rows one other (omega (arith, apart, lists-cons c first rows)) inside also has has'

module _ (c : ℕ) (f : Row → ℕ) where
  -- what the voters of the rows with the candidate give
  abbrev given : List Row → ℕ
  given rows = sum_by (λ (row : Row). row.1 * cond (has_member row.0 c) (f row) 0) rows

  given-cons : (row : Row) (rows : List Row) → given (row ∷ rows) ≡ row.1 * cond (has_member row.0 c) (f row) 0 + given rows
  given-cons row rows = sum_by-cons (λ (r : Row). r.1 * cond (has_member r.0 c) (f r) 0) row rows

  -- nothing, if no row has the candidate
  pub given-none : (rows : List Row) → lists_with c rows ≡ 0 → given rows ≡ 0
  given-none [] none = refl
  given-none (row ∷ rows) none = by (has_member row.0 c) refl (given-none rows (omega (arith, none, lists-cons c row rows)))
    where
      by : (b : Bool) → has_member row.0 c ≡ b → given rows ≡ 0 → given (row ∷ rows) ≡ 0
      by true is rest = absurd (omega (arith, none, lists-cons c row rows, ap (λ b. cond {A = ℕ} b 1 0) is))
      by false is rest = omega (arith, ap (λ b. row.1 * cond b (f row) 0) is, given-cons row rows, rest)

  -- what those of the one row give
  pub given-once : (rows : List Row) (row : Row) → lists_with c rows ≤ 1 → Among rows row → has_member row.0 c ≡ true → given rows ≡ row.1 * f row
  given-once [] row apart inside has = absurd inside
  given-once (first ∷ rows) row apart (inl is) has =
      let member : has_member first.0 c ≡ true = ap (λ (r : Row). has_member r.0 c) is ∙ has in
      omega (
        arith,
        given-cons first rows,
        ap (λ b. first.1 * cond b (f first) 0) member,
        ap (λ (r : Row). r.1 * f r) is,
        given-none rows (omega (arith, apart, lists-cons c first rows, ap (λ b. cond {A = ℕ} b 1 0) member)),
      )
  given-once (first ∷ rows) row apart (inr inside) has =
      by (has_member first.0 c) refl (given-once rows row (omega (arith, apart, lists-cons c first rows)) inside has)
    where
      by : (b : Bool) → has_member first.0 c ≡ b → given rows ≡ row.1 * f row → given (first ∷ rows) ≡ row.1 * f row
      by true is rest = absurd (omega (arith, apart, lists-cons c first rows, ap (λ b. cond {A = ℕ} b 1 0) is, some-list c rows row inside has))
      by false is rest = omega (arith, given-cons first rows, ap (λ b. first.1 * cond b (f first) 0) is, rest)

-- ---- hits and members

-- the hits of all rows, counted by members: each list with a member hits once
pub hits-together : (m : ℕ) (rows : List Row) (set : List ℕ) → AllByRecursion (λ (row : Row). IsIncreasing 1 m row.0) rows → IsIncreasing 1 m set
    → sum_by (λ (row : Row). hits row.0 set) rows ≡ sum_by (λ c. lists_with c rows) set
hits-together m [] set all up = sym (sum-none set)
hits-together m (row ∷ rows) set all up =
    omega (
      arith,
      sum_by-cons (λ (r : Row). hits r.0 set) row rows,
      hits-turned 1 m row.0 set all.0 up,
      hits-together m rows set all.1 up,
      members set,
    )
  where
    members : (xs : List ℕ) → sum_by (λ c. lists_with c (row ∷ rows)) xs ≡ count_by (has_member row.0) xs + sum_by (λ c. lists_with c rows) xs
    members [] = refl
    members (x ∷ xs) =
        omega (
          arith,
          lists-cons x row rows,
          sum_by-cons (λ c. lists_with c (row ∷ rows)) x xs,
          sum_by-cons (λ c. lists_with c rows) x xs,
          sum_by-cons (λ c. cond (has_member row.0 c) 1 0) x xs,
          members xs,
        )
