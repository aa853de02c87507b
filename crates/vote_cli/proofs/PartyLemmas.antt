-- The votes of parties, as rows are counted one after the other.
use Rattle.std.proofs.Common.{◌≡◌, ℕ, ◌+◌, ◌-◌, ◌<◌, ◌≤◌, ◌∙◌, Bool, true, false, cond, List, [], ◌∷◌, ◌++◌, Some, refl, sym, subst, ap, ap₂, arith, inl, inr, length, length-set, map, filter, take, get_or, set, slice_get, drop, replicate, take-append-drop}
use Rattle.std.specs.Prelude.{nat_lt, not, ◌||◌}
use Rattle.std.specs.List.{list_any, range_with_len}
use Rattle.std.proofs.lemmas.Bool.{cases_eq, eq-eqb, ne_eqb, lt-ltb, le-ltb, or_left, or_right}
use Rattle.std.proofs.lemmas.List.{ext_get_or, get_or-set_same, get_or-set_other}
use Rattle.std.proofs.lemmas.List.Elements.{filter_more}
use Rattle.std.proofs.lemmas.List.Filters.{sum_by-filter_both}
use Rattle.std.proofs.lemmas.List.Folds.{list_any_more, list_any-append}
use Rattle.std.proofs.lemmas.List.FromFn.{length-map-range_with_len, get_or-map-range_with_len, take-map-range_with_len}
use Rattle.std.proofs.lemmas.List.Sums.{sum_by-append, sum_by-cons, sum_by_more_le}
use Rattle.std.proofs.lemmas.Option.{get_or_from_slice_get, slice_get_within}
use Rattle.ballot_base.specs.CandSet.{has_member}
use Rattle.ballot_base.specs.Limits.{most_candidates}
use Rattle.ballot_base.specs.Lists.{IsIncreasing}
use Rattle.ballot_base.specs.Ballots.{Election, IsElection, Row, voter_count}
use Rattle.tie_walk.proofs.Distances.{ballot-found}
use Rattle.vote_cli.specs.Parties.{approvals_of}

-- the voters of a row who approve a candidate
abbrev voters_for : Row → ℕ → ℕ
voters_for row candidate = cond (has_member row.0 candidate) row.1 0

-- a row more
pub approvals_of-more : (rows : List Row) (i : ℕ) (row : Row) (candidate : ℕ) → slice_get rows i ≡ Some row
    → approvals_of (take (i + 1) rows) candidate ≡ approvals_of (take i rows) candidate + voters_for row candidate
approvals_of-more rows i row candidate found =
    let approves : Row → Bool = λ r. has_member r.0 candidate in
    let here : get_or rows i row ≡ row = get_or_from_slice_get rows i row row found in
    let within : i < length rows = slice_get_within rows i row found in
    let kept : filter approves (take (i + 1) rows) ≡ filter approves (take i rows) ++ cond (approves row) (row ∷ []) [] =
    filter_more approves rows i row within ∙ ap (λ r. filter approves (take i rows) ++ cond (approves r) (r ∷ []) []) here in
    ap voter_count kept
    ∙ sum_by-append (λ (r : Row). r.1) (filter approves (take i rows)) (cond (approves row) (row ∷ []) [])
    ∙ ap (λ n. approvals_of (take i rows) candidate + n) (alone (approves row))
  where
    alone : (b : Bool) → voter_count (cond b (row ∷ []) []) ≡ cond b row.1 0
    alone true = omega (arith, sum_by-cons (λ (r : Row). r.1) row [])
    alone false = refl

-- the tests of rows, one row more
pub single-more : (rows : List Row) (i : ℕ) (row : Row) → slice_get rows i ≡ Some row → length row.0 ≤ 1
    → list_any (λ (r : Row). nat_lt 1 (length r.0)) (take i rows) ≡ false → list_any (λ (r : Row). nat_lt 1 (length r.0)) (take (i + 1) rows) ≡ false
single-more rows i row found few none =
    let many : Row → Bool = λ r. nat_lt 1 (length r.0) in
    let here : get_or rows i row ≡ row = get_or_from_slice_get rows i row row found in
    list_any_more many rows i row (slice_get_within rows i row found)
    ∙ ap₂ (λ a b. a || b) none (ap many here ∙ le-ltb 1 (length row.0) few)

-- a row that approves many is one of all
pub many-found : (rows : List Row) (i : ℕ) (row : Row) → slice_get rows i ≡ Some row → 1 < length row.0
    → list_any (λ (r : Row). nat_lt 1 (length r.0)) rows ≡ true
many-found rows i row found more =
    let many : Row → Bool = λ r. nat_lt 1 (length r.0) in
    let here : get_or rows i row ≡ row = get_or_from_slice_get rows i row row found in
    let so_far : list_any many (take (i + 1) rows) ≡ true =
    list_any_more many rows i row (slice_get_within rows i row found)
    ∙ or_right (list_any many (take i rows)) (many (get_or rows i row)) (ap many here ∙ lt-ltb 1 (length row.0) more) in
    ap (list_any many) (sym (take-append-drop (i + 1) rows))
    ∙ list_any-append many (take (i + 1) rows) (drop (i + 1) rows)
    ∙ or_left (list_any many (take (i + 1) rows)) (list_any many (drop (i + 1) rows)) so_far

-- ---- the votes of as many parties as there may be candidates
unfoldable pub tallies : List Row → List ℕ
tallies rows = map (approvals_of rows) (range_with_len 1 most_candidates)

pub tallies-none : (rows : List Row) → tallies (take 0 rows) ≡ replicate most_candidates 0
unfolding tallies
tallies-none rows = refl

-- those of the first parties
pub tallies-first : (rows : List Row) (m : ℕ) → m ≤ most_candidates → take m (tallies rows) ≡ map (approvals_of rows) (range_with_len 1 m)
unfolding tallies
tallies-first rows m few = take-map-range_with_len (approvals_of rows) 1 most_candidates m few

pub tallies-length : (rows : List Row) → length (tallies rows) ≡ most_candidates
unfolding tallies
tallies-length rows = length-map-range_with_len (approvals_of rows) 1 most_candidates

pub tallies-at : (rows : List Row) (i : ℕ) → i < most_candidates → get_or (tallies rows) i 0 ≡ approvals_of rows (i + 1)
unfolding tallies
tallies-at rows i few = get_or-map-range_with_len (approvals_of rows) 1 most_candidates i (i + 1) 0 few (omega arith)

-- a candidate has no more voters than there are
filter-most : (p : Row → Bool) (rows : List Row) → voter_count (filter p rows) ≤ voter_count rows
filter-most p rows = omega (arith, sum_by-filter_both p (λ row. not (p row)) (λ row. refl) (λ (r : Row). r.1) rows)

-- the votes so far and the next row's voters
pub tallies-bound : (rows : List Row) (i : ℕ) (row : Row) (at : ℕ) → slice_get rows i ≡ Some row → at < most_candidates
    → get_or (tallies (take i rows)) at 0 + row.1 ≤ voter_count rows
tallies-bound rows i row at found within =
    let here : get_or rows i row ≡ row = get_or_from_slice_get rows i row row found in
    let part = rw here at (sum_by_more_le (λ (r : Row). r.1) rows i row (slice_get_within rows i row found)) in
    omega (arith, part, tallies-at (take i rows) at within, filter-most (λ r. has_member r.0 (at + 1)) (take i rows))

-- an empty ballot counts for none
pub tallies-empty : (rows : List Row) (i : ℕ) (row : Row) → slice_get rows i ≡ Some row → row.0 ≡ [] → tallies (take i rows) ≡ tallies (take (i + 1) rows)
tallies-empty rows i row found none =
    ext_get_or 0 _ _ (tallies-length (take i rows) ∙ sym (tallies-length (take (i + 1) rows)))
    (λ k low.
    let within : k < most_candidates = omega (arith, low, tallies-length (take i rows)) in
    let nobody : voters_for row (k + 1) ≡ 0 = ap (λ b. cond (has_member b (k + 1)) row.1 0) none in
    omega (arith, tallies-at (take i rows) k within, tallies-at (take (i + 1) rows) k within, approvals_of-more rows i row (k + 1) found, nobody))

-- and a ballot for one counts for that one
pub tallies-one : (rows : List Row) (i : ℕ) (row : Row) (party : ℕ) → slice_get rows i ≡ Some row → row.0 ≡ party ∷ [] → 1 ≤ party → party ≤ most_candidates
    → set (tallies (take i rows)) (party - 1) (get_or (tallies (take i rows)) (party - 1) 0 + row.1) ≡ tallies (take (i + 1) rows)
tallies-one rows i row party found one low high =
    let before : List ℕ = tallies (take i rows) in
    let sum : ℕ = get_or before (party - 1) 0 + row.1 in
    let long : length (set before (party - 1) sum) ≡ most_candidates = length-set before (party - 1) sum ∙ tallies-length (take i rows) in
    ext_get_or 0 _ _ (long ∙ sym (tallies-length (take (i + 1) rows)))
    (λ k less.
    let within : k < most_candidates = omega (arith, less, long) in
    let more = approvals_of-more rows i row (k + 1) found in
    let after = tallies-at (take (i + 1) rows) k within in
    let so_far = tallies-at (take i rows) k within in
    elim (cases_eq k (party - 1)) [
      | inl same ↦
          let voters : voters_for row (k + 1) ≡ row.1 =
          ap (λ b. cond (has_member b (k + 1)) row.1 0) one ∙ ap (λ b. cond (b || false) row.1 0) (eq-eqb party (k + 1) (omega (arith, same, low))) in
          let new : get_or (set before (party - 1) sum) k 0 ≡ sum =
          ap (λ n. get_or (set before (party - 1) sum) n 0) same ∙ get_or-set_same before (party - 1) sum 0 (omega (arith, high, low, tallies-length (take i rows))) in
          let old : get_or before k 0 ≡ get_or before (party - 1) 0 = ap (λ n. get_or before n 0) same in
          omega (arith, new, old, so_far, after, more, voters)
      | inr other ↦
          let voters : voters_for row (k + 1) ≡ 0 =
          ap (λ b. cond (has_member b (k + 1)) row.1 0) one ∙ ap (λ b. cond (b || false) row.1 0) (ne_eqb party (k + 1) (λ e. other (omega (arith, e)))) in
          omega (arith, get_or-set_other before (party - 1) k sum 0 other, so_far, after, more, voters)
    ])

-- a ballot with a member and no second one
pub alone : (ballot others : List ℕ) (first : ℕ) → ballot ≡ first ∷ others → length ballot ≤ 1 → ballot ≡ first ∷ []
alone ballot [] first parts few = parts
alone ballot (next ∷ others) first parts few = absurd (omega (arith, few, ap length parts))

-- the first candidate of a ballot is one that there may be
pub first_within : (e : Election) (i : ℕ) (row : Row) (others : List ℕ) (first : ℕ) → IsElection e → slice_get e.rows i ≡ Some row
    → row.0 ≡ first ∷ others → (1 ≤ first) × (first ≤ most_candidates)
first_within e i row others first valid found parts =
    let same : IsIncreasing 1 e.m (first ∷ others) = subst (IsIncreasing 1 e.m) parts (ballot-found e.m e.rows i row valid.ballots found) in
    (same.0, omega (arith, same.1, valid.most))
