-- How many voters support a violation.
use Rattle.std.proofs.Common.{◌≡◌, ℕ, ◌+◌, ◌<◌, ◌≤◌, ◌^◌, Bool, true, false, cond, List, [], ◌∷◌, Some, refl, ap, arith, length, take, get_or, slice_get, sum_by, sum}
use Rattle.std.proofs.lemmas.List.Sums.{sum_by-cons, sum_by_more, sum_by_more_le}
use Rattle.std.proofs.lemmas.Option.{get_or_from_slice_get, slice_get_within}
use Rattle.ballot_base.specs.Ballots.{Row, Election, IsElection, voter_count}
use Rattle.group_check.specs.Report.{group_of}
use Rattle.group_check.proofs.GroupLemmas.{at_most}

-- a row's voters, where its ballot passes
abbrev pub votes_passing : (List ℕ → Bool) → Row → ℕ
votes_passing test row = cond (test row.0) row.1 0

-- a test that each ballot passes
abbrev pub everyone : List ℕ → Bool
everyone ballot = true

pub sum-votes-le : (test : List ℕ → Bool) (rows : List Row) → sum_by (votes_passing test) rows ≤ voter_count rows
sum-votes-le test [] = omega arith
sum-votes-le test (row ∷ rows) =
    omega (arith, sum_by-cons (votes_passing test) row rows, sum_by-cons (λ (r : Row). r.1) row rows, at_most (test row.0) row.1, sum-votes-le test rows)

pub sum-group_of : (test : List ℕ → Bool) (rows : List Row) → sum (group_of test rows) ≡ sum_by (votes_passing test) rows
sum-group_of test [] = refl
sum-group_of test (row ∷ rows) =
    omega (arith, sum_by-cons (λ (x : ℕ). x) (votes_passing test row) (group_of test rows), sum_by-cons (votes_passing test) row rows, sum-group_of test rows)

-- a sum over one row more
pub sum-more : (f : Row → ℕ) (rows : List Row) (i : ℕ) (row : Row) → slice_get rows i ≡ Some row → sum_by f (take (i + 1) rows) ≡ sum_by f (take i rows) + f row
sum-more f rows i row found =
    let here : get_or rows i row ≡ row = get_or_from_slice_get rows i row row found in
    let within : i < length rows = slice_get_within rows i row found in
    rw here at (sum_by_more f rows i row within)

pub votes-more : (test : List ℕ → Bool) (rows : List Row) (i : ℕ) (row : Row) → slice_get rows i ≡ Some row
    → sum_by (votes_passing test) (take (i + 1) rows) ≡ sum_by (votes_passing test) (take i rows) + votes_passing test row
votes-more test rows i row found = sum-more (votes_passing test) rows i row found

pub votes-bound : (test : List ℕ → Bool) (e : Election) (i : ℕ) (row : Row) → IsElection e → slice_get e.rows i ≡ Some row
    → sum_by (votes_passing test) (take i e.rows) + votes_passing test row ≤ 2 ^ 32
votes-bound test e i row valid found =
    let here : get_or e.rows i row ≡ row = get_or_from_slice_get e.rows i row row found in
    let within : i < length e.rows = slice_get_within e.rows i row found in
    let most = rw here at (sum_by_more_le (votes_passing test) e.rows i row within) in
    omega (arith, most, sum-votes-le test e.rows, valid.voters)

-- ---- a row that passes, and one that fails

pub votes-yes : (test : List ℕ → Bool) (row : Row) → test row.0 ≡ true → votes_passing test row ≡ row.1
votes-yes test row e = ap (λ b. cond b row.1 0) e

pub votes-none : (test : List ℕ → Bool) (row : Row) → test row.0 ≡ false → votes_passing test row ≡ 0
votes-none test row e = ap (λ b. cond b row.1 0) e

-- no more than all
pub at-most-all : (b : Bool) (n : ℕ) → cond b n 0 ≤ n
at-most-all b n = at_most b n
