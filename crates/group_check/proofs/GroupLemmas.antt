-- Some group breaks a property exactly where the whole group of some T and U does.
use Rattle.std.proofs.Common.{◌≡◌, ℕ, zero, suc, ◌+◌, ◌<◌, ◌≤◌, ◌==◌, ◌||◌, Bool, true, false, cond, List, [], ◌∷◌, refl, sym, ap, ◌∙◌, arith, inl, inr, length, take, sum}
use Rattle.std.specs.List.{list_all, list_any, range_with_len}
use Rattle.std.proofs.lemmas.Bool.{and_from, and_parts, or_left, eqb-true, cases_eq, or_right}
use Rattle.std.proofs.lemmas.List.{length-take-le}
use Rattle.std.proofs.lemmas.List.Sums.{sum_by-cons}
use Rattle.ballot_base.specs.Lists.{IsIncreasing}
use Rattle.ballot_base.specs.CandSet.{has_member, common_members, includes}
use Rattle.ballot_base.specs.Ballots.{Row}
use Rattle.ballot_base.proofs.Committees.{IsIncreasing-range}
use Rattle.ballot_base.proofs.Increasing.{IsIncreasing-filter, has_member-filter, has_member_head, has_member_tail}
use Rattle.group_check.specs.Groups.{IsGroup, member_ballots, common_candidates, represented}
use Rattle.group_check.specs.Report.{group_of}
use Rattle.group_check.specs.Steps.Checking.{IsChoice}
use Rattle.group_check.proofs.TestLemmas.{list_all-filter, list_all-take, list_all-swap, list_all-weaker, both_at}
use Rattle.group_check.proofs.SetLemmas.{passes_at, all_pass, length-within, length-passing, IsIncreasing-take}

-- ---- the group of all voters whose ballots pass a test

pub at_most : (b : Bool) (n : ℕ) → cond b n 0 ≤ n
at_most true n = omega arith
at_most false n = omega arith

pub group_of-group : (test : List ℕ → Bool) (rows : List Row) → IsGroup rows (group_of test rows)
group_of-group test [] = tt
group_of-group test (row ∷ rows) = (at_most (test row.0) row.1, group_of-group test rows)

pub group_of-pass : (test : List ℕ → Bool) (rows : List Row) → list_all test (member_ballots rows (group_of test rows)) ≡ true
group_of-pass test [] = refl
group_of-pass test (row ∷ rows) = cases (test row.0) refl row.1 (group_of-pass test rows)
  where
    cases : (b : Bool) → test row.0 ≡ b → (n : ℕ) → list_all test (member_ballots rows (group_of test rows)) ≡ true → list_all test (member_ballots (row ∷ rows) (cond b n 0 ∷ group_of test rows)) ≡ true
    cases true e zero more = more
    cases true e (suc n) more = and_from (test row.0) (list_all test (member_ballots rows (group_of test rows))) e more
    cases false e n more = more

-- it is the largest group whose ballots pass
pub group-le : (test : List ℕ → Bool) (rows : List Row) (group : List ℕ) → IsGroup rows group → list_all test (member_ballots rows group) ≡ true → sum group ≤ sum (group_of test rows)
group-le test [] [] g h = omega arith
group-le test [] (n ∷ group) g h = absurd g
group-le test (row ∷ rows) [] g h = absurd g
group-le test (row ∷ rows) (zero ∷ group) g h =
    omega (arith, sum_by-cons (λ (x : ℕ). x) 0 group, sum_by-cons (λ (x : ℕ). x) (cond (test row.0) row.1 0) (group_of test rows), group-le test rows group g.1 h)
group-le test (row ∷ rows) (suc n ∷ group) g h =
    let parts = and_parts (test row.0) (list_all test (member_ballots rows group)) h in
    let more = group-le test rows group g.1 parts.1 in
    let all : cond (test row.0) row.1 0 ≡ row.1 = ap (λ b. cond b row.1 0) parts.0 in
    omega (arith, sum_by-cons (λ (x : ℕ). x) (suc n) group, sum_by-cons (λ (x : ℕ). x) (cond (test row.0) row.1 0) (group_of test rows), more, all, g.0)

-- ---- numbers of a range

pub has_member-range : (first count n : ℕ) → first ≤ n → n < first + count → has_member (range_with_len first count) n ≡ true
has_member-range first zero n low high = absurd (omega arith)
has_member-range first (suc count) n low high =
    elim (cases_eq first n) [
      | inl same ↦ ap (has_member (range_with_len first (suc count))) (sym same) ∙ has_member_head first (range_with_len (first + 1) count)
      | inr other ↦ has_member_tail first n (range_with_len (first + 1) count) other ∙ has_member-range (first + 1) count n (omega (arith, other)) (omega arith)
    ]

range_bounds : (first count n : ℕ) → has_member (range_with_len first count) n ≡ true → (first ≤ n) × (n < first + count)
range_bounds first zero n h = cc
range_bounds first (suc count) n h = cases (first == n) refl (λ later. range_bounds (first + 1) count n later) h
  where
    cases : (b : Bool) → (first == n) ≡ b → (has_member (range_with_len (first + 1) count) n ≡ true → (first + 1 ≤ n) × (n < first + 1 + count))
        → (b || has_member (range_with_len (first + 1) count) n) ≡ true → (first ≤ n) × (n < first + suc count)
    cases true e later h = let same = eqb-true first n e in (omega (arith, same), omega (arith, same))
    cases false e later h = let more = later h in (omega (arith, more.0), omega (arith, more.1))

-- ---- candidates in common

pub shared_of : (m level : ℕ) (ballots : List (List ℕ)) → level ≤ length (common_candidates m ballots) → (shared : List ℕ) × IsChoice m level shared × (list_all (λ ballot. includes ballot shared) ballots ≡ true)
shared_of m level ballots many =
    let p = λ (c : ℕ). list_all (λ ballot. has_member ballot c) ballots in (
      take level (common_candidates m ballots),
      (
        IsIncreasing-take 1 m level (common_candidates m ballots) (IsIncreasing-filter p 1 m (range_with_len 1 m) (IsIncreasing-range 1 m m (omega arith))),
        length-take-le level (common_candidates m ballots) many,
      ),
      list_all-swap (λ c ballot. has_member ballot c) (take level (common_candidates m ballots)) ballots (list_all-take p level (common_candidates m ballots) (list_all-filter p (range_with_len 1 m))),
    )

pub all_agree : (m level : ℕ) (ballots : List (List ℕ)) (shared : List ℕ) → IsChoice m level shared → list_all (λ ballot. includes ballot shared) ballots ≡ true → level ≤ length (common_candidates m ballots)
all_agree m level ballots shared choice all =
    let each = list_all-swap (λ ballot c. has_member ballot c) ballots shared all in
    let few = length-passing (λ c. list_all (λ ballot. has_member ballot c) ballots) m 1 m shared (omega arith) choice.0 each in
    omega (arith, few, choice.1)

-- ---- a candidate in common that passes a test

pub any_at : (q : ℕ → Bool) (set : List ℕ) (n : ℕ) → has_member set n ≡ true → q n ≡ true → list_any q set ≡ true
any_at q [] n h k = cc
any_at q (x ∷ xs) n h k = cases (x == n) refl (λ later. any_at q xs n later k) h
  where
    cases : (b : Bool) → (x == n) ≡ b → (has_member xs n ≡ true → list_any q xs ≡ true) → (b || has_member xs n) ≡ true → (q x || list_any q xs) ≡ true
    cases true e later h = or_left (q x) (list_any q xs) (ap q (eqb-true x n e) ∙ k)
    cases false e later h = or_right (q x) (list_any q xs) (later h)

member_at : (q : ℕ → Bool) (set : List ℕ) → list_any q set ≡ true → (n : ℕ) × (has_member set n ≡ true) × (q n ≡ true)
member_at q [] h = cc
member_at q (x ∷ xs) h = cases (q x) refl (λ later. member_at q xs later) h
  where
    cases : (b : Bool) → q x ≡ b → (list_any q xs ≡ true → (n : ℕ) × (has_member xs n ≡ true) × (q n ≡ true)) → (b || list_any q xs) ≡ true
        → (n : ℕ) × (has_member (x ∷ xs) n ≡ true) × (q n ≡ true)
    cases true e later h = (x, has_member_head x xs, e)
    cases false e later h = let more = later h in (more.0, or_right (x == more.0) (has_member xs more.0) more.1, more.2)

-- the candidates of T that pass are in common
pub some_outside : (m : ℕ) (q : ℕ → Bool) (ballots : List (List ℕ)) (shared : List ℕ) → IsChoice m 1 shared → list_all q shared ≡ true
    → list_all (λ ballot. includes ballot shared) ballots ≡ true → list_any q (common_candidates m ballots) ≡ true
some_outside m q ballots [] choice pass all = absurd (omega (arith, choice.1))
some_outside m q ballots (c ∷ rest) choice pass all =
    let p = λ (n : ℕ). list_all (λ ballot. has_member ballot n) ballots in
    let each = list_all-swap (λ ballot n. has_member ballot n) ballots (c ∷ rest) all in
    let here : p c ≡ true = (and_parts (p c) (list_all p rest) each).0 in
    let inside = has_member-range 1 m c choice.0.0 (omega (arith, choice.0.1)) in
    any_at q (common_candidates m ballots) c
    (has_member-filter p (range_with_len 1 m) c ∙ and_from (p c) (has_member (range_with_len 1 m) c) here inside)
    (and_parts (q c) (list_all q rest) pass).0

-- a candidate in common that passes, alone
pub outside_of : (m : ℕ) (q : ℕ → Bool) (ballots : List (List ℕ)) → list_any q (common_candidates m ballots) ≡ true
    → (c : ℕ) × IsChoice m 1 (c ∷ []) × (q c ≡ true) × (list_all (λ ballot. includes ballot (c ∷ [])) ballots ≡ true)
outside_of m q ballots some =
    let p = λ (n : ℕ). list_all (λ ballot. has_member ballot n) ballots in
    let found = member_at q (common_candidates m ballots) some in
    let c = found.0 in
    let parts = and_parts (p c) (has_member (range_with_len 1 m) c) (sym (has_member-filter p (range_with_len 1 m) c) ∙ found.1) in
    let bounds = range_bounds 1 m c parts.1 in (
      c,
      ((bounds.0, omega (arith, bounds.1), tt), refl),
      found.2,
      list_all-weaker (λ ballot. has_member ballot c) (λ ballot. includes ballot (c ∷ [])) (λ ballot h. and_from (has_member ballot c) true h refl) ballots parts.0,
    )

-- ---- represented members

-- where the approved members lie in a set, no more members are represented than it has
pub represented-le : (m : ℕ) (ballots : List (List ℕ)) (committee second : List ℕ) → IsIncreasing 1 m committee → IsIncreasing 1 m second
    → list_all (λ ballot. includes second (common_members ballot committee)) ballots ≡ true → length (represented ballots committee) ≤ length second
represented-le m ballots committee second i j all =
    let some = λ (n : ℕ). list_any (λ ballot. has_member ballot n) ballots in
    length-within 1 m (represented ballots committee) second (IsIncreasing-filter some 1 m committee i) j
    (λ n h.
    let split = and_parts (some n) (has_member committee n) (sym (has_member-filter some committee n) ∙ h) in
    let one = both_at (λ ballot. includes second (common_members ballot committee)) (λ ballot. has_member ballot n) ballots all split.0 in
    passes_at (has_member second) (common_members one.0 committee) n one.1
    (has_member-filter (has_member committee) one.0 n ∙ and_from (has_member committee n) (has_member one.0 n) split.1 one.2))

-- where a set has all represented members, the approved members of each ballot lie in it
pub covered : (committee second : List ℕ) (ballots : List (List ℕ)) → ((n : ℕ) → list_any (λ ballot. has_member ballot n) ballots ≡ true → has_member committee n ≡ true → has_member second n ≡ true)
    → list_all (λ ballot. includes second (common_members ballot committee)) ballots ≡ true
covered committee second [] all = refl
covered committee second (ballot ∷ ballots) all =
    and_from (includes second (common_members ballot committee)) (list_all (λ b. includes second (common_members b committee)) ballots)
    (all_pass (has_member second) (common_members ballot committee) (λ n h.
    let split = and_parts (has_member committee n) (has_member ballot n) (sym (has_member-filter (has_member committee) ballot n) ∙ h) in
    all n (or_left (has_member ballot n) (list_any (λ b. has_member b n) ballots) split.1) split.0))
    (covered committee second ballots (λ n some inside. all n (or_right (has_member ballot n) (list_any (λ b. has_member b n) ballots) some) inside))
