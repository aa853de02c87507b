-- Voters without a hit, and the branches of a lean search.
use Rattle.std.proofs.lemmas.Grind.{common_steps}
use Rattle.std.proofs.Common.{◌≡◌, ℕ, zero, suc, ◌+◌, ◌-◌, ◌*◌, ◌<◌, ◌≤◌, ◌==◌, ◌||◌, ◌∙◌, ◌^◌, Bool, true, false, cond, min, filter, replicate, List, Option, [], ◌∷◌, ◌++◌, refl, sym, ap, arith, inl, inr, length, sum_by, get_or, get_or-set_other, set, bit_and, take, slice_get, Some}
use Rattle.std.specs.Prelude.{IsTrue, MatchOption}
use Rattle.std.specs.Int.{bit_at}
use Rattle.std.specs.Int.RustNames.{count_ones}
use Rattle.std.specs.List.{AllByRecursion}
use Rattle.std.proofs.lemmas.Bool.{cases_eq, cases_lt, eq-eqb, ne_eqb}
use Rattle.std.proofs.lemmas.List.{append-nil, take_more}
use Rattle.std.proofs.lemmas.List.Sums.{length-filter, sum_by-cons}
use Rattle.std.proofs.lemmas.Option.{get_or_from_slice_get, slice_get_within}
use Rattle.std.proofs.lemmas.Nat.Bits.{bit_at_and, bit_at_ones}
use Rattle.ballot_base.specs.Ballots.{Row, Election, IsElection, hits}
use Rattle.ballot_base.specs.CandSet.{common_members, has_member, with_member, without_member}
use Rattle.ballot_base.specs.Increments.{increments}
use Rattle.ballot_base.specs.Limits.{most_candidates, most_members}
use Rattle.ballot_base.specs.Lists.{IsIncreasing}
use Rattle.ballot_base.specs.Worths.{AreChosen, AreTooLow, AreWanted}
use Rattle.ballot_base.specs.declared.increments.ThieleRule.TheVariants.{Cc}
use Rattle.ballot_base.proofs.Increasing.{IsIncreasing-lower, has_member-with_member, has_member_tail}
use Rattle.ballot_base.proofs.Sums.{sum-member, sum-threshold}
use Rattle.ballot_base.proofs.WeightLemmas.{increments-past, increments-within}
use Rattle.row_multipliers.specs.Completions.{IsCompletion, IsNode, IsOutOfReach}
use Rattle.row_multipliers.specs.Steps.Narrowed.{IsNarrowed}
use Rattle.row_multipliers.proofs.CompletionLemmas.{completion-with, completion-without, node-with, node-without, without-is}
use Rattle.tie_walk.specs.Sequences.{gain}
use Rattle.tie_walk.specs.Values.{Thiele, tally_value, thiele_of, thiele_value}
use Rattle.tie_walk.proofs.Gains.{hits-with}
use Rattle.tie_walk.proofs.WorthLemmas.{no_total}
use Rattle.thiele_search.specs.Steps.Columns.{block_voters, total, given, voter_ballot, voters_of, AreColumns, AreRising}
use Rattle.thiele_search.specs.Steps.Uncovered.{AreFew, AreWithout, IsBranch, FallsShort, is_uncovered, joins, newly, table_blocks, uncovered_voters}
use Rattle.thiele_search.specs.declared.uncovered.Branch.{Branch}
use Rattle.thiele_search.proofs.ColumnLemmas.{and-fits, gain-given, ones-total, total-same, total-voters, voters-append, voters-rising, voters-sum}
use Rattle.thiele_search.proofs.GainLemmas.{gain-same, gains-narrow}
use Rattle.thiele_search.proofs.WholeLemmas.{value-with}

-- ---- hits

hits-within : (ballot set other : List ℕ) → ((n : ℕ) → has_member set n ≡ true → has_member other n ≡ true) → hits ballot set ≤ hits ballot other
hits-within [] set other among = omega arith
hits-within (n ∷ ballot) set other among = grind (arith, common_steps, among n, hits-within ballot set other among, sum_by-cons)

hits-some : (ballot set : List ℕ) (c : ℕ) → has_member ballot c ≡ true → has_member set c ≡ true → 1 ≤ hits ballot set
hits-some [] set c here in_ = absurd cc
hits-some (n ∷ ballot) set c here in_ = elim (cases_eq n c) [
  | inl same ↦ grind (arith, common_steps, in_, same, sum_by-cons)
  | inr other ↦ grind (arith, common_steps, hits-some ballot set c (sym (has_member_tail n c ballot other) ∙ here) in_, sum_by-cons)
]

-- ---- the voters who are kept

sum-kept : (f : Row → ℕ) (p : Row → Bool) (rows : List Row) → ((r : Row) → p r ≡ false → f r ≡ 0) → sum_by f (filter p rows) ≡ sum_by f rows
sum-kept f p [] none = refl
sum-kept f p (row ∷ rows) none = grind (arith, common_steps, sum-kept f p rows none, none row, sum_by-cons)

-- all others give nothing for a free candidate, then and later
joins-none : (set free later : List ℕ) (c : ℕ) (ballot : List ℕ) → ((n : ℕ) → has_member set n ≡ true → has_member later n ≡ true) → has_member free c ≡ true
    → is_uncovered set free ballot ≡ false → joins later c ballot ≡ 0
joins-none set free later c ballot among open_ out =
    grind (arith, common_steps, hits-within ballot set later among, hits-some ballot free c, open_, out, cases_eq (hits ballot later) 0, cases_eq (hits ballot set) 0, cases_eq (hits ballot free) 0, ne_eqb, eq-eqb)

-- a first hit counts, and no other
cc-weight : (k x : ℕ) → 1 ≤ k → k ≤ most_members → get_or (increments Cc k) x 0 ≡ cond (x == 0) 1 0
cc-weight k zero some size = increments-within Cc k 0 (omega (arith, some, size)) some
cc-weight k (suc x) some size = elim (cases_lt (suc x) k) [
  | inl low ↦ increments-within Cc k (suc x) (omega (arith, low, size)) low ∙ ap (λ b. cond {A = ℕ} b 1 0) (ne_eqb (suc x + 1) 1 (λ e. absurd (omega (arith, e)))) ∙ sym (ap (λ b. cond {A = ℕ} b 1 0) (ne_eqb (suc x) 0 (λ e. absurd (omega (arith, e)))))
  | inr high ↦ increments-past Cc k (suc x) high ∙ sym (ap (λ b. cond {A = ℕ} b 1 0) (ne_eqb (suc x) 0 (λ e. absurd (omega (arith, e)))))
]

sum-alike : (f g : Row → ℕ) (rows : List Row) → ((r : Row) → f r ≡ g r) → sum_by f rows ≡ sum_by g rows
sum-alike f g [] same = refl
sum-alike f g (row ∷ rows) same = omega (arith, same row, sum-alike f g rows same, sum_by-cons f row rows, sum_by-cons g row rows)

-- what the voters who are kept add is the gain
pub newly-gain : (k : ℕ) (rows : List Row) (set free later : List ℕ) (c : ℕ) → 1 ≤ k → k ≤ most_members
    → length (uncovered_voters rows set free) ≤ table_blocks * block_voters → ((n : ℕ) → has_member set n ≡ true → has_member later n ≡ true) → has_member free c ≡ true
    → newly (uncovered_voters rows set free) later c ≡ gain (increments Cc k) rows later c
newly-gain k rows set free later c some size few among open_ =
    total-voters (joins later c) refl (uncovered_voters rows set free) (table_blocks * block_voters) few
    ∙ voters-sum (joins later c) (filter (λ (r : Row). is_uncovered set free r.0) rows)
    ∙ sum-kept (λ (r : Row). r.1 * joins later c r.0) (λ (r : Row). is_uncovered set free r.0) rows
    (λ r out. ap (λ n. r.1 * n) (joins-none set free later c r.0 among open_ out) ∙ omega arith)
    ∙ sum-alike (λ (r : Row). r.1 * joins later c r.0) (λ (r : Row). r.1 * given (increments Cc k) later c r.0) rows
    (λ r. ap (λ n. r.1 * cond (has_member r.0 c) n 0) (sym (cc-weight k (hits r.0 later) some size)))
    ∙ gain-given (increments Cc k) (increments Cc k) later c (λ j. refl) rows

-- whether there is a hit, by the members in common
pub empty-hits : (ballot set : List ℕ) (b : Bool) → ((IsTrue b → common_members ballot set ≡ []) × (common_members ballot set ≡ [] → IsTrue b)) → (hits ballot set == 0) ≡ b
empty-hits ballot set b iff = same (common_members ballot set) (hits ballot set) b (sym (length-filter (has_member set) ballot)) iff
  where
    same : (xs : List ℕ) (n : ℕ) (b : Bool) → n ≡ length xs → ((IsTrue b → xs ≡ []) × (xs ≡ [] → IsTrue b)) → (n == 0) ≡ b
    same [] n true is iff = eq-eqb n 0 is
    same [] n false is iff = absurd (let e : IsTrue false = iff.1 refl in cc)
    same (x ∷ xs) n true is iff = absurd (let e : x ∷ xs ≡ [] = iff.0 refl in cc)
    same (x ∷ xs) n false is iff = ne_eqb n 0 (λ e. absurd (omega (arith, e, is)))

-- the voters of one row more
kept-append : (p : Row → Bool) (xs ys : List Row) → filter p (xs ++ ys) ≡ filter p xs ++ filter p ys
kept-append p [] ys = refl
kept-append p (x ∷ xs) ys = elim (p x) as (λ b. cond b (x ∷ filter p (xs ++ ys)) (filter p (xs ++ ys)) ≡ cond b (x ∷ filter p xs) (filter p xs) ++ filter p ys) [
  | true ↦ ap (λ l. x ∷ l) (kept-append p xs ys)
  | false ↦ kept-append p xs ys
]

module _ (rows : List Row) (set free : List ℕ) (i : ℕ) (row : Row) (at : slice_get rows i ≡ Some row) where
  next-row : uncovered_voters (take (i + 1) rows) set free ≡ uncovered_voters (take i rows) set free ++ voters_of (cond (is_uncovered set free row.0) (row ∷ []) [])
  next-row =
      let p : Row → Bool = λ r. is_uncovered set free r.0 in
      ap (λ l. uncovered_voters l set free) (take_more rows i row (slice_get_within rows i row at) ∙ ap (λ (r : Row). take i rows ++ r ∷ []) (get_or_from_slice_get rows i row row at))
      ∙ ap voters_of (kept-append p (take i rows) (row ∷ [])) ∙ voters-append (filter p (take i rows)) (filter p (row ∷ []))

  pub uncovered-push : is_uncovered set free row.0 ≡ true → uncovered_voters (take (i + 1) rows) set free ≡ uncovered_voters (take i rows) set free ++ replicate row.1 row.0
  uncovered-push is = next-row ∙ ap (λ b. uncovered_voters (take i rows) set free ++ voters_of (cond b (row ∷ []) [])) is ∙ ap (λ l. uncovered_voters (take i rows) set free ++ l) (append-nil (replicate row.1 row.0))

  pub uncovered-pass : is_uncovered set free row.0 ≡ false → uncovered_voters (take (i + 1) rows) set free ≡ uncovered_voters (take i rows) set free
  uncovered-pass is = next-row ∙ ap (λ b. uncovered_voters (take i rows) set free ++ voters_of (cond b (row ∷ []) [])) is ∙ append-nil (uncovered_voters (take i rows) set free)

pub nobody : (n m b c : ℕ) → get_or {A = ℕ} (get_or {A = List ℕ} (replicate n (replicate m 0)) b []) c 0 ≡ 0
nobody zero m b c = refl
nobody (suc n) m zero c = no_total m c
nobody (suc n) m (suc b) c = nobody n m b c

-- at first nobody who is kept has a hit
none-repeated : (n : ℕ) (ballot set : List ℕ) (ballots : List (List ℕ)) → hits ballot set ≡ 0 → ((v : ℕ) → hits (voter_ballot ballots v) set ≡ 0)
    → (v : ℕ) → hits (voter_ballot (replicate n ballot ++ ballots) v) set ≡ 0
none-repeated zero ballot set ballots none rest v = rest v
none-repeated (suc n) ballot set ballots none rest zero = none
none-repeated (suc n) ballot set ballots none rest (suc v) = none-repeated n ballot set ballots none rest v

none-kept : (p : Bool) (row : Row) (rest : List Row) (set : List ℕ) → (p ≡ true → hits row.0 set ≡ 0) → ((v : ℕ) → hits (voter_ballot (voters_of rest) v) set ≡ 0)
    → (v : ℕ) → hits (voter_ballot (voters_of (cond p (row ∷ rest) rest)) v) set ≡ 0
none-kept true row rest set none others v = none-repeated row.1 row.0 set (voters_of rest) (none refl) others v
none-kept false row rest set none others v = others v

pub uncovered-none : (rows : List Row) (set free : List ℕ) (v : ℕ) → hits (voter_ballot (uncovered_voters rows set free) v) set ≡ 0
uncovered-none [] set free v = refl
uncovered-none (row ∷ rows) set free v =
    none-kept (is_uncovered set free row.0) row (filter (λ (r : Row). is_uncovered set free r.0) rows) set
    (λ is. grind (arith, common_steps, is, cases_eq (hits row.0 set) 0, ne_eqb)) (uncovered-none rows set free) v

full : (n b x : ℕ) → b < n → get_or (replicate n x) b 0 ≡ x
full zero b x low = absurd (omega (arith, low))
full (suc n) zero x low = refl
full (suc n) (suc b) x low = full n b x (omega (arith, low))

pub first-without : (rows : List Row) (set free : List ℕ) → AreWithout (uncovered_voters rows set free) set (replicate 4 (2 ^ 64 - 1))
first-without rows set free b i low within =
    ap (λ n. bit_at n i) (full 4 b (2 ^ 64 - 1) low) ∙ bit_at_ones 64 i within
    ∙ sym (ap (λ n. cond {A = ℕ} (n == 0) 1 0) (uncovered-none rows set free (b * block_voters + i)))

all-kept : (m : ℕ) (p : Row → Bool) (rows : List Row) → AllByRecursion (λ (r : Row). IsIncreasing 1 m r.0) rows → AllByRecursion (λ (r : Row). IsIncreasing 1 m r.0) (filter p rows)
all-kept m p [] all = tt
all-kept m p (row ∷ rows) all =
    let rest = all-kept m p rows all.1 in
    elim (p row) as (λ b. AllByRecursion (λ (r : Row). IsIncreasing 1 m r.0) (cond b (row ∷ filter p rows) (filter p rows))) [ true ↦ (all.0, rest) | false ↦ rest ]

pub uncovered-rising : (e : Election) (set free : List ℕ) → IsElection e → AreRising (uncovered_voters e.rows set free)
uncovered-rising e set free valid =
    voters-rising e.m (filter (λ (r : Row). is_uncovered set free r.0) e.rows) valid.most (all-kept e.m (λ (r : Row). is_uncovered set free r.0) e.rows valid.ballots)

-- ---- words

-- who is left without a hit after a candidate has joined
pub without-more : (ballot set : List ℕ) (c word column rest i : ℕ) → IsIncreasing 1 most_candidates ballot → has_member set c ≡ false
    → bit_at rest i ≡ min (bit_at word i) (1 - bit_at column i) → bit_at word i ≡ cond (hits ballot set == 0) 1 0 → bit_at column i ≡ cond (has_member ballot c) 1 0
    → bit_at rest i ≡ cond (hits ballot (with_member set c) == 0) 1 0
without-more ballot set c word column rest i up new is here approves =
    is
    ∙ ap (λ n. min (bit_at word i) (1 - n)) approves
    ∙ ap (λ n. min n (1 - cond (has_member ballot c) 1 0)) here
    ∙ joined (has_member ballot c) (hits ballot set)
    ∙ sym (ap (λ n. cond {A = ℕ} (n == 0) 1 0) (hits-with 1 most_candidates ballot set c up new))
  where
    joined : (p : Bool) (x : ℕ) → min (cond (x == 0) 1 0) (1 - cond p 1 0) ≡ cond (x + cond p 1 0 == 0) 1 0
    joined true x = let e : (x + 1 == 0) ≡ false = ne_eqb (x + 1) 0 (λ e. absurd (omega (arith, e))) in omega (arith, ap (λ b. cond {A = ℕ} b 1 0) e)
    joined false zero = refl
    joined false (suc x) = let e : (suc x + 0 == 0) ≡ false = ne_eqb (suc x + 0) 0 (λ e. absurd (omega (arith, e))) in let z : (suc x == 0) ≡ false = ne_eqb (suc x) 0 (λ e. absurd (omega (arith, e))) in omega (arith, ap (λ b. cond {A = ℕ} b 1 0) e, ap (λ b. cond {A = ℕ} b 1 0) z)

-- how many voters of a block join
pub block-joins : (ballots blocks : List (List ℕ)) (voters set : List ℕ) (c b : ℕ) → AreColumns ballots blocks → AreWithout ballots set voters → b < table_blocks
    → get_or voters b 0 < 2 ^ 64
    → count_ones (bit_and (get_or (get_or blocks b []) c 0) (get_or voters b 0)) ≡ total (λ i. joins set c (voter_ballot ballots (b * block_voters + i))) block_voters
block-joins ballots blocks voters set c b held without low fits =
    ones-total (bit_and (get_or (get_or blocks b []) c 0) (get_or voters b 0)) (and-fits (get_or (get_or blocks b []) c 0) (get_or voters b 0) fits)
    ∙ total-same (bit_at (bit_and (get_or (get_or blocks b []) c 0) (get_or voters b 0))) (λ i. joins set c (voter_ballot ballots (b * block_voters + i))) block_voters
    (λ i within. bit_at_and (get_or (get_or blocks b []) c 0) (get_or voters b 0) i
    ∙ ap (λ n. min n (bit_at (get_or voters b 0) i)) (held b c i within)
    ∙ ap (λ n. min (cond (has_member (voter_ballot ballots (b * block_voters + i)) c) 1 0) n) (without b i low within)
    ∙ both (has_member (voter_ballot ballots (b * block_voters + i)) c) (hits (voter_ballot ballots (b * block_voters + i)) set == 0))
  where
    both : (p q : Bool) → min (cond p 1 0) (cond q 1 0) ≡ cond p (cond q 1 0) 0
    both true true = refl
    both true false = refl
    both false true = refl
    both false false = refl

-- ---- a sum over the whole table

pub total-among : (f : ℕ → ℕ) (n first last : ℕ) (xs : List ℕ) → IsIncreasing first last xs → last < first + n → sum_by f xs ≤ total (λ i. f (first + i)) n
unfolding total
total-among f n first last [] up most = omega arith
total-among f zero first last (x ∷ xs) up most = absurd (omega (arith, up.0, up.1, most))
total-among f (suc n) first last (x ∷ xs) up most =
    let later : total (λ i. f (first + 1 + i)) n ≡ total (λ i. f (first + suc i)) n = total-same (λ i. f (first + 1 + i)) (λ i. f (first + suc i)) n (λ i low. ap f (let e : first + 1 + i ≡ first + suc i = omega arith in e)) in
    elim (cases_eq first x) [
      | inl same ↦ omega (
        arith,
        later,
        sum_by-cons f x xs,
        ap f (let e : first + 0 ≡ x = omega (arith, same) in e),
        total-among f n (first + 1) last xs (rw (sym same) at up.2) (omega (arith, most)),
      )
      | inr other ↦ omega (arith, later, total-among f n (first + 1) last (x ∷ xs) (omega (arith, up.0, other), up.1, up.2) (omega (arith, most)))
    ]

-- what the chosen exceed a threshold by is part of the whole
pub chosen-excess : (gains : List ℕ) (t : ℕ) (chosen : List ℕ) → IsIncreasing 1 most_candidates chosen
    → sum_by (λ n. get_or gains n 0 - t) chosen ≤ total (λ n. get_or gains n 0 - t) (most_candidates + 1)
chosen-excess gains t chosen up =
    let f : ℕ → ℕ = λ n. get_or gains n 0 - t in
    omega (arith, total-among f 65 0 64 chosen (IsIncreasing-lower 0 1 64 chosen (omega arith) up) (omega arith), total-same (λ i. f (0 + i)) f 65 (λ i low. ap f (let e : 0 + i ≡ i = omega arith in e)))

module _ (gains : List ℕ) (t : ℕ) (free : List ℕ) (left : ℕ) (chosen : List ℕ) (are : AreChosen free left chosen) where
  abbrev worth : ℕ → ℕ
  worth n = get_or gains n 0

  pub chosen-most : sum_by worth chosen ≤ left * t + total (λ n. worth n - t) (most_candidates + 1)
  chosen-most = omega (arith, chosen-excess gains t chosen are.rises, sum-threshold worth worth t chosen (λ n is. omega arith), ap (λ n. n * t) are.few)

  pub chosen-spare : (n : ℕ) → has_member chosen n ≡ true → sum_by worth chosen + (t - worth n) ≤ left * t + total (λ n. worth n - t) (most_candidates + 1)
  chosen-spare n is = omega (arith, chosen-excess gains t chosen are.rises, sum-member worth worth t n chosen (λ x in_. omega arith) is, ap (λ n. n * t) are.few)

-- gains that are set stay few
pub few-zeros : AreFew (replicate 65 0)
few-zeros n = omega (arith, no_total 65 n)

pub few-set : (gains : List ℕ) (at x : ℕ) → x ≤ table_blocks * block_voters → AreFew gains → AreFew (set gains at x)
few-set gains at x low few n = elim (cases_eq n at) [
  | inl same ↦ rw same (set-few gains at x low few)
  | inr other ↦ omega (arith, get_or-set_other gains at n x 0 other, few n)
]
  where
    set-few : (gains : List ℕ) (at x : ℕ) → x ≤ table_blocks * block_voters → AreFew gains → get_or (set gains at x) at 0 ≤ table_blocks * block_voters
    set-few [] at x low few = omega arith
    set-few (y ∷ gains) zero x low few = low
    set-few (y ∷ gains) (suc at) x low few = set-few gains at x low (λ n. few (suc n))

-- ---- branches

module _ (e : Election) (set free gains : List ℕ) (left due k : ℕ) (valid : IsElection e) (some : 1 ≤ k) (size : k ≤ most_members) (is_node : IsNode e.m set free)
    (are : (n : ℕ) → has_member free n ≡ true → get_or gains n 0 ≡ gain (increments Cc k) e.rows set n) where
  abbrev pub V : List ℕ → ℕ
  V = thiele_value (increments Cc k) e.rows

  -- who can still join, by the gains
  pub branch-narrows : (answer : Option (List ℕ)) → MatchOption answer (AreTooLow (λ n. get_or gains n 0) free left due) (AreWanted (λ n. get_or gains n 0) free left due)
      → MatchOption answer (IsOutOfReach V e.m set free left (V set + due)) (IsNarrowed V e.m set free left (V set + due))
  branch-narrows answer narrows =
      gains-narrow (thiele_of e Cc k) set free left (V set + due) (V set) gains (record { election = valid; size = size; value_is = refl }) is_node
      (gain-same (thiele_of e Cc k) set free gains valid is_node are) due (omega arith) answer narrows

  -- a candidate leaves after no completion with it was found
  pub branch-leaves : (next : ℕ) (child : Branch) → has_member free next ≡ true → 1 ≤ left → get_or gains next 0 ≤ due
      → child.set ≡ with_member set next → child.free ≡ without_member free next → child.left ≡ left - 1 → child.due ≡ due - get_or gains next 0 → FallsShort e child
      → IsNarrowed V e.m set free left (V set + due) (without_member free next)
  branch-leaves next child here seats fits set_is free_is left_is due_is none = record {
    is_node = node-without e.m set free next is_node;
    among = without-is free next;
    kept = λ committee whole reaches. completion-without e.m set free left next is_node here committee whole (gone committee whole reaches (has_member committee next) refl);
  }
    where
      below : IsOutOfReach V e.m (with_member set next) (without_member free next) (left - 1) (V (with_member set next) + (due - get_or gains next 0))
      below = rw (set_is, free_is, left_is, due_is) at (none k some size)

      gone : (committee : List ℕ) → IsCompletion e.m set free left committee → V set + due ≤ V committee → (b : Bool) → has_member committee next ≡ b → has_member committee next ≡ false
      gone committee whole reaches true in_ =
          absurd (omega (
            arith,
            reaches,
            fits,
            below committee (completion-with e.m set free left next is_node here committee seats whole in_),
            value-with (thiele_of e Cc k) set next valid (is_node.apart next here),
            are next here,
          ))
      gone committee whole reaches false out = out

-- fewer are free
pub branch-fewer : (e : Election) (set free : List ℕ) (branch : Branch) (kept : List ℕ) → IsBranch e set free branch → IsIncreasing 1 e.m kept
    → ((n : ℕ) → has_member kept n ≡ true → has_member branch.free n ≡ true)
    → IsBranch e set free record { set = branch.set; free = kept; left = branch.left; due = branch.due; voters = branch.voters }
branch-fewer e set free branch kept is rises among = record {
  valid = is.valid;
  is_node = record { set_within = is.is_node.set_within; free_within = rises; apart = λ n h. is.is_node.apart n (among n h) };
  whole = is.whole;
  among = λ n h. is.among n (among n h);
  voters = is.voters;
}

-- a candidate more is in the set
pub branch-child : (e : Election) (set free : List ℕ) (branch child : Branch) (next : ℕ) → IsBranch e set free branch → has_member branch.free next ≡ true
    → child.set ≡ with_member branch.set next → child.free ≡ without_member branch.free next
    → AreWithout (uncovered_voters e.rows set free) (with_member branch.set next) child.voters → IsBranch e set free child
branch-child e set free branch child next is here set_is free_is voters = record {
  valid = is.valid;
  is_node = rw (set_is, free_is) (node-with e.m branch.set branch.free next is.is_node here);
  whole = λ n in_. ap (λ l. has_member l n) set_is ∙ has_member-with_member branch.set next n ∙ or-more (next == n) (has_member branch.set n) (is.whole n in_);
  among = λ n in_. is.among n (without-is branch.free next n (ap (λ l. has_member l n) (sym free_is) ∙ in_));
  voters = rw set_is voters;
}
  where
    or-more : (p q : Bool) → q ≡ true → (p || q) ≡ true
    or-more true q is = refl
    or-more false q is = is

-- the gains of a branch are those of the election
pub branch-gain : (e : Election) (set free : List ℕ) (branch : Branch) (k n : ℕ) → IsBranch e set free branch → length (uncovered_voters e.rows set free) ≤ table_blocks * block_voters
    → 1 ≤ k → k ≤ most_members → has_member branch.free n ≡ true → newly (uncovered_voters e.rows set free) branch.set n ≡ gain (increments Cc k) e.rows branch.set n
branch-gain e set free branch k n is few some size here = newly-gain k e.rows set free branch.set n some size few is.whole (is.among n here)

-- a node that is refuted is out of reach
pub refuted-out : (tally : Thiele) (e : Election) (set free node_set node_free : List ℕ) (left least value due : ℕ) → e ≡ tally.election → set ≡ node_set → free ≡ node_free → tally.rule ≡ Cc
    → value ≡ tally_value tally node_set → value + due ≤ least
    → IsOutOfReach (thiele_value (increments Cc tally.k) e.rows) e.m set free left (thiele_value (increments Cc tally.k) e.rows set + due)
    → IsOutOfReach (tally_value tally) tally.election.m node_set node_free left least
refuted-out tally e set free node_set node_free left least value due e_is set_is free_is rule value_is fits short committee whole =
    let below : IsOutOfReach (thiele_value (increments Cc tally.k) tally.election.rows) tally.election.m node_set node_free left (thiele_value (increments Cc tally.k) tally.election.rows node_set + due) =
    rw (e_is, set_is, free_is) at short in
    let same : (c : List ℕ) → tally_value tally c ≡ thiele_value (increments Cc tally.k) tally.election.rows c = λ c. ap (λ r. thiele_value (increments r tally.k) tally.election.rows c) rule in
    omega (arith, below committee whole, same committee, same node_set, value_is, fits)
