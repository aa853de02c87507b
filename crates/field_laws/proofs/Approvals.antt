-- Approval voting elects exactly the committees without a member who has fewer approvals than a candidate outside.
use Rattle.std.proofs.lemmas.Grind.{common_steps}
use Rattle.std.proofs.Common.{◌≡◌, ℕ, zero, suc, ◌+◌, ◌*◌, ◌<◌, ◌≤◌, ◌==◌, ◌∙◌, ◌⊎◌, ◌↔◌, Bool, true, false, not, List, [], ◌∷◌, refl, sym, ap, arith, inl, inr, filter, length, take, sum, sum_by, Contains}
use Rattle.std.proofs.lemmas.Bool.{and_parts, cases_lt, or_right}
use Rattle.std.proofs.lemmas.List.Filters.{length-filter_both}
use Rattle.std.proofs.Math.Bool.{and_comm}
use Rattle.std.proofs.lemmas.List.Sums.{count_by-le-length, sum_by-cons}
use Rattle.ballot_base.specs.Limits.{most_members}
use Rattle.ballot_base.specs.Lists.{IsIncreasing}
use Rattle.ballot_base.specs.CandSet.{has_member}
use Rattle.ballot_base.specs.Increments.{increments}
use Rattle.ballot_base.specs.declared.increments.ThieleRule.TheVariants.{Av}
use Rattle.ballot_base.specs.Ballots.{Row, Election, IsElection, hits, voter_count}
use Rattle.ballot_base.proofs.Committees.{increasing_lists-contains, length-increasing}
use Rattle.ballot_base.proofs.Increasing.{IsIncreasing-filter, has_member-above, has_member-below, has_member-filter, has_member_head, same_increasing}
use Rattle.ballot_base.proofs.WeightLemmas.{increments-within}
use Rattle.tie_walk.specs.Sequences.{supporters}
use Rattle.tie_walk.specs.Values.{thiele_of, tally_value, thiele_value}
use Rattle.tie_walk.specs.Winners.{winners}
use Rattle.tie_walk.proofs.Gains.{bit}
use Rattle.tie_walk.proofs.LawLemmas.{no_greater_value, some_winner, winner-from_is, winner-is}
use Rattle.tie_walk.proofs.RowSums.{AreBallots}
use Rattle.tie_walk.proofs.TableLemmas.{sum-take_more}
use Rattle.field_laws.proofs.Exchanges.{exchanged, exchanged-size, exchanged-up, hits-exchanged, hits-turned, no-better, not-member}
use Rattle.field_laws.proofs.Losses.{sum-none, sum-passing, sums-first}

-- a voter gives as much as it has hits
av-sum : (k h : ℕ) → k ≤ most_members → h ≤ k → sum (take h (increments Av k)) ≡ h
av-sum k zero most few = refl
av-sum k (suc h) most few =
    let next : sum (take (suc h) (increments Av k)) ≡ sum (take (h + 1) (increments Av k)) = ap (λ n. sum (take n (increments Av k))) (let e : suc h ≡ h + 1 = omega arith in e) in
    omega (arith, next, sum-take_more (increments Av k) h, increments-within Av k h (omega (arith, few, most)) (omega (arith, few)), av-sum k h most (omega (arith, few)))

-- nobody has more hits than the set has members
hits-few : (m : ℕ) (ballot set : List ℕ) → IsIncreasing 1 m ballot → IsIncreasing 1 m set → hits ballot set ≤ length set
hits-few m ballot set up set_up = omega (arith, hits-turned 1 m ballot set up set_up, count_by-le-length (has_member ballot) set)

-- the approvals of a candidate, row by row
supported : (c : ℕ) (rows : List Row) → voter_count (supporters rows c) ≡ sum_by (λ (row : Row). row.1 * bit (has_member row.0 c)) rows
supported c [] = refl
supported c (row ∷ rows) = grind (arith, common_steps, supported c rows, sum_by-cons)

module _ (m k c x : ℕ) (committee : List ℕ) (most : k ≤ most_members) (up : IsIncreasing 1 m committee) (size : length committee ≡ k) (here : has_member committee x ≡ true) (out : has_member committee c ≡ false) (low : 1 ≤ c) (high : c ≤ m) where
  -- the value after an exchange
  value-exchanged : (rows : List Row) → AreBallots m rows
      → thiele_value (increments Av k) rows (exchanged committee c x) + sum_by (λ (row : Row). row.1 * bit (has_member row.0 x)) rows
      ≡ thiele_value (increments Av k) rows committee + sum_by (λ (row : Row). row.1 * bit (has_member row.0 c)) rows
  value-exchanged [] all = refl
  value-exchanged (row ∷ rows) all =
      let w = increments Av k in
      let new = exchanged committee c x in
      let long : length new ≡ k = exchanged-size m committee c x up here out ∙ size in
      let new_hits = av-sum k (hits row.0 new) most (omega (arith, long, hits-few m row.0 new all.0 (exchanged-up m committee c x up here out low high))) in
      let old_hits = av-sum k (hits row.0 committee) most (omega (arith, size, hits-few m row.0 committee all.0 up)) in
      omega (
        arith,
        sum_by-cons (λ (r : Row). r.1 * sum (take (hits r.0 new) w)) row rows,
        sum_by-cons (λ (r : Row). r.1 * sum (take (hits r.0 committee) w)) row rows,
        sum_by-cons (λ (r : Row). r.1 * bit (has_member r.0 x)) row rows,
        sum_by-cons (λ (r : Row). r.1 * bit (has_member r.0 c)) row rows,
        ap (λ n. row.1 * n) new_hits,
        ap (λ n. row.1 * n) old_hits,
        ap (λ n. row.1 * n) (hits-exchanged m committee c x up here out row.0 all.0),
        value-exchanged rows all.1,
      )

-- nobody approves a number that is not a candidate's
none-approve : (m c : ℕ) (rows : List Row) → AreBallots m rows → (c < 1) ⊎ (m < c) → sum_by (λ (row : Row). row.1 * bit (has_member row.0 c)) rows ≡ 0
none-approve m c [] all beyond = refl
none-approve m c (row ∷ rows) all beyond =
    let gone : has_member row.0 c ≡ false = elim beyond [ inl low ↦ has_member-below 1 m row.0 c all.0 low | inr high ↦ has_member-above 1 m row.0 c all.0 high ] in
    omega (arith, ap (λ b. row.1 * bit b) gone, sum_by-cons (λ (r : Row). r.1 * bit (has_member r.0 c)) row rows, none-approve m c rows all.1 beyond)

-- no candidate outside a winner has more approvals than a member
most-approved : (e : Election) (k : ℕ) (committee : List ℕ) (x c : ℕ) → IsElection e → k ≤ most_members → Contains (winners (tally_value (thiele_of e Av k)) e.m k) committee
    → has_member committee x ≡ true → has_member committee c ≡ false → voter_count (supporters e.rows c) ≤ voter_count (supporters e.rows x)
most-approved e k committee x c valid most wins here out = elim (cases_lt c 1) [
  | inl low ↦ omega (arith, supported c e.rows, none-approve e.m c e.rows valid.ballots (inl low))
  | inr low ↦ elim (cases_lt e.m c) [
    | inl high ↦ omega (arith, supported c e.rows, none-approve e.m c e.rows valid.ballots (inr high))
    | inr high ↦
        let is = winner-is (tally_value (thiele_of e Av k)) e.m k committee wins in
        let new = exchanged committee c x in
        omega (
          arith,
          supported c e.rows,
          supported x e.rows,
          value-exchanged e.m k c x committee most is.0 is.1 here out low high e.rows valid.ballots,
          no-better (tally_value (thiele_of e Av k)) e.m k committee new wins (exchanged-up e.m committee c x is.0 here out low high) (exchanged-size e.m committee c x is.0 here out ∙ is.1),
        )
  ]
]

-- ---- whoever has the most approvals wins

-- a committee is worth the approvals of its members together
av-value : (m k : ℕ) (set : List ℕ) (rows : List Row) → k ≤ most_members → IsIncreasing 1 m set → length set ≡ k → AreBallots m rows
    → thiele_value (increments Av k) rows set ≡ sum_by (λ x. sum_by (λ (row : Row). row.1 * bit (has_member row.0 x)) rows) set
av-value m k set [] most up size all = sym (sum-none set)
av-value m k set (row ∷ rows) most up size all =
    let hit = av-sum k (hits row.0 set) most (omega (arith, size, hits-few m row.0 set all.0 up)) in
    omega (
      arith,
      sum_by-cons (λ (r : Row). r.1 * sum (take (hits r.0 set) (increments Av k))) row rows,
      ap (λ n. row.1 * n) hit,
      sums-first (λ x r. r.1 * bit (has_member r.0 x)) row rows set,
      sum-passing (has_member row.0) row.1 1 set,
      ap (λ n. row.1 * n) (hits-turned 1 m row.0 set all.0 up),
      av-value m k set rows most up size all.1,
    )

-- the terms that pass, and the others
sum-split : (f : ℕ → ℕ) (p : ℕ → Bool) (xs : List ℕ) → sum_by f xs ≡ sum_by f (filter p xs) + sum_by f (filter (λ n. not (p n)) xs)
sum-split f p [] = refl
sum-split f p (x ∷ xs) = grind (arith, common_steps, sum-split f p xs, sum_by-cons)

-- a sum of as many terms, none of them greater than one of the other
sum-pairs : (f : ℕ → ℕ) (xs ys : List ℕ) → length xs ≤ length ys → ((x y : ℕ) → has_member xs x ≡ true → has_member ys y ≡ true → f x ≤ f y) → sum_by f xs ≤ sum_by f ys
sum-pairs f [] ys few each = omega arith
sum-pairs f (x ∷ xs) [] few each = absurd (omega arith)
sum-pairs f (x ∷ xs) (y ∷ ys) few each =
    omega (
      arith,
      each x y (has_member_head x xs) (has_member_head y ys),
      sum_by-cons f x xs,
      sum_by-cons f y ys,
      sum-pairs f xs ys (omega arith) (λ a b in_xs in_ys. each a b (or_right (x == a) (has_member xs a) in_xs) (or_right (y == b) (has_member ys b) in_ys)),
    )

-- if nobody outside a set is worth more than a member, no other set of its size is worth more
sum-best : (f : ℕ → ℕ) (m : ℕ) (set other : List ℕ) → IsIncreasing 1 m set → IsIncreasing 1 m other → length set ≡ length other
    → ((x c : ℕ) → has_member set x ≡ true → has_member set c ≡ false → f c ≤ f x) → sum_by f other ≤ sum_by f set
sum-best f m set other up rises size each =
    let only_set = filter (λ n. not (has_member other n)) set in
    let only_other = filter (λ n. not (has_member set n)) other in
    let both : filter (has_member other) set ≡ filter (has_member set) other =
    same_increasing 1 m (filter (has_member other) set) (filter (has_member set) other) (IsIncreasing-filter (has_member other) 1 m set up) (IsIncreasing-filter (has_member set) 1 m other rises)
    (λ n. has_member-filter (has_member other) set n ∙ and_comm (has_member other n) (has_member set n) ∙ sym (has_member-filter (has_member set) other n)) in
    let few : length only_other ≤ length only_set =
    omega (
      arith,
      ap length both,
      size,
      length-filter_both (has_member other) (λ n. not (has_member other n)) (λ n. refl) set,
      length-filter_both (has_member set) (λ n. not (has_member set n)) (λ n. refl) other,
    ) in
    let less = sum-pairs f only_other only_set few (λ c x in_other in_set.
    let outside = and_parts (not (has_member set c)) (has_member other c) (sym (has_member-filter (λ n. not (has_member set n)) other c) ∙ in_other) in
    let inside = and_parts (not (has_member other x)) (has_member set x) (sym (has_member-filter (λ n. not (has_member other n)) set x) ∙ in_set) in
    each x c inside.1 (not-member (has_member set c) outside.0)) in
    omega (arith, less, ap (sum_by f) both, sum-split f (has_member other) set, sum-split f (has_member set) other)

-- a committee without a member who has fewer approvals than a candidate outside has the highest value
from-approvals : (e : Election) (k : ℕ) (committee : List ℕ) → IsElection e → k ≤ most_members → IsIncreasing 1 e.m committee → length committee ≡ k
    → ((x c : ℕ) → has_member committee x ≡ true → has_member committee c ≡ false → voter_count (supporters e.rows c) ≤ voter_count (supporters e.rows x))
    → Contains (winners (tally_value (thiele_of e Av k)) e.m k) committee
from-approvals e k committee valid most up size each =
    let value = tally_value (thiele_of e Av k) in
    let best = some_winner value e.m k (omega (arith, size, length-increasing 1 e.m committee up)) in
    let is = winner-is value e.m k best.0 best.1 in
    let less = sum-best (λ x. sum_by (λ (row : Row). row.1 * bit (has_member row.0 x)) e.rows) e.m committee best.0 up is.0 (omega (arith, size, is.1))
    (λ x c here out. omega (arith, each x c here out, supported x e.rows, supported c e.rows)) in
    winner-from_is value e.m k committee (
      up,
      size,
      omega (
        arith,
        less,
        is.2,
        av-value e.m k committee e.rows most up size valid.ballots,
        av-value e.m k best.0 e.rows most is.0 is.1 valid.ballots,
        no_greater_value value e.m k committee (increasing_lists-contains 1 e.m k committee (up, size)),
      ),
    )

-- both ways
pub approvals-decide : (e : Election) (k : ℕ) (committee : List ℕ) → IsElection e → k ≤ most_members
    → Contains (winners (tally_value (thiele_of e Av k)) e.m k) committee
    ↔ (IsIncreasing 1 e.m committee × (length committee ≡ k) × ((x c : ℕ) → has_member committee x ≡ true → has_member committee c ≡ false → voter_count (supporters e.rows c) ≤ voter_count (supporters e.rows x)))
approvals-decide e k committee valid most = (
  λ wins. let is = winner-is (tally_value (thiele_of e Av k)) e.m k committee wins in (is.0, is.1, λ x c here out. most-approved e k committee x c valid most wins here out),
  λ chosen. from-approvals e k committee valid most chosen.0 chosen.1 chosen.2,
)
