-- Which rules represent groups of voters.
use Rattle.std.proofs.Common.{◌≡◌, ℕ, zero, suc, ◌+◌, ◌*◌, ◌/◌, ◌<◌, ◌≤◌, ◌∙◌, cond, List, ap, arith, add-one, inl, inr, length, get_or, sum, Contains}
use Rattle.std.specs.List.{list_any}
use Rattle.std.proofs.lemmas.Bool.{cases_lt, leb-true, ne_eqb}
use Rattle.std.proofs.lemmas.List.{get_or_past}
use Rattle.std.proofs.lemmas.Nat.{le-div}
use Rattle.std.proofs.Math.Nat.{mul-le-mul_left}
use Rattle.ballot_base.specs.Limits.{most_members}
use Rattle.ballot_base.specs.Lists.{IsIncreasing}
use Rattle.ballot_base.specs.CandSet.{has_member}
use Rattle.ballot_base.specs.CommonMultiple.{common_multiple}
use Rattle.ballot_base.specs.Increments.{increments}
use Rattle.ballot_base.specs.declared.increments.ThieleRule.TheVariants.{Cc, Pav}
use Rattle.ballot_base.specs.Ballots.{Election, IsElection, voter_count}
use Rattle.ballot_base.proofs.LeastMultiples.{common_multiple_some}
use Rattle.ballot_base.proofs.WeightLemmas.{increments-length, increments-past, increments-within, quotient-exact}
use Rattle.tie_walk.specs.Sequences.{weight}
use Rattle.tie_walk.specs.Values.{thiele_of, tally_value}
use Rattle.tie_walk.specs.Winners.{winners}
use Rattle.tie_walk.proofs.LawLemmas.{winner-is}
use Rattle.group_check.specs.declared.property.Property.{Property}
use Rattle.group_check.specs.declared.property.Property.TheVariants.{Jr, Pjr, Ejr, EjrPlus}
use Rattle.group_check.specs.Groups.{member_ballots, common_candidates, is_large_enough, is_outside, all_below, HasProperty}
use Rattle.group_check.proofs.BreakLemmas.{and_middle}
use Rattle.group_check.proofs.LawLemmas.{ejr-pjr, ejrplus-ejr, pjr-jr}
use Rattle.field_laws.proofs.Exchanges.{not-member}
use Rattle.field_laws.proofs.LeftOut.{left-out, shared}
use Rattle.field_laws.proofs.Losses.{no-group}

-- ---- Chamberlin-Courant

-- only the first hit counts
cc-first : (k : ℕ) → 1 ≤ k → weight (increments Cc k) 1 ≡ 1
cc-first k some = increments-within Cc k 0 (omega arith) some

-- the increments after the first are 0
cc-later : (k i : ℕ) → get_or (increments Cc k) (suc i) 0 ≡ 0
cc-later k i = elim (cases_lt (suc i) k) [
  | inl low ↦ elim (cases_lt (suc i) most_members) [
    | inl within ↦ increments-within Cc k (suc i) within low ∙ ap (λ b. cond {A = ℕ} b 1 0) (ne_eqb (suc i + 1) 1 (λ e. absurd (omega (arith, e))))
    | inr past ↦ get_or_past (increments Cc k) (suc i) 0 (omega (arith, past, increments-length Cc k))
  ]
  | inr high ↦ increments-past Cc k (suc i) high
]

-- so all hits together give 1 at most
cc-most : (k : ℕ) → 1 ≤ k → (h : ℕ) → h * weight (increments Cc k) h ≤ 1
cc-most k some zero = omega arith
cc-most k some (suc zero) = omega (arith, cc-first k some)
cc-most k some (suc (suc h)) = omega (arith, ap (λ n. suc (suc h) * n) (cc-later k h))

-- and the first hit gives 1
cc-least : (k : ℕ) → 1 ≤ k → (h : ℕ) → h < 1 → 1 ≤ weight (increments Cc k) (h + 1)
cc-least k some zero low = omega (arith, cc-first k some)
cc-least k some (suc h) low = absurd (omega arith)

-- A group that breaks justified representation has a shared candidate outside the winner, and no hits.
pub cc-justified : (e : Election) (k : ℕ) (committee : List ℕ) → IsElection e → 1 ≤ voter_count e.rows → Contains (winners (tally_value (thiele_of e Cc k)) e.m k) committee → HasProperty Jr e committee
cc-justified e k committee valid voters wins level least most broken =
    let found = left-out e committee level voters broken in
    let is = found.1 in
    let size : length committee ≡ k = (winner-is (tally_value (thiele_of e Cc k)) e.m k committee wins).1 in
    let large : 1 * voter_count e.rows ≤ sum broken.0 * k = omega (arith, is.large, ap (λ l. sum broken.0 * l) size) in
    let some : 1 ≤ k = omega (arith, size) in
    no-group e (increments Cc k) 1 1 k 1 committee found.0 broken.0 valid.ballots wins (cc-most k some) (cc-least k some) (omega arith) (omega arith) voters is.outside is.low is.high is.within is.approved is.none large

-- ---- proportional approval voting

-- all hits together give the denominator at most
pav-most : (k h : ℕ) → h * weight (increments Pav k) h ≤ common_multiple k
pav-most k zero = omega arith
pav-most k (suc i) = elim (cases_lt i k) [
  | inl low ↦ elim (cases_lt i most_members) [
    | inl within ↦ omega (
      arith,
      quotient-exact k (i + 1) (omega arith) (omega (arith, low)),
      ap (λ n. suc i * n) (increments-within Pav k i within low),
    )
    | inr past ↦ omega (arith, ap (λ n. suc i * n) (get_or_past (increments Pav k) i 0 (omega (arith, past, increments-length Pav k))))
  ]
  | inr high ↦ omega (arith, ap (λ n. suc i * n) (increments-past Pav k i high))
]

-- each hit up to a level gives at least the increment at it
pav-least : (k level h : ℕ) → k ≤ most_members → 1 ≤ level → level ≤ k → h < level → common_multiple k / level ≤ weight (increments Pav k) (h + 1)
pav-least k level h most some within below =
    let place : weight (increments Pav k) (h + 1) ≡ get_or (increments Pav k) h 0 = ap (weight (increments Pav k)) (add-one h) in
    let is = increments-within Pav k h (omega (arith, below, within, most)) (omega (arith, below, within)) in
    let part : common_multiple k / level * (h + 1) ≤ common_multiple k / level * level = mul-le-mul_left (common_multiple k / level) (omega (arith, below)) in
    let rises = le-div (common_multiple k / level) (common_multiple k) (h + 1) (omega arith) (omega (arith, part, quotient-exact k level some within)) in
    omega (arith, place, is, rises)

-- A group that breaks EJR+ has a shared candidate outside the winner, and fewer hits than the level.
pav-represents : (e : Election) (k : ℕ) (committee : List ℕ) → IsElection e → 1 ≤ voter_count e.rows → k ≤ most_members → Contains (winners (tally_value (thiele_of e Pav k)) e.m k) committee
    → HasProperty EjrPlus e committee
pav-represents e k committee valid voters fits wins level least most broken =
    let group = broken.0 in
    let ballots = member_ballots e.rows group in
    let parts = and_middle (is_large_enough e (length committee) level group) (list_any (is_outside committee) (common_candidates e.m ballots)) (all_below level committee ballots) broken.2 in
    let size : length committee ≡ k = (winner-is (tally_value (thiele_of e Pav k)) e.m k committee wins).1 in
    let large : level * voter_count e.rows ≤ sum group * k = omega (arith, leb-true (level * voter_count e.rows) (sum group * length committee) parts.0, ap (λ l. sum group * l) size) in
    let within : level ≤ k = omega (arith, size, most) in
    let found = shared e.m (is_outside committee) ballots parts.1 in
    let is = found.1 in
    let exact : common_multiple k ≤ level * (common_multiple k / level) = omega (arith, quotient-exact k level least within) in
    no-group e (increments Pav k) (common_multiple k) (common_multiple k / level) k level committee found.0 group valid.ballots wins (pav-most k) (λ h below. pav-least k level h fits least within below)
    exact (omega (arith, common_multiple_some k)) voters (not-member (has_member committee found.0) is.passes) is.low is.high broken.1 is.approved parts.2 large

-- each of the other properties follows
module _ (e : Election) (k : ℕ) (committee : List ℕ) (valid : IsElection e) (voters : 1 ≤ voter_count e.rows) (fits : k ≤ most_members) (wins : Contains (winners (tally_value (thiele_of e Pav k)) e.m k) committee) where
  up : IsIncreasing 1 e.m committee
  up = (winner-is (tally_value (thiele_of e Pav k)) e.m k committee wins).0

  extended : HasProperty Ejr e committee
  extended = ejrplus-ejr e committee valid voters up (pav-represents e k committee valid voters fits wins)

  proportional : HasProperty Pjr e committee
  proportional = ejr-pjr e committee valid up extended

  pub pav-all : (property : Property) → HasProperty property e committee
  pav-all Jr = pjr-jr e committee proportional
  pav-all Pjr = proportional
  pav-all Ejr = extended
  pav-all EjrPlus = pav-represents e k committee valid voters fits wins
