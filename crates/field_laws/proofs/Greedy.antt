-- Sequential Chamberlin-Courant represents groups: if a group that is large enough shares a candidate outside the committee
-- and approves no member, each choice covers at least as many new voters as the group has. So all voters are covered.
use Rattle.std.proofs.Common.{◌≡◌, ℕ, zero, suc, ◌+◌, ◌*◌, ◌<◌, ◌≤◌, ◌==◌, ◌∙◌, true, false, not, cond, List, [], ◌∷◌, refl, sym, ap, arith, inl, inr, fold, length, take, get_or, sum, Contains}
use Rattle.std.specs.Prelude.{nat_le, nat_lt}
use Rattle.std.specs.List.{list_all, range_with_len}
use Rattle.std.proofs.Math.Nat.{mul-le-mul_left}
use Rattle.std.proofs.lemmas.Bool.{and_from, and_parts, cases_Bool, cases_lt, leb-true, lt-ltb, ltb-true, ne_eqb, or_right}
use Rattle.std.proofs.lemmas.List.{get_or_past}
use Rattle.std.proofs.lemmas.List.Elements.{All-contains}
use Rattle.std.proofs.lemmas.List.Sums.{length-filter, sum_by-cons}
use Rattle.ballot_base.specs.CandSet.{has_member, with_member}
use Rattle.ballot_base.specs.Ballots.{Row, Election, IsElection, hits, voter_count}
use Rattle.ballot_base.proofs.Increasing.{has_member-filter, has_member-with_member}
use Rattle.tie_walk.specs.Sequences.{weight, gain, hit_weights, others, has_greatest_gain, is_grown, sequential_winners}
use Rattle.tie_walk.specs.Values.{thiele_value}
use Rattle.tie_walk.specs.declared.sequential.SeqRule.TheVariants.{SeqCc}
use Rattle.tie_walk.specs.declared.sequential.Step.TheVariants.{Grow}
use Rattle.tie_walk.proofs.Gains.{thiele-partial}
use Rattle.tie_walk.proofs.HitWeights.{hit_weights-at, hit_weights-length}
use Rattle.tie_walk.proofs.RowSums.{AreBallots}
use Rattle.tie_walk.proofs.SequenceLaws.{grown-winner, sequential-sizes}
use Rattle.tie_walk.proofs.TableLemmas.{sum-take_more}
use Rattle.tie_walk.proofs.Thresholds.{filter-fewer}
use Rattle.tie_walk.proofs.WorthLemmas.{worth-whole}
use Rattle.group_check.specs.declared.property.Property.TheVariants.{Jr}
use Rattle.group_check.specs.Groups.{IsGroup, member_ballots, all_below, HasProperty}
use Rattle.group_check.proofs.GroupLemmas.{has_member-range}
use Rattle.group_check.proofs.SetLemmas.{passes_at}
use Rattle.field_laws.proofs.Exchanges.{not-member}
use Rattle.field_laws.proofs.LeftOut.{left-out}
use Rattle.field_laws.proofs.Losses.{gain-least}

-- ---- sets that grow

-- one set is within another
abbrev Within : List ℕ → List ℕ → Type 0
Within set more = (n : ℕ) → has_member set n ≡ true → has_member more n ≡ true

-- members stay as others join
stays : (set list : List ℕ) → Within set (fold with_member set list)
stays set [] n is = is
stays set (d ∷ list) n is = stays (with_member set d) list n (has_member-with_member set d n ∙ or_right (d == n) (has_member set n) is)

-- who is outside the larger set is outside the smaller one
outside-within : (set more : List ℕ) (c : ℕ) → Within set more → has_member more c ≡ false → has_member set c ≡ false
outside-within set more c within out = elim (cases_Bool (has_member set c)) [
  | inl member ↦ absurd (let e : true ≡ false = sym (within c member) ∙ out in cc)
  | inr not_member ↦ not_member
]

-- no ballot has more hits in the smaller set
below-within : (level : ℕ) (set more : List ℕ) (ballots : List (List ℕ)) → Within set more → all_below level more ballots ≡ true → all_below level set ballots ≡ true
below-within level set more [] within few = refl
below-within level set more (ballot ∷ ballots) within few =
    let parts = and_parts (nat_lt (hits ballot more) level) (all_below level more ballots) few in
    let fewer : hits ballot set ≤ hits ballot more =
    omega (arith, length-filter (has_member set) ballot, length-filter (has_member more) ballot, filter-fewer (has_member set) (has_member more) ballot (λ n there is. within n is)) in
    and_from (nat_lt (hits ballot set) level) (all_below level set ballots) (lt-ltb (hits ballot set) level (omega (arith, fewer, ltb-true (hits ballot more) level parts.0)))
    (below-within level set more ballots within parts.1)

-- ---- each choice gains at least the group

module _ (m : ℕ) (w : List ℕ) (rows : List Row) (c : ℕ) (group : List ℕ) (first : 1 ≤ weight w 1) (all : AreBallots m rows) (low : 1 ≤ c) (high : c ≤ m) (is : IsGroup rows group)
    (agree : list_all (λ ballot. has_member ballot c) (member_ballots rows group) ≡ true) where
  -- the first hit gives 1
  each : (h : ℕ) → h < 1 → 1 ≤ weight w (h + 1)
  each zero small = first
  each (suc h) small = absurd (omega arith)

  -- from each set on, as often as there are choices left
  choices-gain : (before list : List ℕ) → is_grown w m rows before list ≡ true → has_member (fold with_member before list) c ≡ false
      → all_below 1 (fold with_member before list) (member_ballots rows group) ≡ true
      → thiele_value w rows before + length list * sum group ≤ thiele_value w rows (fold with_member before list)
  choices-gain before [] made out none = omega arith
  choices-gain before (d ∷ list) made out none =
      let parts = and_parts (has_greatest_gain w m rows before d) (is_grown w m rows (with_member before d) list) made in
      let best = and_parts (has_member (others m before) d) (list_all (λ x. nat_le (gain w rows before x) (gain w rows before d)) (others m before)) parts.0 in
      let joins = and_parts (not (has_member before d)) (has_member (range_with_len 1 m) d) (sym (has_member-filter (λ x. not (has_member before x)) (range_with_len 1 m) d) ∙ best.0) in
      let new : has_member before d ≡ false = not-member (has_member before d) joins.0 in
      let still : has_member before c ≡ false = outside-within before (fold with_member before (d ∷ list)) c (stays before (d ∷ list)) out in
      let among : has_member (others m before) c ≡ true =
      has_member-filter (λ x. not (has_member before x)) (range_with_len 1 m) c
      ∙ and_from (not (has_member before c)) (has_member (range_with_len 1 m) c) (ap not still) (has_member-range 1 m c low (omega arith)) in
      let most = leb-true (gain w rows before c) (gain w rows before d) (passes_at (λ x. nat_le (gain w rows before x) (gain w rows before d)) (others m before) c best.1 among) in
      let few = below-within 1 before (fold with_member before (d ∷ list)) (member_ballots rows group) (stays before (d ∷ list)) none in
      omega (
        arith,
        most,
        gain-least w 1 1 before c rows group each is agree few,
        worth-whole Grow w rows before c,
        worth-whole Grow w rows before d,
        thiele-partial m w rows before d all new,
        choices-gain (with_member before d) list parts.1 out none,
      )

-- ---- no more voters than there are

-- if all hits of a voter give 1 at most, those who approve a member are outside the group
value-most : (w : List ℕ) (committee : List ℕ) (rows : List Row) (group : List ℕ) → ((h : ℕ) → sum (take h w) ≤ 1) → IsGroup rows group → all_below 1 committee (member_ballots rows group) ≡ true
    → thiele_value w rows committee + sum group ≤ voter_count rows
value-most w committee [] [] small is none = omega arith
value-most w committee [] (n ∷ group) small is none = absurd is
value-most w committee (row ∷ rows) [] small is none = absurd is
value-most w committee (row ∷ rows) (zero ∷ group) small is none =
    let here : row.1 * sum (take (hits row.0 committee) w) ≤ row.1 * 1 = mul-le-mul_left row.1 (small (hits row.0 committee)) in
    omega (arith, here, sum_by-cons (λ (r : Row). r.1 * sum (take (hits r.0 committee) w)) row rows, sum_by-cons (λ (x : ℕ). x) 0 group, sum_by-cons (λ (r : Row). r.1) row rows, value-most w committee rows group small is.1 none)
value-most w committee (row ∷ rows) (suc n ∷ group) small is none =
    let parts = and_parts (nat_lt (hits row.0 committee) 1) (all_below 1 committee (member_ballots rows group)) none in
    let nobody : hits row.0 committee ≡ 0 = omega (arith, ltb-true (hits row.0 committee) 1 parts.0) in
    let here = ap (λ h. row.1 * sum (take h w)) nobody in
    omega (arith, here, is.0, sum_by-cons (λ (r : Row). r.1 * sum (take (hits r.0 committee) w)) row rows, sum_by-cons (λ (x : ℕ). x) (suc n) group, sum_by-cons (λ (r : Row). r.1) row rows, value-most w committee rows group small is.1 parts.1)

-- ---- only the first hit counts

-- the first increment is 1, and the others are 0
seqcc-first : (m : ℕ) → 1 ≤ m → get_or (hit_weights SeqCc m) 0 0 ≡ 1
seqcc-first m some = hit_weights-at SeqCc m 0 (omega arith)

seqcc-later : (m i : ℕ) → get_or (hit_weights SeqCc m) (suc i) 0 ≡ 0
seqcc-later m i = elim (cases_lt (suc i) m) [
  | inl low ↦ hit_weights-at SeqCc m (suc i) low ∙ ap (λ b. cond {A = ℕ} b 1 0) (ne_eqb (suc i + 1) 1 (λ e. absurd (omega (arith, e))))
  | inr high ↦ get_or_past (hit_weights SeqCc m) (suc i) 0 (omega (arith, high, hit_weights-length SeqCc m))
]

-- so all hits together give 1 at most
seqcc-most : (m : ℕ) → 1 ≤ m → (h : ℕ) → sum (take h (hit_weights SeqCc m)) ≤ 1
seqcc-most m some zero = omega arith
seqcc-most m some (suc zero) = omega (arith, sum-take_more (hit_weights SeqCc m) 0, seqcc-first m some)
seqcc-most m some (suc (suc h)) =
    let next : sum (take (suc (suc h)) (hit_weights SeqCc m)) ≡ sum (take (suc h + 1) (hit_weights SeqCc m)) = ap (λ n. sum (take n (hit_weights SeqCc m))) (let e : suc (suc h) ≡ suc h + 1 = omega arith in e) in
    omega (arith, next, sum-take_more (hit_weights SeqCc m) (suc h), seqcc-later m h, seqcc-most m some (suc h))

-- all choices together would cover more voters than there are beside the group
pub seqcc-justified : (e : Election) (k : ℕ) (committee : List ℕ) → IsElection e → 1 ≤ voter_count e.rows → Contains (sequential_winners SeqCc e k) committee → HasProperty Jr e committee
seqcc-justified e k committee valid voters wins level least most broken =
    let w = hit_weights SeqCc e.m in
    let made = (grown-winner w e.m e.rows k committee).0 wins in
    let found = left-out e committee level voters broken in
    let is = found.1 in
    let end : fold with_member [] made.0 ≡ committee = made.3 in
    let gains = choices-gain e.m w e.rows found.0 broken.0 (omega (arith, seqcc-first e.m valid.least)) valid.ballots is.low is.high is.within is.approved [] made.0 made.2
    (ap (λ set. has_member set found.0) end ∙ is.outside) (ap (λ set. all_below 1 set (member_ballots e.rows broken.0)) end ∙ is.none) in
    let size : length committee ≡ k = All-contains (λ set. length set ≡ k) (sequential_winners SeqCc e k) committee (sequential-sizes SeqCc e k) wins in
    omega (
      arith,
      gains,
      ap (thiele_value w e.rows) end,
      value-most w committee e.rows broken.0 (seqcc-most e.m valid.least) is.within is.none,
      is.large,
      is.some,
      ap (λ l. l * sum broken.0) made.1,
      ap (λ l. sum broken.0 * l) size,
    )
