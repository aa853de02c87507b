-- On party lists, sequential proportional approval voting makes exactly the committees that share out their seats by
-- D'Hondt's method. A seat goes to a list that gives most for it, and this keeps the shares right. The other way, the
-- seat for which its list gives least is the last one to be given.
use Rattle.std.proofs.Common.{◌≡◌, ℕ, zero, suc, ◌+◌, ◌*◌, ◌/◌, ◌≤◌, ◌∙◌, ◌↔◌, ◌==◌, Bool, true, false, not, cond, List, [], ◌∷◌, refl, sym, ap, arith, inl, inr, length, subst, sum_by, Contains}
use Rattle.std.specs.Prelude.{nat_le}
use Rattle.std.specs.List.{list_all, range_with_len}
use Rattle.std.proofs.Math.Nat.{div-mul-le_self, le_of_mul-le-mul_right, mul-le-mul_left, mul-le-mul_right, one-le-mul}
use Rattle.std.proofs.lemmas.Bool.{and_from, and_parts, cases_lt, le-leb, leb-true}
use Rattle.std.proofs.lemmas.List.Sums.{sum_by-cons}
use Rattle.ballot_base.specs.Lists.{IsIncreasing}
use Rattle.ballot_base.specs.CandSet.{has_member, with_member, without_member}
use Rattle.ballot_base.specs.CommonMultiple.{common_multiple}
use Rattle.ballot_base.specs.Ballots.{Row, Election, IsElection, hits, voter_count}
use Rattle.ballot_base.proofs.Committees.{IsIncreasing-range, length-increasing}
use Rattle.ballot_base.proofs.Increasing.{IsIncreasing-filter, IsIncreasing-with_member, has_member-filter, length-with_member}
use Rattle.ballot_base.proofs.LeastMultiples.{common_multiple_some}
use Rattle.ballot_base.proofs.WeightLemmas.{quotient-exact}
use Rattle.tie_walk.specs.Sequences.{weight, gain, hit_weights, sequential_winners}
use Rattle.tie_walk.specs.Steps.Choices.{change, is_choice, open_candidates, IsReached}
use Rattle.tie_walk.specs.declared.sequential.SeqRule.TheVariants.{SeqPav}
use Rattle.tie_walk.specs.declared.sequential.Step.TheVariants.{Grow}
use Rattle.tie_walk.proofs.Choices.{reached_last, reached_more, reached_none, reached_start}
use Rattle.tie_walk.proofs.Gains.{hits-with}
use Rattle.tie_walk.proofs.HitWeights.{hit_weights-at}
use Rattle.tie_walk.proofs.RowSums.{AreBallots}
use Rattle.tie_walk.proofs.SequenceLaws.{grown-winner}
use Rattle.tie_walk.proofs.SequenceLemmas.{fold-grow, grown-follows, length-without_member}
use Rattle.tie_walk.proofs.WorthLemmas.{worth-whole}
use Rattle.sequential_winners.proofs.Lists.{with-without, without-itself}
use Rattle.group_check.proofs.GroupLemmas.{has_member-range}
use Rattle.group_check.proofs.SetLemmas.{all_pass, passes_at}
use Rattle.seat_share.specs.declared.method.Method.TheVariants.{Dhondt}
use Rattle.field_laws.specs.PartyLists.{ArePartyLists, IsApportioned}
use Rattle.field_laws.proofs.Exchanges.{not-member}
use Rattle.field_laws.proofs.PartyRows.{Among, among-each, given-none, given-once, lists_with, lists-cons, same-list, some-list}
use Rattle.field_laws.proofs.SharedSeats.{ballot-within, cross, cross-back, hits-few, each-counts, some-in, some-out, some-part, some-row}
use Rattle.field_laws.proofs.Shares.{IsShared, fair-from_shared, shared-from_fair}

-- a candidate who is on a list is on one of the rows
list-of : (c : ℕ) (rows : List Row) → 1 ≤ lists_with c rows → (row : Row) × Among rows row × (has_member row.0 c ≡ true)
list-of c [] some = absurd (omega (arith, some))
list-of c (row ∷ rows) some = by (has_member row.0 c) refl (list-of c rows)
  where
    by : (b : Bool) → has_member row.0 c ≡ b → (1 ≤ lists_with c rows → (r : Row) × Among rows r × (has_member r.0 c ≡ true)) → (r : Row) × Among (row ∷ rows) r × (has_member r.0 c ≡ true)
    by true has later = (row, inl refl, has)
    by false lacks later =
        let rest = later (omega (arith, some, lists-cons c row rows, ap (λ b. cond {A = ℕ} b 1 0) lacks)) in
        (rest.0, inr rest.1, rest.2)

-- nobody has a seat
AreNone : List Row → List ℕ → Type 0
AreNone rows set = sum_by (λ (row : Row). hits row.0 set) rows ≡ 0

-- no seat of the lists is cheaper than the last one of this list
record IsCheapest (rows : List Row) (set : List ℕ) (one : Row) : Type 0 where
  inside : Among rows one
  seat : 1 ≤ hits one.0 set
  least : (other : Row) → Among rows other → 1 ≤ hits other.0 set → one.1 * hits other.0 set ≤ other.1 * hits one.0 set

-- a is at most b, and b at most c, as votes over seats
through : (a x b y c z : ℕ) → 1 ≤ y → a * y ≤ b * x → b * z ≤ c * y → a * z ≤ c * x
through a x b y c z some first second =
    let left : a * y * z ≤ b * x * z = mul-le-mul_right z first in
    let right : b * z * x ≤ c * y * x = mul-le-mul_right x second in
    le_of_mul-le-mul_right {m = a * z} {n = c * x} {k = y} (omega (arith, left, right)) some

-- some list has the cheapest seat, if there is a seat
cheapest : (rows : List Row) (set : List ℕ) → 1 ≤ sum_by (λ (row : Row). hits row.0 set) rows → (one : Row) × IsCheapest rows set one
cheapest [] set some = absurd (omega (arith, some))
cheapest (row ∷ rows) set some = elim (cases_lt 0 (hits row.0 set)) [
  | inr none ↦ shifted (omega (arith, none)) (cheapest rows set (omega (arith, some, none, sum_by-cons (λ (r : Row). hits r.0 set) row rows)))
  | inl seat ↦ elim (cases_lt 0 (sum_by (λ (r : Row). hits r.0 set) rows)) [
    | inr none ↦ (row, record { inside = inl refl; seat = seat; least = alone (omega (arith, none)) })
    | inl others ↦ compared seat (cheapest rows set others)
  ]
]
  where
    shifted : hits row.0 set ≡ 0 → (one : Row) × IsCheapest rows set one → (one : Row) × IsCheapest (row ∷ rows) set one
    shifted none found = (
      found.0,
      record {
        inside = inr found.1.inside;
        seat = found.1.seat;
        least = λ other among seat. elim among [
          | inl is ↦ absurd (omega (arith, none, seat, ap (λ (r : Row). hits r.0 set) is))
          | inr later ↦ found.1.least other later seat
        ];
      },
    )

    none-among : (list : List Row) (other : Row) → sum_by (λ (r : Row). hits r.0 set) list ≡ 0 → Among list other → hits other.0 set ≡ 0
    none-among [] other none among = absurd among
    none-among (first ∷ list) other none (inl is) = omega (arith, none, sum_by-cons (λ (r : Row). hits r.0 set) first list, ap (λ (r : Row). hits r.0 set) is)
    none-among (first ∷ list) other none (inr later) = none-among list other (omega (arith, none, sum_by-cons (λ (r : Row). hits r.0 set) first list)) later

    alone : sum_by (λ (r : Row). hits r.0 set) rows ≡ 0 → (other : Row) → Among (row ∷ rows) other → 1 ≤ hits other.0 set → row.1 * hits other.0 set ≤ other.1 * hits row.0 set
    alone none other (inl is) seat = omega (arith, ap (λ (r : Row). row.1 * hits r.0 set) is, ap (λ (r : Row). r.1 * hits row.0 set) is)
    alone none other (inr later) seat = absurd (omega (arith, seat, none-among rows other none later))

    compared : 1 ≤ hits row.0 set → (one : Row) × IsCheapest rows set one → (one : Row) × IsCheapest (row ∷ rows) set one
    compared seat found = elim (cases_lt (found.0.1 * hits row.0 set) (row.1 * hits found.0.0 set)) [
      | inl dearer ↦ (
        found.0,
        record {
          inside = inr found.1.inside;
          seat = found.1.seat;
          least = λ other among has. elim among [
            | inl is ↦ omega (arith, dearer, ap (λ (r : Row). found.0.1 * hits r.0 set) is, ap (λ (r : Row). r.1 * hits found.0.0 set) is)
            | inr later ↦ found.1.least other later has
          ];
        },
      )
      | inr cheaper ↦ (
        row,
        record {
          inside = inl refl;
          seat = seat;
          least = λ other among has. elim among [
            | inl is ↦ omega (arith, ap (λ (r : Row). row.1 * hits r.0 set) is, ap (λ (r : Row). r.1 * hits row.0 set) is)
            | inr later ↦ through row.1 (hits row.0 set) found.0.1 (hits found.0.0 set) other.1 (hits other.0 set) found.1.seat cheaper (found.1.least other later has)
          ];
        },
      )
    ]

module _ (m k : ℕ) (rows : List Row) (all : AreBallots m rows) (lists : ArePartyLists k rows) (counts : (row : Row) → Among rows row → 1 ≤ row.1) (some_list : Row) (is_list : Among rows some_list) where
  abbrev w : List ℕ
  w = hit_weights SeqPav m

  abbrev whole : ℕ
  whole = common_multiple m

  row-up : (row : Row) → Among rows row → IsIncreasing 1 m row.0
  row-up row inside = among-each (λ (r : Row). IsIncreasing 1 m r.0) rows row all inside

  row-long : (row : Row) → Among rows row → k ≤ length row.0
  row-long row inside = among-each (λ (r : Row). k ≤ length r.0) rows row lists.long inside

  pub few-seats : k ≤ m
  few-seats = omega (arith, row-long some_list is_list, length-increasing 1 m some_list.0 (row-up some_list is_list))

  weight-at : (j : ℕ) → 1 ≤ j → j ≤ m → weight w j ≡ whole / j
  weight-at zero some few = absurd (omega (arith, some))
  weight-at (suc j) some few = let same : j + 1 ≡ suc j = omega arith in hit_weights-at SeqPav m j (omega (arith, few)) ∙ ap (λ n. whole / n) same

  -- what a list gives for one of its candidates
  gain-on : (set : List ℕ) (c : ℕ) (row : Row) → Among rows row → has_member row.0 c ≡ true → hits row.0 set + 1 ≤ m → gain w rows set c ≡ row.1 * (whole / (hits row.0 set + 1))
  gain-on set c row inside has few =
      sym (worth-whole Grow w rows set c) ∙ given-once c (λ (r : Row). weight w (hits r.0 set + 1)) rows row (lists.apart c) inside has
      ∙ ap (λ n. row.1 * n) (weight-at (hits row.0 set + 1) (omega arith) few)

  gain-off : (set : List ℕ) (c : ℕ) → lists_with c rows ≡ 0 → gain w rows set c ≡ 0
  gain-off set c none = sym (worth-whole Grow w rows set c) ∙ given-none c (λ (r : Row). weight w (hits r.0 set + 1)) rows none

  -- the hits of all lists, with one more member
  sum-with : (set : List ℕ) (c : ℕ) (some : List Row) → AreBallots m some → has_member set c ≡ false
      → sum_by (λ (row : Row). hits row.0 (with_member set c)) some ≡ sum_by (λ (row : Row). hits row.0 set) some + lists_with c some
  sum-with set c [] up out = refl
  sum-with set c (row ∷ some) up out =
      omega (
        arith,
        hits-with 1 m row.0 set c up.0 out,
        lists-cons c row some,
        sum_by-cons (λ (r : Row). hits r.0 (with_member set c)) row some,
        sum_by-cons (λ (r : Row). hits r.0 set) row some,
        sum-with set c some up.1 out,
      )

  module _ (n : ℕ) (set : List ℕ) (up : IsIncreasing 1 m set) (size : length set ≡ n) (room : n + 1 ≤ k) where
    few-hits : (row : Row) → Among rows row → hits row.0 set ≤ n
    few-hits row inside = omega (arith, size, hits-few m row.0 set (row-up row inside) up)

    -- each list has a candidate left
    left-over : (row : Row) → Among rows row → (c : ℕ) × (has_member row.0 c ≡ true) × (has_member set c ≡ false)
    left-over row inside = some-out row.0 set (omega (arith, few-hits row inside, room, row-long row inside))

    in-open : (c : ℕ) → 1 ≤ c → c ≤ m → has_member set c ≡ false → has_member (open_candidates Grow m set) c ≡ true
    in-open c low high out =
        has_member-filter (λ x. not (has_member set x)) (range_with_len 1 m) c
        ∙ and_from (not (has_member set c)) (has_member (range_with_len 1 m) c) (ap not out) (has_member-range 1 m c low (omega (arith, high)))

    gain-of : (row : Row) (c : ℕ) → Among rows row → has_member row.0 c ≡ true → gain w rows set c ≡ row.1 * (whole / (hits row.0 set + 1))
    gain-of row c inside has = gain-on set c row inside has (omega (arith, few-hits row inside, room, few-seats))

    -- ---- a choice keeps the shares right

    module _ (shared : IsShared n rows set) (c : ℕ) (choice : is_choice Grow w m rows set c ≡ true) where
      parts : (has_member (open_candidates Grow m set) c ≡ true) × (list_all (λ d. nat_le (gain w rows set d) (gain w rows set c)) (open_candidates Grow m set) ≡ true)
      parts = and_parts (has_member (open_candidates Grow m set) c) (list_all (λ d. nat_le (gain w rows set d) (gain w rows set c)) (open_candidates Grow m set)) choice

      outside : has_member set c ≡ false
      outside =
          not-member (has_member set c)
          (and_parts (not (has_member set c)) (has_member (range_with_len 1 m) c) (sym (has_member-filter (λ x. not (has_member set x)) (range_with_len 1 m) c) ∙ parts.0)).0

      -- no list would give more
      best-gain : (row : Row) → Among rows row → row.1 * (whole / (hits row.0 set + 1)) ≤ gain w rows set c
      best-gain row inside =
          let d = left-over row inside in
          let within = ballot-within m row.0 d.0 (row-up row inside) d.1 in
          let most = passes_at (λ x. nat_le (gain w rows set x) (gain w rows set c)) (open_candidates Grow m set) d.0 parts.1 (in-open d.0 within.0 within.1 d.2) in
          omega (arith, leb-true (gain w rows set d.0) (gain w rows set c) most, gain-of row d.0 inside d.1)

      -- so the candidate is on a list
      on-a-list : 1 ≤ lists_with c rows
      on-a-list = elim (cases_lt (lists_with c rows) 1) [
        | inr some ↦ some
        | inl none ↦
            let j = hits some_list.0 set + 1 in
            let few : j ≤ m = omega (arith, few-hits some_list is_list, room, few-seats) in
            let part = some-part (whole / j) j whole (quotient-exact m j (omega arith) few) (common_multiple_some m) in
            absurd (omega (arith, best-gain some_list is_list, gain-off set c (omega (arith, none)), one-le-mul (counts some_list is_list) part))
      ]

      pub choice-shares : IsShared (n + 1) rows (with_member set c)
      choice-shares = record {
        all = omega (arith, sum-with set c rows all outside, shared.all, on-a-list, lists.apart c);
        best = λ one other inside also seat. pair one other inside also seat (has_member one.0 c) refl (has_member other.0 c) refl;
      }
        where
          more : (row : Row) → Among rows row → hits row.0 (with_member set c) ≡ hits row.0 set + cond (has_member row.0 c) 1 0
          more row inside = hits-with 1 m row.0 set c (row-up row inside) outside

          one-more : (row : Row) → Among rows row → (b : Bool) → has_member row.0 c ≡ b → hits row.0 (with_member set c) ≡ hits row.0 set + cond b 1 0
          one-more row inside b is = omega (arith, more row inside, ap (λ x. cond {A = ℕ} x 1 0) is)

          pair : (one other : Row) → Among rows one → Among rows other → 1 ≤ hits one.0 (with_member set c) → (b : Bool) → has_member one.0 c ≡ b → (d : Bool) → has_member other.0 c ≡ d
              → other.1 * hits one.0 (with_member set c) ≤ one.1 * (hits other.0 (with_member set c) + 1)
          pair one other inside also seat true has true has' =
              let same = same-list c rows one other (lists.apart c) inside also has has' in
              omega (arith, ap (λ (r : Row). r.1 * hits one.0 (with_member set c)) same, ap (λ (r : Row). one.1 * hits r.0 (with_member set c)) same)
          pair one other inside also seat true has false lacks =
              let ours = gain-of one c inside has in
              let few = few-hits one inside in
              let few' = few-hits other also in
              let less =
              cross other.1 one.1 (hits one.0 set + 1) (hits other.0 set) (whole / (hits one.0 set + 1)) (whole / (hits other.0 set + 1)) whole
              (quotient-exact m (hits one.0 set + 1) (omega arith) (omega (arith, few, room, few-seats))) (quotient-exact m (hits other.0 set + 1) (omega arith) (omega (arith, few', room, few-seats)))
              (common_multiple_some m) (omega (arith, best-gain other also, ours)) in
              omega (arith, less, ap (λ h. other.1 * h) (one-more one inside true has), ap (λ h. one.1 * h) (one-more other also false lacks))
          pair one other inside also seat false lacks d is =
              let same = one-more one inside false lacks in
              let old = shared.best one other inside also (omega (arith, seat, same)) in
              let grown : one.1 * (hits other.0 set + 1) ≤ one.1 * (hits other.0 (with_member set c) + 1) = mul-le-mul_left one.1 (omega (arith, more other also)) in
              omega (arith, old, grown, ap (λ h. other.1 * h) same)

    -- ---- a seat for which its list gives least is the last one

    module _ (x : ℕ) (low : 1 ≤ x) (high : x ≤ m) (outside : has_member set x ≡ false) (shared : IsShared (n + 1) rows (with_member set x)) (one : Row) (inside : Among rows one) (has : has_member one.0 x ≡ true)
        (cheap : (other : Row) → Among rows other → 1 ≤ hits other.0 (with_member set x) → one.1 * hits other.0 (with_member set x) ≤ other.1 * hits one.0 (with_member set x)) where
      one-has : hits one.0 (with_member set x) ≡ hits one.0 set + 1
      one-has = omega (arith, hits-with 1 m one.0 set x (row-up one inside) outside, ap (λ b. cond {A = ℕ} b 1 0) has)

      other-has : (other : Row) → Among rows other → has_member other.0 x ≡ false → hits other.0 (with_member set x) ≡ hits other.0 set
      other-has other also lacks = omega (arith, hits-with 1 m other.0 set x (row-up other also) outside, ap (λ b. cond {A = ℕ} b 1 0) lacks)

      -- without it the shares are right
      pub before-shares : IsShared n rows set
      before-shares = record {
        all = omega (arith, sum-with set x rows all outside, shared.all, some-list x rows one inside has, lists.apart x);
        best = λ a b among also seat. pair a b among also seat (has_member a.0 x) refl (has_member b.0 x) refl;
      }
        where
          pair : (a b : Row) → Among rows a → Among rows b → 1 ≤ hits a.0 set → (p : Bool) → has_member a.0 x ≡ p → (q : Bool) → has_member b.0 x ≡ q → b.1 * hits a.0 set ≤ a.1 * (hits b.0 set + 1)
          pair a b among also seat true has_a true has_b =
              let same = same-list x rows a b (lists.apart x) among also has_a has_b in
              omega (arith, ap (λ (r : Row). r.1 * hits a.0 set) same, ap (λ (r : Row). a.1 * hits r.0 set) same)
          pair a b among also seat true has_a false lacks =
              let same = same-list x rows one a (lists.apart x) inside among has has_a in
              let grown : hits a.0 (with_member set x) ≡ hits a.0 set + 1 = omega (arith, hits-with 1 m a.0 set x (row-up a among) outside, ap (λ y. cond {A = ℕ} y 1 0) has_a) in
              let old = shared.best a b among also (omega (arith, grown)) in
              omega (arith, old, ap (λ h. b.1 * h) grown, ap (λ h. a.1 * h) (other-has b also lacks))
          pair a b among also seat false lacks true has_b =
              let same = same-list x rows one b (lists.apart x) inside also has has_b in
              let kept = other-has a among lacks in
              let less = cheap a among (omega (arith, seat, kept)) in
              omega (
                arith,
                less,
                ap (λ h. one.1 * h) kept,
                ap (λ h. a.1 * h) one-has,
                ap (λ (r : Row). r.1 * hits a.0 set) same,
                ap (λ (r : Row). a.1 * hits r.0 set) same,
              )
          pair a b among also seat false lacks false lacks' =
              let kept = other-has a among lacks in
              let old = shared.best a b among also (omega (arith, seat, kept)) in
              omega (arith, old, ap (λ h. b.1 * h) kept, ap (λ h. a.1 * h) (other-has b also lacks'))

      -- and it is a best choice
      pub last-choice : is_choice Grow w m rows set x ≡ true
      last-choice =
          and_from (has_member (open_candidates Grow m set) x) (list_all (λ d. nat_le (gain w rows set d) (gain w rows set x)) (open_candidates Grow m set)) (in-open x low high outside)
          (all_pass (λ d. nat_le (gain w rows set d) (gain w rows set x)) (open_candidates Grow m set) (λ d is. le-leb (gain w rows set d) (gain w rows set x) (no-more d)))
        where
          ours : gain w rows set x ≡ one.1 * (whole / (hits one.0 set + 1))
          ours = gain-of one x inside has

          by-list : (d : ℕ) (row : Row) → Among rows row → has_member row.0 d ≡ true → (b : Bool) → has_member row.0 x ≡ b → gain w rows set d ≤ gain w rows set x
          by-list d row among on true has_row =
              let same = same-list x rows row one (lists.apart x) among inside has_row has in
              omega (arith, ours, gain-of row d among on, ap (λ (r : Row). r.1 * (whole / (hits r.0 set + 1))) same)
          by-list d row among on false lacks =
              let fair = shared.best one row inside among (omega (arith, one-has)) in
              let less : row.1 * (hits one.0 set + 1) ≤ one.1 * (hits row.0 set + 1) = omega (arith, fair, ap (λ h. row.1 * h) one-has, ap (λ h. one.1 * h) (other-has row among lacks)) in
              let few = few-hits one inside in
              let most =
              cross-back row.1 one.1 (hits one.0 set + 1) (hits row.0 set) (whole / (hits one.0 set + 1)) (whole / (hits row.0 set + 1)) whole
              (quotient-exact m (hits one.0 set + 1) (omega arith) (omega (arith, few, room, few-seats))) (div-mul-le_self whole (hits row.0 set + 1)) (omega arith) less in
              omega (arith, most, ours, gain-of row d among on)

          no-more : (d : ℕ) → gain w rows set d ≤ gain w rows set x
          no-more d = elim (cases_lt (lists_with d rows) 1) [
            | inl none ↦ omega (arith, gain-off set d (omega (arith, none)))
            | inr some ↦ let row = list-of d rows some in by-list d row.0 row.1 row.2 (has_member row.0.0 x) refl
          ]

  -- ---- all choices

  abbrev IsMade : ℕ → List ℕ → Type 0
  IsMade n set = IsReached (is_choice Grow w m rows) (change Grow) [] n set

  pub record IsRight (n : ℕ) (set : List ℕ) : Type 0 where
    pub up : IsIncreasing 1 m set
    pub size : length set ≡ n
    pub shared : IsShared n rows set

  -- nobody has a hit at the beginning
  none-hit : (ballot : List ℕ) → hits ballot [] ≡ 0
  none-hit [] = refl
  none-hit (c ∷ ballot) = omega (arith, none-hit ballot, sum_by-cons (λ x. cond (has_member [] x) 1 0) c ballot)

  none-hit_all : (some : List Row) → sum_by (λ (row : Row). hits row.0 []) some ≡ 0
  none-hit_all [] = refl
  none-hit_all (row ∷ some) = omega (arith, none-hit row.0, none-hit_all some, sum_by-cons (λ (r : Row). hits r.0 []) row some)

  empty-right : IsRight 0 []
  empty-right = record {
    up = tt;
    size = refl;
    shared = record { all = none-hit_all rows; best = λ one other inside also seat. absurd (omega (arith, seat, none-hit one.0)) };
  }

  pub made-right : (n : ℕ) (set : List ℕ) → n ≤ k → IsMade n set → IsRight n set
  made-right zero set few made = subst (IsRight 0) (sym (reached_start (is_choice Grow w m rows) (change Grow) [] set made)) empty-right
  made-right (suc n) set few made =
      let same : suc n ≡ n + 1 = omega arith in
      let last = reached_last (is_choice Grow w m rows) (change Grow) [] n set (subst (λ i. IsMade i set) same made) in
      let right = made-right n last.old (omega (arith, few)) last.reached in
      let room : n + 1 ≤ k = omega (arith, few) in
      let out = outside n last.old right.up right.size room right.shared last.choice last.allowed in
      let parts = and_parts (has_member (open_candidates Grow m last.old) last.choice) (list_all (λ d. nat_le (gain w rows last.old d) (gain w rows last.old last.choice)) (open_candidates Grow m last.old)) last.allowed in
      let within = ballot-within m (open_candidates Grow m last.old) last.choice (IsIncreasing-filter (λ x. not (has_member last.old x)) 1 m (range_with_len 1 m) (IsIncreasing-range 1 m m (omega arith))) parts.0 in
      let shares = choice-shares n last.old right.up right.size room right.shared last.choice last.allowed in
      let grown : IsRight (n + 1) (with_member last.old last.choice) = record {
        up = IsIncreasing-with_member 1 m last.old last.choice within.0 within.1 right.up;
        size = omega (arith, length-with_member last.old last.choice out, right.size);
        shared = shares;
      } in
      subst (λ i. IsRight i set) (sym same) (subst (IsRight (n + 1)) last.is grown)

  pub right-made : (n : ℕ) (set : List ℕ) → n ≤ k → IsRight n set → IsMade n set
  right-made zero [] few right = reached_none (is_choice Grow w m rows) (change Grow) []
  right-made zero (x ∷ set) few right = absurd (omega (arith, right.size))
  right-made (suc n) set few right =
      let found = cheapest rows set (omega (arith, right.shared.all)) in
      let one = found.0 in
      let member = some-in one.0 set found.1.seat in
      let x = member.0 in
      let within = ballot-within m one.0 x (row-up one found.1.inside) member.1 in
      let old = without_member set x in
      let up : IsIncreasing 1 m old = IsIncreasing-filter (λ y. not (y == x)) 1 m set right.up in
      let size : length old ≡ n = omega (arith, length-without_member 1 m set x right.up member.2, right.size) in
      let room : n + 1 ≤ k = omega (arith, few) in
      let whole_set : with_member old x ≡ set = with-without m set x right.up within.0 within.1 member.2 in
      let same : suc n ≡ n + 1 = omega arith in
      let shared : IsShared (n + 1) rows (with_member old x) = subst (IsShared (n + 1) rows) (sym whole_set) (subst (λ i. IsShared i rows set) same right.shared) in
      let cheap : (other : Row) → Among rows other → 1 ≤ hits other.0 (with_member old x) → one.1 * hits other.0 (with_member old x) ≤ other.1 * hits one.0 (with_member old x) =
      subst (λ s. (other : Row) → Among rows other → 1 ≤ hits other.0 s → one.1 * hits other.0 s ≤ other.1 * hits one.0 s) (sym whole_set) found.1.least in
      let before = before-shares n old up size room x within.0 within.1 (without-itself set x) shared one found.1.inside member.1 cheap in
      let choice = last-choice n old up size room x within.0 within.1 (without-itself set x) shared one found.1.inside member.1 cheap in
      let made = right-made n old (omega (arith, few)) (record { up = up; size = size; shared = before }) in
      subst (λ i. IsMade i set) (sym same) (subst (IsMade (n + 1)) whole_set (reached_more (is_choice Grow w m rows) (change Grow) [] n old x made choice))

-- both ways
pub seqpav-shares : (e : Election) (k : ℕ) (committee : List ℕ) → IsElection e → 1 ≤ voter_count e.rows → ArePartyLists k e.rows
    → Contains (sequential_winners SeqPav e k) committee ↔ IsApportioned Dhondt e k committee
seqpav-shares e k committee valid voters lists = (
  λ wins.
      let made = (grown-winner (hit_weights SeqPav e.m) e.m e.rows k committee).0 wins in
      let reached : IsReached (is_choice Grow (hit_weights SeqPav e.m) e.m e.rows) (change Grow) [] k committee =
      record { list = made.0; long = made.1; made = sym (grown-follows (hit_weights SeqPav e.m) e.m e.rows [] made.0) ∙ made.2; ends = fold-grow [] made.0 ∙ made.3 } in
      let right = made-right e.m k e.rows valid.ballots lists each row.0 row.1 k committee (omega arith) reached in
      record { candidates = right.up; size = right.size; fair = fair-from_shared k e.rows committee each right.shared },
  λ is_fair.
      let shared = shared-from_fair k e.rows committee each is_fair.fair in
      let right : IsRight e.m k e.rows valid.ballots lists each row.0 row.1 k committee = record { up = is_fair.candidates; size = is_fair.size; shared = shared } in
      let r = right-made e.m k e.rows valid.ballots lists each row.0 row.1 k committee (omega arith) right in
      (grown-winner (hit_weights SeqPav e.m) e.m e.rows k committee).1 (r.list, r.long, grown-follows (hit_weights SeqPav e.m) e.m e.rows [] r.list ∙ r.made, sym (fold-grow [] r.list) ∙ r.ends),
)
  where
    row : (r : Row) × Among e.rows r
    row = some-row e.rows voters

    each : (r : Row) → Among e.rows r → 1 ≤ r.1
    each r inside = each-counts e.rows valid.counts r inside
