-- On party lists, proportional approval voting elects exactly the committees that share out their seats by D'Hondt's
-- method. A winner does, since an exchange of a member for a candidate of another list brings nothing. The other way,
-- what each list would give for one seat more is at most a price, and what it gives for each seat that it has is at
-- least this price. So no other committee is worth more.
use Rattle.std.proofs.Common.{◌≡◌, ℕ, zero, suc, ◌+◌, ◌-◌, ◌*◌, ◌/◌, ◌<◌, ◌≤◌, ◌∙◌, ◌↔◌, ◌==◌, Bool, true, false, not, cond, List, [], ◌∷◌, refl, sym, ap, arith, inl, inr, max, length, take, sum, sum_by, Contains}
use Rattle.std.specs.List.{AllByRecursion}
use Rattle.std.proofs.Math.Nat.{div-mul-le_self, le_of_mul-le-mul_right, mul-le-mul_left, mul-le-mul_right, one-le-mul}
use Rattle.std.proofs.lemmas.Bool.{cases_Bool, cases_lt, or_right}
use Rattle.std.proofs.lemmas.List.Sums.{count_by-le-length, sum_by-cons}
use Rattle.ballot_base.specs.Limits.{most_members}
use Rattle.ballot_base.specs.Lists.{IsIncreasing}
use Rattle.ballot_base.specs.CandSet.{has_member, without_member}
use Rattle.ballot_base.specs.CommonMultiple.{common_multiple}
use Rattle.ballot_base.specs.Increments.{increments}
use Rattle.ballot_base.specs.declared.increments.ThieleRule.TheVariants.{Pav}
use Rattle.ballot_base.specs.Ballots.{Row, Election, IsElection, hits, voter_count}
use Rattle.ballot_base.proofs.Committees.{increasing_lists-contains, length-increasing}
use Rattle.ballot_base.proofs.Increasing.{IsIncreasing-filter, has_member-above, has_member-below, has_member_head}
use Rattle.ballot_base.proofs.LeastMultiples.{common_multiple_some}
use Rattle.ballot_base.proofs.WeightLemmas.{increments-within, quotient-exact, quotient-falls}
use Rattle.tie_walk.specs.Sequences.{weight}
use Rattle.tie_walk.specs.declared.sequential.Step.TheVariants.{Grow, Shrink}
use Rattle.tie_walk.proofs.RowSums.{AreBallots}
use Rattle.tie_walk.proofs.TableLemmas.{sum-take_more}
use Rattle.tie_walk.specs.Values.{thiele_of, tally_value, thiele_value}
use Rattle.tie_walk.specs.Winners.{winners}
use Rattle.tie_walk.proofs.Gains.{thiele-partial}
use Rattle.tie_walk.proofs.LawLemmas.{no_greater_value, some_winner, winner-from_is, winner-is}
use Rattle.tie_walk.proofs.SequenceLemmas.{length-without_member}
use Rattle.tie_walk.proofs.WorthLemmas.{partial}
use Rattle.seat_share.specs.declared.method.Method.TheVariants.{Dhondt}
use Rattle.field_laws.specs.PartyLists.{ArePartyLists, IsApportioned}
use Rattle.field_laws.proofs.Exchanges.{exchanged, exchanged-size, exchanged-up, hits-turned, hits-without, less-out, no-better}
use Rattle.field_laws.proofs.Losses.{value-without}
use Rattle.field_laws.proofs.PartyRows.{Among, among-each, given-none, given-once, hits-together, lists_with, same-list, some-list}
use Rattle.field_laws.proofs.Shares.{IsShared, fair-from_shared, shared-from_fair}

-- ---- the increments

-- the j-th hit gives the j-th part of the denominator
pub pav-weight : (k j : ℕ) → k ≤ most_members → 1 ≤ j → j ≤ k → weight (increments Pav k) j ≡ common_multiple k / j
pav-weight k zero most some few = absurd (omega (arith, some))
pav-weight k (suc j) most some few =
    let same : j + 1 ≡ suc j = omega arith in
    increments-within Pav k j (omega (arith, few, most)) (omega (arith, few)) ∙ ap (λ n. common_multiple k / n) same

-- the n-th part is at most the j-th, if n is at least j
quotient-later : (whole j more : ℕ) → 1 ≤ j → whole / (j + more) ≤ whole / j
quotient-later whole j zero some = let e = ap (λ n. whole / n) (let same : j + 0 ≡ j = omega arith in same) in omega (arith, e)
quotient-later whole j (suc more) some =
    let e = ap (λ n. whole / n) (let same : j + suc more ≡ (j + more) + 1 = omega arith in same) in
    omega (arith, e, quotient-falls whole (j + more) (omega (arith, some)), quotient-later whole j more some)

-- ---- one list, at a price

module _ (k n s price : ℕ) (most : k ≤ most_members) (next : n * (common_multiple k / (s + 1)) ≤ price) (last : 1 ≤ s → price ≤ n * (common_multiple k / s)) where
  -- what the first h hits give together
  abbrev hits_give : ℕ → ℕ
  hits_give h = sum (take h (increments Pav k))

  give-more : (h : ℕ) → h < k → hits_give (h + 1) ≡ hits_give h + common_multiple k / (h + 1)
  give-more h few = sum-take_more (increments Pav k) h ∙ ap (λ x. hits_give h + x) (increments-within Pav k h (omega (arith, few, most)) few)

  -- more seats bring at most the price each
  up-from : (more : ℕ) → s + more ≤ k → n * hits_give (s + more) ≤ n * hits_give s + price * more
  up-from zero few = let e = ap (λ h. n * hits_give h) (let same : s + 0 ≡ s = omega arith in same) in omega (arith, e)
  up-from (suc more) few =
      let e = ap (λ h. n * hits_give h) (let same : s + suc more ≡ (s + more) + 1 = omega arith in same) in
      let part = ap (λ x. n * x) (give-more (s + more) (omega (arith, few))) in
      let same = ap (λ h. common_multiple k / h) (let moved : (s + more) + 1 ≡ (s + 1) + more = omega arith in moved) in
      let less : n * (common_multiple k / ((s + more) + 1)) ≤ n * (common_multiple k / (s + 1)) = mul-le-mul_left n (omega (arith, same, quotient-later (common_multiple k) (s + 1) more (omega arith))) in
      omega (arith, e, part, less, next, up-from more (omega (arith, few)))

  -- fewer seats lose at least the price each
  down-to : (less t : ℕ) → t + less ≡ s → s ≤ k → n * hits_give t + price * less ≤ n * hits_give s
  down-to zero t is few = let e = ap (λ h. n * hits_give h) (let same : t ≡ s = omega (arith, is) in same) in omega (arith, e)
  down-to (suc less) t is few =
      let part = ap (λ x. n * x) (give-more t (omega (arith, is, few))) in
      let same = ap (λ h. common_multiple k / h) (let moved : (t + 1) + less ≡ s = omega (arith, is) in moved) in
      let more : n * (common_multiple k / s) ≤ n * (common_multiple k / (t + 1)) = mul-le-mul_left n (omega (arith, same, quotient-later (common_multiple k) (t + 1) less (omega arith))) in
      omega (arith, part, more, last (omega (arith, is)), down-to less (t + 1) (omega (arith, is)) few)

  -- so another number of seats brings no more than its price
  pub priced : (t : ℕ) → t ≤ k → s ≤ k → n * hits_give t + price * s ≤ n * hits_give s + price * t
  priced t few few' = elim (cases_lt t s) [
    | inl below ↦
        let less : ℕ = s - t in
        let is : t + less ≡ s = omega (arith, below) in
        omega (arith, down-to less t is few', ap (λ x. price * x) is)
    | inr above ↦
        let more : ℕ = t - s in
        let is : s + more ≡ t = omega (arith, above) in
        omega (arith, up-from more (omega (arith, is, few)), ap (λ h. n * hits_give h) is, ap (λ x. price * x) is)
  ]

-- ---- all lists

-- the most that a list would give for one seat more
abbrev pub price_of : ℕ → List ℕ → List Row → ℕ
price_of k committee [] = 0
price_of k committee (row ∷ rows) = max (row.1 * (common_multiple k / (hits row.0 committee + 1))) (price_of k committee rows)

price-most : (k : ℕ) (committee : List ℕ) (rows : List Row) (row : Row) → Among rows row → row.1 * (common_multiple k / (hits row.0 committee + 1)) ≤ price_of k committee rows
price-most k committee [] row inside = absurd inside
price-most k committee (first ∷ rows) row (inl is) =
    let e = ap (λ (r : Row). r.1 * (common_multiple k / (hits r.0 committee + 1))) is in
    omega (arith, e)
price-most k committee (first ∷ rows) row (inr inside) = omega (arith, price-most k committee rows row inside)

price-least : (k most : ℕ) (committee : List ℕ) (rows : List Row) → ((row : Row) → Among rows row → row.1 * (common_multiple k / (hits row.0 committee + 1)) ≤ most) → price_of k committee rows ≤ most
price-least k most committee [] each = omega arith
price-least k most committee (row ∷ rows) each = omega (arith, each row (inl refl), price-least k most committee rows (λ r inside. each r (inr inside)))

-- two parts of a whole, compared by their divisors
pub cross : (u v s t one other whole : ℕ) → one * s ≡ whole → other * (t + 1) ≡ whole → 1 ≤ whole → u * other ≤ v * one → u * s ≤ v * (t + 1)
cross u v s t one other whole is is' some less =
    let more : u * other * ((t + 1) * s) ≤ v * one * ((t + 1) * s) = mul-le-mul_right ((t + 1) * s) less in
    let first = ap (λ n. v * (t + 1) * n) is in
    let second = ap (λ n. u * s * n) is' in
    le_of_mul-le-mul_right {m = u * s} {n = v * (t + 1)} {k = whole} (omega (arith, more, first, second)) some

-- a part of something is something
pub some-part : (part j whole : ℕ) → part * j ≡ whole → 1 ≤ whole → 1 ≤ part
some-part zero j whole is some = absurd (omega (arith, is, some))
some-part (suc part) j whole is some = omega arith

-- and the other way, if the second part is rounded down
pub cross-back : (u v s t one other whole : ℕ) → one * s ≡ whole → other * (t + 1) ≤ whole → 1 ≤ s → u * s ≤ v * (t + 1) → u * other ≤ v * one
cross-back u v s t one other whole is is' some less =
    let more : u * s * other ≤ v * (t + 1) * other = mul-le-mul_right other less in
    let first = ap (λ n. v * n) is in
    let second : v * (other * (t + 1)) ≤ v * whole = mul-le-mul_left v is' in
    le_of_mul-le-mul_right {m = u * other} {n = v * one} {k = s} (omega (arith, more, first, second)) some

-- a list that is not whole in a set has a candidate outside it
pub some-out : (ballot set : List ℕ) → hits ballot set < length ballot → (c : ℕ) × (has_member ballot c ≡ true) × (has_member set c ≡ false)
some-out [] set few = absurd (omega (arith, few))
some-out (n ∷ ballot) set few = by (has_member set n) refl (some-out ballot set)
  where
    more : hits (n ∷ ballot) set ≡ cond (has_member set n) 1 0 + hits ballot set
    more = sum_by-cons (λ y. cond (has_member set y) 1 0) n ballot

    by : (b : Bool) → has_member set n ≡ b → (hits ballot set < length ballot → (c : ℕ) × (has_member ballot c ≡ true) × (has_member set c ≡ false))
        → (c : ℕ) × (has_member (n ∷ ballot) c ≡ true) × (has_member set c ≡ false)
    by false out later = (n, has_member_head n ballot, out)
    by true here later =
        let rest = later (omega (arith, few, more, ap (λ b. cond {A = ℕ} b 1 0) here)) in
        (rest.0, or_right (n == rest.0) (has_member ballot rest.0) rest.1, rest.2)

-- a list that hits has a member
pub some-in : (ballot set : List ℕ) → 1 ≤ hits ballot set → (x : ℕ) × (has_member ballot x ≡ true) × (has_member set x ≡ true)
some-in [] set some = absurd (omega (arith, some))
some-in (n ∷ ballot) set some = by (has_member set n) refl (some-in ballot set)
  where
    more : hits (n ∷ ballot) set ≡ cond (has_member set n) 1 0 + hits ballot set
    more = sum_by-cons (λ y. cond (has_member set y) 1 0) n ballot

    by : (b : Bool) → has_member set n ≡ b → (1 ≤ hits ballot set → (x : ℕ) × (has_member ballot x ≡ true) × (has_member set x ≡ true))
        → (x : ℕ) × (has_member (n ∷ ballot) x ≡ true) × (has_member set x ≡ true)
    by true here later = (n, has_member_head n ballot, here)
    by false out later =
        let rest = later (omega (arith, some, more, ap (λ b. cond {A = ℕ} b 1 0) out)) in
        (rest.0, or_right (n == rest.0) (has_member ballot rest.0) rest.1, rest.2)

-- the members of a ballot are candidates
pub ballot-within : (m : ℕ) (ballot : List ℕ) (c : ℕ) → IsIncreasing 1 m ballot → has_member ballot c ≡ true → (1 ≤ c) × (c ≤ m)
ballot-within m ballot c up has = (
  elim (cases_lt c 1) [
    | inl low ↦ absurd (let e : true ≡ false = sym has ∙ has_member-below 1 m ballot c up low in cc)
    | inr some ↦ some
  ],
  elim (cases_lt m c) [
    | inl high ↦ absurd (let e : true ≡ false = sym has ∙ has_member-above 1 m ballot c up high in cc)
    | inr few ↦ few
  ],
)

-- as many ones as there are members
sum-ones : (f : ℕ → ℕ) (xs : List ℕ) → ((x : ℕ) → has_member xs x ≡ true → f x ≡ 1) → sum_by f xs ≡ length xs
sum-ones f [] each = refl
sum-ones f (x ∷ xs) each =
    omega (arith, each x (has_member_head x xs), sum-ones f xs (λ y inside. each y (or_right (x == y) (has_member xs y) inside)), sum_by-cons f x xs)

sum-ones-most : (f : ℕ → ℕ) (xs : List ℕ) → ((x : ℕ) → f x ≤ 1) → sum_by f xs ≤ length xs
sum-ones-most f [] each = omega arith
sum-ones-most f (x ∷ xs) each = omega (arith, each x, sum-ones-most f xs each, sum_by-cons f x xs)

-- nobody has more hits than the set has members
pub hits-few : (m : ℕ) (ballot set : List ℕ) → IsIncreasing 1 m ballot → IsIncreasing 1 m set → hits ballot set ≤ length set
hits-few m ballot set up set_up = omega (arith, hits-turned 1 m ballot set up set_up, count_by-le-length (has_member ballot) set)

module _ (m k : ℕ) (rows : List Row) (most : k ≤ most_members) (all : AreBallots m rows) (lists : ArePartyLists k rows) (counts : (row : Row) → Among rows row → 1 ≤ row.1) (committee : List ℕ)
    (up : IsIncreasing 1 m committee) (size : length committee ≡ k) where
  abbrev value : List ℕ → ℕ
  value = thiele_value (increments Pav k) rows

  abbrev whole : ℕ
  whole = common_multiple k

  row-up : (row : Row) → Among rows row → IsIncreasing 1 m row.0
  row-up row inside = among-each (λ (r : Row). IsIncreasing 1 m r.0) rows row all inside

  hits-most : (row : Row) → Among rows row → hits row.0 committee ≤ k
  hits-most row inside = omega (arith, size, hits-few m row.0 committee (row-up row inside) up)

  -- ---- a winner shares out its seats

  module _ (best : (set : List ℕ) → IsIncreasing 1 m set → length set ≡ k → value set ≤ value committee) where
    -- for a member, a candidate of a list that lacks the member brings no more than the member loses
    no-gain : (x : ℕ) (other : Row) → has_member committee x ≡ true → Among rows other → has_member other.0 x ≡ false
        → (hits other.0 committee + 1 ≤ k) × (other.1 * (whole / (hits other.0 committee + 1)) ≤ partial Shrink (increments Pav k) committee x rows)
    no-gain x other here inside lacks =
        let w = increments Pav k in
        let less = without_member committee x in
        let less_up : IsIncreasing 1 m less = IsIncreasing-filter (λ y. not (y == x)) 1 m committee up in
        let fewer = length-without_member 1 m committee x up here in
        let same : hits other.0 less ≡ hits other.0 committee =
        omega (arith, hits-without 1 m other.0 committee x (row-up other inside) here, ap (λ b. cond {A = ℕ} b 1 0) lacks) in
        let room : hits other.0 committee + 1 ≤ k = omega (arith, same, fewer, size, hits-few m other.0 less (row-up other inside) less_up) in
        let out = some-out other.0 committee (omega (arith, room, among-each (λ (r : Row). k ≤ length r.0) rows other lists.long inside)) in
        let c = out.0 in
        let within = ballot-within m other.0 c (row-up other inside) out.1 in
        let new = exchanged committee c x in
        let no_more = best new (exchanged-up m committee c x up here out.2 within.0 within.1) (exchanged-size m committee c x up here out.2 ∙ size) in
        let gained : partial Grow w less c rows ≡ other.1 * weight w (hits other.0 less + 1) =
        given-once c (λ (r : Row). weight w (hits r.0 less + 1)) rows other (lists.apart c) inside out.1 in
        let worth : other.1 * weight w (hits other.0 less + 1) ≡ other.1 * (whole / (hits other.0 committee + 1)) =
        ap (λ h. other.1 * weight w (h + 1)) same ∙ ap (λ n. other.1 * n) (pav-weight k (hits other.0 committee + 1) most (omega arith) room) in
        (room, omega (arith, no_more, gained, worth, thiele-partial m w rows less c all (less-out m committee c x up here out.2), value-without m w rows committee x all here))

    pair-best : (one other : Row) → Among rows one → Among rows other → 1 ≤ hits one.0 committee → other.1 * hits one.0 committee ≤ one.1 * (hits other.0 committee + 1)
    pair-best one other inside also seat = by (has_member other.0 x) refl
      where
        member : (n : ℕ) × (has_member one.0 n ≡ true) × (has_member committee n ≡ true)
        member = some-in one.0 committee seat

        x : ℕ
        x = member.0

        by : (b : Bool) → has_member other.0 x ≡ b → other.1 * hits one.0 committee ≤ one.1 * (hits other.0 committee + 1)
        by true has =
            let same = same-list x rows one other (lists.apart x) inside also member.1 has in
            omega (arith, ap (λ (r : Row). r.1 * hits one.0 committee) same, ap (λ (r : Row). one.1 * hits r.0 committee) same)
        by false lacks =
            let w = increments Pav k in
            let no_more = no-gain x other member.2 also lacks in
            let lost : partial Shrink w committee x rows ≡ one.1 * weight w (hits one.0 committee) =
            given-once x (λ (r : Row). weight w (hits r.0 committee)) rows one (lists.apart x) inside member.1 in
            let worth = ap (λ n. one.1 * n) (pav-weight k (hits one.0 committee) most seat (hits-most one inside)) in
            cross other.1 one.1 (hits one.0 committee) (hits other.0 committee) (whole / hits one.0 committee) (whole / (hits other.0 committee + 1)) whole (quotient-exact k (hits one.0 committee) seat (hits-most one inside))
            (quotient-exact k (hits other.0 committee + 1) (omega arith) no_more.0) (common_multiple_some k) (omega (arith, no_more.1, lost, worth))

    -- each member is on a list
    on-a-list : (row : Row) (x : ℕ) → Among rows row → has_member committee x ≡ true → lists_with x rows ≡ 1
    on-a-list row x inside here = elim (cases_lt (lists_with x rows) 1) [
      | inl none ↦
          let lacks : has_member row.0 x ≡ false = elim (cases_Bool (has_member row.0 x)) [
            | inl has ↦ absurd (omega (arith, none, some-list x rows row inside has))
            | inr lacks ↦ lacks
          ] in
          let no_more = no-gain x row here inside lacks in
          let nothing = given-none x (λ (r : Row). weight (increments Pav k) (hits r.0 committee)) rows (omega (arith, none)) in
          let j = hits row.0 committee + 1 in
          let exact = quotient-exact k j (omega arith) no_more.0 in
          let part : 1 ≤ whole / j = some-part (whole / j) j whole exact (common_multiple_some k) in
          absurd (omega (arith, no_more.1, nothing, one-le-mul (counts row inside) part))
      | inr some ↦ omega (arith, some, lists.apart x)
    ]

    pub shared : (row : Row) → Among rows row → IsShared k rows committee
    shared row inside = record {
      all = hits-together m rows committee all up ∙ sum-ones (λ c. lists_with c rows) committee (λ x here. on-a-list row x inside here) ∙ size;
      best = pair-best;
    }

  -- ---- whoever shares out the seats wins

  module _ (is : IsShared k rows committee) (set : List ℕ) (set_up : IsIncreasing 1 m set) (set_size : length set ≡ k) where
    abbrev price : ℕ
    price = price_of k committee rows

    last-seat : (one : Row) → Among rows one → 1 ≤ hits one.0 committee → price ≤ one.1 * (whole / hits one.0 committee)
    last-seat one inside seat =
        price-least k (one.1 * (whole / hits one.0 committee)) committee rows (λ other also.
        cross-back other.1 one.1 (hits one.0 committee) (hits other.0 committee) (whole / hits one.0 committee) (whole / (hits other.0 committee + 1)) whole
        (quotient-exact k (hits one.0 committee) seat (hits-most one inside)) (div-mul-le_self whole (hits other.0 committee + 1)) seat (is.best one other inside also seat))

    row-priced : (row : Row) → Among rows row
        → row.1 * sum (take (hits row.0 set) (increments Pav k)) + price * hits row.0 committee ≤ row.1 * sum (take (hits row.0 committee) (increments Pav k)) + price * hits row.0 set
    row-priced row inside =
        priced k row.1 (hits row.0 committee) price most (price-most k committee rows row inside) (last-seat row inside) (hits row.0 set)
        (omega (arith, set_size, hits-few m row.0 set (row-up row inside) set_up)) (hits-most row inside)

    rows-priced : (some : List Row) → ((row : Row) → Among some row → Among rows row)
        → thiele_value (increments Pav k) some set + price * sum_by (λ (row : Row). hits row.0 committee) some ≤ thiele_value (increments Pav k) some committee + price * sum_by (λ (row : Row). hits row.0 set) some
    rows-priced [] within = omega arith
    rows-priced (row ∷ some) within =
        let w = increments Pav k in
        let ours = ap (λ n. price * n) (sum_by-cons (λ (r : Row). hits r.0 committee) row some) in
        let theirs = ap (λ n. price * n) (sum_by-cons (λ (r : Row). hits r.0 set) row some) in
        omega (
          arith,
          ours,
          theirs,
          sum_by-cons (λ (r : Row). r.1 * sum (take (hits r.0 set) w)) row some,
          sum_by-cons (λ (r : Row). r.1 * sum (take (hits r.0 committee) w)) row some,
          row-priced row (within row (inl refl)),
          rows-priced some (λ r inside. within r (inr inside)),
        )

    pub no-worse : value set ≤ value committee
    no-worse =
        let ours = ap (λ n. price * n) is.all in
        let few : sum_by (λ (row : Row). hits row.0 set) rows ≤ k =
        omega (arith, hits-together m rows set all set_up, sum-ones-most (λ c. lists_with c rows) set lists.apart, set_size) in
        let theirs : price * sum_by (λ (row : Row). hits row.0 set) rows ≤ price * k = mul-le-mul_left price few in
        omega (arith, ours, theirs, rows-priced rows (λ row inside. inside))

-- each row has voters, and there is a row if there is a voter
pub each-counts : (rows : List Row) → AllByRecursion (λ (row : Row). 0 < row.1) rows → (row : Row) → Among rows row → 1 ≤ row.1
each-counts rows all row inside = among-each (λ (r : Row). 0 < r.1) rows row all inside

pub some-row : (rows : List Row) → 1 ≤ voter_count rows → (row : Row) × Among rows row
some-row [] some = absurd (omega (arith, some))
some-row (row ∷ rows) some = (row, inl refl)

-- both ways
pub pav-shares : (e : Election) (k : ℕ) (committee : List ℕ) → IsElection e → 1 ≤ voter_count e.rows → k ≤ most_members → ArePartyLists k e.rows
    → Contains (winners (tally_value (thiele_of e Pav k)) e.m k) committee ↔ IsApportioned Dhondt e k committee
pav-shares e k committee valid voters most lists = (
  λ wins.
      let is = winner-is (tally_value (thiele_of e Pav k)) e.m k committee wins in
      let row = some-row e.rows voters in
      let shares = shared e.m k e.rows most valid.ballots lists counts committee is.0 is.1 (λ set up size. no-better (tally_value (thiele_of e Pav k)) e.m k committee set wins up size) row.0 row.1 in
      record { candidates = is.0; size = is.1; fair = fair-from_shared k e.rows committee counts shares },
  λ is_fair.
      let value = tally_value (thiele_of e Pav k) in
      let is = shared-from_fair k e.rows committee counts is_fair.fair in
      let best = some_winner value e.m k (omega (arith, is_fair.size, length-increasing 1 e.m committee is_fair.candidates)) in
      let chosen = winner-is value e.m k best.0 best.1 in
      let no_better = no-worse e.m k e.rows most valid.ballots lists counts committee is_fair.candidates is_fair.size is best.0 chosen.0 chosen.1 in
      winner-from_is value e.m k committee
      (is_fair.candidates, is_fair.size, omega (arith, no_better, chosen.2, no_greater_value value e.m k committee (increasing_lists-contains 1 e.m k committee (is_fair.candidates, is_fair.size)))),
)
  where
    counts : (row : Row) → Among e.rows row → 1 ≤ row.1
    counts row inside = each-counts e.rows valid.counts row inside
