-- Seats that are given one after the other.
use Rattle.std.proofs.Common.{◌≡◌, ℕ, zero, suc, ◌+◌, ◌-◌, ◌<◌, ◌≤◌, true, false, List, [], ◌∷◌, ◌++◌, Option, Some, None, refl, sym, ap, subst, ◌∙◌, inl, inr, arith, sum, length, take, set, get_or, append_assoc}
use Rattle.std.specs.Prelude.{⊤}
use Rattle.std.specs.List.{AllByRecursion}
use Rattle.std.proofs.lemmas.List.Sums.{sum_by-cons, sum_by-append}
use Rattle.std.proofs.lemmas.List.{take_more}
use Rattle.seat_share.specs.declared.award.Claimant.{Claimant}
use Rattle.seat_share.specs.declared.party.Party.{Party}
use Rattle.seat_share.specs.Quotients.{Quotient, is_at_least}
use Rattle.seat_share.specs.Steps.Standings.{Stands, Keeps, IsGreatest, AreWithin, votes_of, seats_of}
use Rattle.seat_share.specs.declared.method.Method.{Method}
use Rattle.seat_share.specs.Limits.{most_seats, most_votes}
use Rattle.seat_share.specs.Steps.Claims.{claim, most_dividend}
use Rattle.seat_share.proofs.Order.{le-true, over_zeros, over_zero_and_some, at_least-total, at_least-trans}
use Rattle.seat_share.proofs.Ranges.{claim-dividend}
use Rattle.seat_share.proofs.Threshold.{impossible, either, not-true}

-- ---- lists
module _ {X : Type 0} where
  pub all-push : (P : X → Type 0) (xs : List X) (y : X) → AllByRecursion P xs → P y → AllByRecursion P (xs ++ y ∷ [])
  all-push P [] y all h = (h, tt)
  all-push P (x ∷ xs) y all h = (all.0, all-push P xs y all.1 h)

  all-middle : (P : X → Type 0) (xs ys : List X) (x : X) → AllByRecursion P (xs ++ x ∷ ys) → P x
  all-middle P [] ys x all = all.0
  all-middle P (z ∷ xs) ys x all = all-middle P xs ys x all.1

  all-replaced : (P : X → Type 0) (xs ys : List X) (x y : X) → AllByRecursion P (xs ++ x ∷ ys) → P y → AllByRecursion P (xs ++ y ∷ ys)
  all-replaced P [] ys x y all h = (h, all.1)
  all-replaced P (z ∷ xs) ys x y all h = (all.0, all-replaced P xs ys x y all.1 h)

  all-both : (P R Q : X → Type 0) (xs : List X) → AllByRecursion P xs → AllByRecursion R xs → ((x : X) → P x → R x → Q x) → AllByRecursion Q xs
  all-both P R Q [] p r f = tt
  all-both P R Q (x ∷ xs) p r f = (f x p.0 r.0, all-both P R Q xs p.1 r.1 f)

  set-middle : (xs ys : List X) (x y : X) → set (xs ++ x ∷ ys) (length xs) y ≡ xs ++ y ∷ ys
  set-middle [] ys x y = refl
  set-middle (z ∷ xs) ys x y = ap (λ l. z ∷ l) (set-middle xs ys x y)

  get-middle : (xs ys : List X) (x d : X) → get_or (xs ++ x ∷ ys) (length xs) d ≡ x
  get-middle [] ys x d = refl
  get-middle (z ∷ xs) ys x d = get-middle xs ys x d

  length-middle : (xs ys : List X) (x : X) → length xs < length (xs ++ x ∷ ys)
  length-middle [] ys x = omega arith
  length-middle (z ∷ xs) ys x = omega (arith, length-middle xs ys x)

-- ---- the greatest claim
module _ (claims : ℕ → ℕ → Quotient) where
  pub greatest-kept : (before : List Party) (c : Party) (first later : Claimant) → 0 < c.votes → later.quotient ≡ claims c.votes c.seats
      → is_at_least first.quotient later.quotient ≡ true → IsGreatest claims before (Some first) → IsGreatest claims (before ++ c ∷ []) (Some first)
  greatest-kept before c first later some is least (front, d, back, split, count, votes, own, all) = (
    front,
    d,
    back ++ c ∷ [],
    ap (λ l. l ++ c ∷ []) split ∙ append_assoc front (d ∷ back) (c ∷ []),
    count,
    votes,
    own,
    all-push (λ (e : Party). 0 < e.votes → is_at_least first.quotient (claims e.votes e.seats) ≡ true) before c all (λ h. ap (is_at_least first.quotient) (sym is) ∙ least),
  )

  -- no claim so far is as great
  abbrev pub AreLess : Option Claimant → Claimant → Type 0
  AreLess None later = ⊤
  AreLess (Some first) later = is_at_least first.quotient later.quotient ≡ false

  pub greatest-new : (before : List Party) (c : Party) (best : Option Claimant) (later : Claimant) → length before ≡ later.place → 0 < c.votes → later.quotient ≡ claims c.votes c.seats
      → AreLess best later → IsGreatest claims before best → IsGreatest claims (before ++ c ∷ []) (Some later)
  greatest-new before c best later count some is less found = (
    before,
    c,
    [],
    refl,
    count,
    some,
    is,
    all-push (λ (e : Party). 0 < e.votes → is_at_least later.quotient (claims e.votes e.seats) ≡ true) before c (earlier best less found)
        (λ h. ap (is_at_least later.quotient) (sym is) ∙ self later.quotient),
  )
    where
      self : (q : Quotient) → is_at_least q q ≡ true
      self q = elim (either (is_at_least q q)) [ inl h ↦ h | inr h ↦ at_least-total q q h ]

      over : (greatest : Quotient) (cs : List Party) → is_at_least later.quotient greatest ≡ true
          → AllByRecursion (λ (e : Party). 0 < e.votes → is_at_least greatest (claims e.votes e.seats) ≡ true) cs
          → AllByRecursion (λ (e : Party). 0 < e.votes → is_at_least later.quotient (claims e.votes e.seats) ≡ true) cs
      over greatest [] h all = tt
      over greatest (d ∷ ds) h all = (λ v. at_least-trans later.quotient greatest (claims d.votes d.seats) h (all.0 v), over greatest ds h all.1)

      none : (cs : List Party) → AllByRecursion (λ (e : Party). e.votes ≡ 0) cs → AllByRecursion (λ (e : Party). 0 < e.votes → is_at_least later.quotient (claims e.votes e.seats) ≡ true) cs
      none [] all = tt
      none (d ∷ ds) all = (λ v. impossible (omega (arith, v, all.0)), none ds all.1)

      earlier : (b : Option Claimant) → AreLess b later → IsGreatest claims before b
          → AllByRecursion (λ (e : Party). 0 < e.votes → is_at_least later.quotient (claims e.votes e.seats) ≡ true) before
      earlier None h all = none before all
      earlier (Some first) h (front, d, back, split, long, votes, own, all) = over first.quotient before (at_least-total first.quotient later.quotient h) all

  pub greatest-skip : (before : List Party) (c : Party) (best : Option Claimant) → c.votes ≡ 0 → IsGreatest claims before best → IsGreatest claims (before ++ c ∷ []) best
  greatest-skip before c None none all = all-push (λ (e : Party). e.votes ≡ 0) before c all none
  greatest-skip before c (Some first) none (front, d, back, split, count, votes, own, all) = (
    front,
    d,
    back ++ c ∷ [],
    ap (λ l. l ++ c ∷ []) split ∙ append_assoc front (d ∷ back) (c ∷ []),
    count,
    votes,
    own,
    all-push (λ (e : Party). 0 < e.votes → is_at_least first.quotient (claims e.votes e.seats) ≡ true) before c all (λ h. impossible (omega (arith, h, none))),
  )

  -- ---- one seat more
  module _ (most : ℕ) (falls : (v s : ℕ) → 0 < v → s < most → is_at_least (claims v (s + 1)) (claims v s) ≡ false) where
    -- the party with one seat more
    abbrev raised : Party → Party
    raised c = record { votes = c.votes; seats = c.seats + 1; is_tied = c.is_tied; has_more = c.has_more }

    abbrev KeepsAll : Quotient → List Party → Type 0
    KeepsAll low cs = AllByRecursion (λ (c : Party). Keeps claims most low c.votes c.seats) cs

    keeps-raised : (low q : Quotient) (before after : List Party) (c : Party) → 0 < c.votes → c.seats < most → q ≡ claims c.votes c.seats
        → KeepsAll low (before ++ c ∷ after) → AllByRecursion (λ (d : Party). 0 < d.votes → is_at_least q (claims d.votes d.seats) ≡ true) (before ++ c ∷ after)
        → KeepsAll q (before ++ raised c ∷ after)
    keeps-raised low q before after c votes fits is kept greatest =
        let own = all-middle (λ (d : Party). Keeps claims most low d.votes d.seats) before after c kept in
        let lower : is_at_least low q ≡ true = ap (is_at_least low) is ∙ own.next votes in
        let now = all-both (λ (d : Party). Keeps claims most low d.votes d.seats) (λ (d : Party). 0 < d.votes → is_at_least q (claims d.votes d.seats) ≡ true)
        (λ (d : Party). Keeps claims most q d.votes d.seats) (before ++ c ∷ after) kept greatest
        (λ d k g. record {
          given = λ v s. at_least-trans (claims d.votes (d.seats - 1)) low q (k.given v s) lower;
          next = g;
          none = k.none;
        }) in
        let back : c.seats + 1 - 1 ≡ c.seats = omega arith in
        let self : is_at_least (claims c.votes c.seats) (claims c.votes c.seats) ≡ true = elim (either (is_at_least (claims c.votes c.seats) (claims c.votes c.seats))) [ inl h ↦ h | inr h ↦ at_least-total (claims c.votes c.seats) (claims c.votes c.seats) h ] in
        all-replaced (λ (d : Party). Keeps claims most q d.votes d.seats) before after c (raised c) now (record {
          given = λ v s. ap (λ n. is_at_least (claims c.votes n) q) back ∙ ap (is_at_least (claims c.votes c.seats)) is ∙ self;
          next = λ v. ap (λ x. is_at_least x (claims c.votes (c.seats + 1))) is ∙ at_least-total (claims c.votes (c.seats + 1)) (claims c.votes c.seats) (falls c.votes c.seats votes fits);
          none = λ none. impossible (omega (arith, none, votes));
        })

  votes-raised : (before after : List Party) (c d : Party) → d.votes ≡ c.votes → votes_of (before ++ d ∷ after) ≡ votes_of (before ++ c ∷ after)
  votes-raised [] after c d same = ap (λ n. n ∷ votes_of after) same
  votes-raised (b ∷ before) after c d same = ap (λ l. b.votes ∷ l) (votes-raised before after c d same)

  seats-raised : (before after : List Party) (c d : Party) → d.seats ≡ c.seats + 1 → seats_of (before ++ d ∷ after) ≡ seats_of (before ++ c ∷ after) + 1
  seats-raised before after c d more =
      omega (
        arith,
        more,
        sum_by-append (λ (e : Party). e.seats) before (d ∷ after),
        sum_by-append (λ (e : Party). e.seats) before (c ∷ after),
        sum_by-cons (λ (e : Party). e.seats) d after,
        sum_by-cons (λ (e : Party). e.seats) c after,
      )

-- ---- the steps of the code
pub greatest-at : (claims : ℕ → ℕ → Quotient) (cs : List Party) (i : ℕ) (d : Party) (best : Option Claimant) → i < length cs
    → IsGreatest claims (take i cs ++ get_or cs i d ∷ []) best → IsGreatest claims (take (i + 1) cs) best
greatest-at claims cs i d best within h = subst (λ l. IsGreatest claims l best) (sym (take_more cs i d within)) h

pub length-front : {X : Type 0} (xs : List X) (i : ℕ) → i < length xs → length (take i xs) ≡ i
length-front [] i less = impossible (omega (arith, less))
length-front (x ∷ xs) zero less = refl
length-front (x ∷ xs) (suc i) less = ap suc (length-front xs i (omega (arith, less)))

-- a seat that was met at the threshold itself is taken back
pub taken-back : (claims : ℕ → ℕ → Quotient) (most : ℕ) (falls : (v s : ℕ) → 0 < v → s < most → is_at_least (claims v (s + 1)) (claims v s) ≡ false) (low : Quotient) (votes seats : ℕ)
    → 0 < seats → seats ≤ most → Keeps claims most low votes seats → is_at_least low (claims votes (seats - 1)) ≡ true → Stands claims most low votes (seats - 1) true
taken-back claims most falls low votes seats some fits keeps met = record {
  above = λ v s.
      let one : seats - 1 ≡ seats - 1 - 1 + 1 = omega (arith, s) in
      not-true _ (λ h.
      sym (falls votes (seats - 1 - 1) v (omega (arith, some, fits)))
      ∙ ap (λ n. is_at_least (claims votes n) (claims votes (seats - 1 - 1))) (sym one)
      ∙ at_least-trans (claims votes (seats - 1)) low (claims votes (seats - 1 - 1)) (keeps.given v some) h);
  below = λ v. met;
  tie = λ v. sym (keeps.given v some);
  none = λ none. impossible (omega (arith, some, keeps.none none));
  fits = omega (arith, fits);
}

-- ---- a round
member-seats : (before after : List Party) (c : Party) → c.seats ≤ seats_of (before ++ c ∷ after)
member-seats before after c =
    omega (arith, sum_by-append (λ (e : Party). e.seats) before (c ∷ after), sum_by-cons (λ (e : Party). e.seats) c after)

pub within-sum : (most : ℕ) (cs : List Party) → AllByRecursion (λ (c : Party). c.votes ≤ most_votes) cs → seats_of cs ≤ most → AreWithin most cs
within-sum most [] votes fits = tt
within-sum most (c ∷ cs) votes fits =
    let split = sum_by-cons (λ (e : Party). e.seats) c cs in
    ((votes.0, omega (arith, fits, split)), within-sum most cs votes.1 (omega (arith, fits, split)))

no-votes : (cs : List Party) → AllByRecursion (λ (c : Party). c.votes ≡ 0) cs → sum (votes_of cs) ≡ 0
no-votes [] all = refl
no-votes (c ∷ cs) all = sum_by-cons (λ x. x) c.votes (votes_of cs) ∙ (omega (arith, all.0, no-votes cs all.1))

-- somebody has votes
pub somebody : (claims : ℕ → ℕ → Quotient) (cs : List Party) (best : Option Claimant) (total : ℕ) → 0 < total → total ≡ sum (votes_of cs) → IsGreatest claims cs best → best ≡ None → ⊥
somebody claims cs best total some is found none =
    omega (arith, some, is, no-votes cs (subst (IsGreatest claims cs) none found))

-- what is known after some seats were given
pub record HasGiven (claims : ℕ → ℕ → Quotient) (most : ℕ) (old : List ℕ) (low : Quotient) (cs : List Party) (given : ℕ) : Type 0 where
  pub kept : AllByRecursion (λ (c : Party). Keeps claims most low c.votes c.seats) cs
  pub few : AllByRecursion (λ (c : Party). c.votes ≤ most_votes) cs
  pub votes : votes_of cs ≡ old
  pub seats : seats_of cs ≡ given

module _ (claims : ℕ → ℕ → Quotient) (most : ℕ) (falls : (v s : ℕ) → 0 < v → s < most → is_at_least (claims v (s + 1)) (claims v s) ≡ false) where
  pub given-more : (old : List ℕ) (low : Quotient) (cs : List Party) (given : ℕ) (first : Claimant) (d : Party) → HasGiven claims most old low cs given → given < most → IsGreatest claims cs (Some first)
      → HasGiven claims most old first.quotient (set cs first.place (raised claims most falls (get_or cs first.place d))) (given + 1)
  given-more old low cs given first d has room (before, c, after, split, count, votes, own, all) =
      let here : get_or cs first.place d ≡ c = ap (λ l. get_or l first.place d) split ∙ ap (λ n. get_or (before ++ c ∷ after) n d) (sym count) ∙ get-middle before after c d in
      let up : Party → Party = raised claims most falls in
      let new : set cs first.place (up (get_or cs first.place d)) ≡ before ++ up c ∷ after =
      ap (λ x. set cs first.place (up x)) here ∙ ap (λ l. set l first.place (up c)) split ∙ ap (λ n. set (before ++ c ∷ after) n (up c)) (sym count) ∙ set-middle before after c (up c) in
      let kept = subst (λ l. AllByRecursion (λ (e : Party). Keeps claims most low e.votes e.seats) l) split has.kept in
      let few = subst (λ l. AllByRecursion (λ (e : Party). e.votes ≤ most_votes) l) split has.few in
      let greatest = subst (λ l. AllByRecursion (λ (e : Party). 0 < e.votes → is_at_least first.quotient (claims e.votes e.seats) ≡ true) l) split all in
      let same : seats_of (before ++ c ∷ after) ≡ given = ap seats_of (sym split) ∙ has.seats in
      subst (λ l. HasGiven claims most old first.quotient l (given + 1)) (sym new) (record {
        kept = keeps-raised claims most falls low first.quotient before after c votes (omega (arith, room, same, member-seats before after c)) own kept greatest;
        few = all-replaced (λ (e : Party). e.votes ≤ most_votes) before after c (up c) few (all-middle (λ (e : Party). e.votes ≤ most_votes) before after c few);
        votes = votes-raised claims before after c (up c) refl ∙ ap votes_of (sym split) ∙ has.votes;
        seats = seats-raised claims before after c (up c) refl ∙ ap (λ n. n + 1) same;
      })

-- ---- the start
infinite : (q : Quotient) → q.0 ≤ most_dividend → is_at_least (most_dividend, 0) q ≡ true
infinite (x, zero) h = over_zeros (most_dividend) 0 x 0 refl refl ∙ le-true x (most_dividend) h
infinite (x, suc y) h = over_zero_and_some (most_dividend) 0 x (suc y) refl (omega arith)

none-given : (cs : List Party) → AllByRecursion (λ (c : Party). c.seats ≡ 0) cs → seats_of cs ≡ 0
none-given [] all = refl
none-given (c ∷ cs) all = sum_by-cons (λ (e : Party). e.seats) c cs ∙ (omega (arith, all.0, none-given cs all.1))

pub given-none : (method : Method) (total most : ℕ) (cs : List Party) → most ≤ most_seats → total ≤ most_votes → AllByRecursion (λ (c : Party). c.votes ≤ most_votes) cs → AllByRecursion (λ (c : Party). c.seats ≡ 0) cs
    → HasGiven (claim method total most) most (votes_of cs) (most_dividend, 0) cs 0
given-none method total most cs hm ht few fresh = record {
  kept = all-both (λ (c : Party). c.votes ≤ most_votes) (λ (c : Party). c.seats ≡ 0) (λ (c : Party). Keeps (claim method total most) most (most_dividend, 0) c.votes c.seats) cs few fresh
      (λ c v s. record {
        given = λ some seats. impossible (omega (arith, seats, s));
        next = λ some. ap (λ n. is_at_least (most_dividend, 0) (claim method total most c.votes n)) s ∙ infinite (claim method total most c.votes 0) (claim-dividend total most c.votes 0 (record { few_votes = ht; few_seats = hm; own_votes = v; own_seats = omega arith }) method);
        none = λ none. s;
      });
  few = few;
  votes = refl;
  seats = none-given cs fresh;
}
