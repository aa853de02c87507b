-- Where the last seat is given at a threshold: an allocation in which no party has a claim to another's seat is one that
-- gives each party what is surely its own, and to some of those tied at the threshold one seat more.
use Rattle.std.proofs.Common.{◌≡◌, ℕ, zero, suc, ◌+◌, ◌-◌, ◌<◌, ◌≤◌, ◌==◌, ◌⊎◌, ◌&&◌, ◌||◌, Bool, true, false, cond, List, refl, sym, ◌∙◌, inl, inr, arith, sum_by}
use Rattle.std.specs.Prelude.{nat_le}
use Rattle.std.specs.List.{list_all}
use Rattle.seat_share.specs.Quotients.{Quotient, is_at_least}
use Rattle.seat_share.specs.Steps.Standings.{Stands}
use Rattle.seat_share.proofs.Order.{absurd, at_least-total, at_least-trans}
use Rattle.seat_share.proofs.Members.{Has, all-member, all-from_members, sums-lt, same_bools}

-- a party: its votes, the seats that are surely its own, whether it is tied for one more, and the seats that it has
pub record Entry : Type 0 where
  pub votes : ℕ
  pub sure : ℕ
  pub tied : Bool
  pub seats : ℕ

-- a test that is not passed fails
pub not-true : (b : Bool) → (b ≡ true → false ≡ true) → b ≡ false
not-true true h = sym (h refl)
not-true false h = refl

pub either : (b : Bool) → (b ≡ true) ⊎ (b ≡ false)
either true = inl refl
either false = inr refl

pub impossible : {P : Type 0} → ⊥ → P
impossible h = elim h [ ]

pub or-true : (b : Bool) → (b || true) ≡ true
or-true true = refl
or-true false = refl

zero_is : (n : ℕ) → n ≡ 0 → (n == 0) ≡ true
zero_is n h = grind arith

some_is : (n : ℕ) → 0 < n → (n == 0) ≡ false
some_is n h = grind arith

pub none_or_some : (n : ℕ) → (n ≡ 0) ⊎ (0 < n)
none_or_some zero = inl refl
none_or_some (suc n) = inr (omega arith)

module _ (claim : ℕ → ℕ → Quotient) (most : ℕ) (falls : (v s : ℕ) → 0 < v → s < most → is_at_least (claim v (s + 1)) (claim v s) ≡ false) (low : Quotient) where
  -- more seats, no greater claim
  antitone_by : (d v s : ℕ) → 0 < v → s + d ≤ most → is_at_least (claim v s) (claim v (s + d)) ≡ true
  antitone_by zero v s some fits =
      let same : s + 0 ≡ s = omega arith in
      rw same (elim (either (is_at_least (claim v s) (claim v s))) [
        | inl h ↦ h
        | inr h ↦ at_least-total (claim v s) (claim v s) h
      ])
  antitone_by (suc d) v s some fits =
      let next : s + suc d ≡ s + d + 1 = omega arith in
      rw next (at_least-trans (claim v s) (claim v (s + d)) (claim v (s + d + 1)) (antitone_by d v s some (omega arith))
      (at_least-total (claim v (s + d + 1)) (claim v (s + d)) (falls v (s + d) some (omega arith))))

  pub antitone : (v s t : ℕ) → 0 < v → s ≤ t → t ≤ most → is_at_least (claim v s) (claim v t) ≡ true
  antitone v s t some order fits =
      let there : s + (t - s) ≡ t = omega arith in
      rw there at (antitone_by (t - s) v s some (omega arith))

  abbrev pub may_have : Entry → ℕ
  may_have e = e.sure + cond e.tied 1 0

  -- what is known of each party
  pub record IsSound (e : Entry) : Type 0 where
    pub stands : Stands claim most low e.votes e.sure e.tied
    pub few : e.seats ≤ most
    pub earned : e.votes ≡ 0 → e.seats ≡ 0

  module _ (e : Entry) (sound : IsSound e) where
    stands : Stands claim most low e.votes e.sure e.tied
    stands = sound.stands

    seats-votes : 0 < e.seats → 0 < e.votes
    seats-votes some = elim (none_or_some e.votes) [
      | inl none ↦ omega (arith, some, sound.earned none)
      | inr h ↦ h
    ]

    -- a seat beyond what a party may have has a claim below the threshold
    over : may_have e < e.seats → is_at_least (claim e.votes (e.seats - 1)) low ≡ false
    over more =
        let votes = seats-votes (omega (arith, more)) in
        let few = sound.few in
        elim (either e.tied) [
          | inl tied ↦
              let beyond : e.sure + 1 ≤ e.seats - 1 = omega (arith, rw tied at more) in
              let at_low : is_at_least (claim e.votes e.sure) low ≡ true = sym (stands.tie votes) ∙ tied in
              not-true _ (λ h.
              let first = at_least-trans (claim e.votes (e.sure + 1)) (claim e.votes (e.seats - 1)) low (antitone e.votes (e.sure + 1) (e.seats - 1) votes beyond (omega (arith, few))) h in
              sym (falls e.votes e.sure votes (omega (arith, few, beyond)))
              ∙ at_least-trans (claim e.votes (e.sure + 1)) low (claim e.votes e.sure) first (stands.below votes))
          | inr free ↦
              let beyond : e.sure ≤ e.seats - 1 = omega (arith, rw free at more) in
              not-true _ (λ h.
              sym free ∙ stands.tie votes
              ∙ at_least-trans (claim e.votes e.sure) (claim e.votes (e.seats - 1)) low (antitone e.votes e.sure (e.seats - 1) votes beyond (omega (arith, few))) h)
        ]

    -- what a party may have has a claim at the threshold or above it
    pub wants : (s : ℕ) → 0 < e.votes → s < may_have e → is_at_least (claim e.votes s) low ≡ true
    wants s votes less = elim (either e.tied) [
      | inl tied ↦
          at_least-trans (claim e.votes s) (claim e.votes e.sure) low (antitone e.votes s e.sure votes (omega (arith, rw tied at less)) stands.fits)
          (sym (stands.tie votes) ∙ tied)
      | inr free ↦
          let within : s + 1 ≤ e.sure = omega (arith, rw free at less) in
          at_least-trans (claim e.votes s) (claim e.votes (e.sure - 1)) low (antitone e.votes s (e.sure - 1) votes (omega (arith, within)) (omega (arith, stands.fits)))
          (at_least-total low (claim e.votes (e.sure - 1)) (stands.above votes (omega (arith, within))))
    ]

    -- what is surely a party's has a claim above the threshold
    surely : (s : ℕ) → s < e.sure → 0 < e.votes → is_at_least low (claim e.votes s) ≡ false
    surely s less votes = not-true _ (λ h.
        sym (stands.above votes (omega (arith, less)))
        ∙ at_least-trans low (claim e.votes s) (claim e.votes (e.sure - 1)) h (antitone e.votes s (e.sure - 1) votes (omega (arith, less)) (omega (arith, stands.fits))))

    -- no claim above the threshold is left where a party has what is surely its own
    pub rests : (s : ℕ) → 0 < e.votes → e.sure ≤ s → s ≤ most → is_at_least low (claim e.votes s) ≡ true
    rests s votes has fits = at_least-trans low (claim e.votes e.sure) (claim e.votes s) (stands.below votes) (antitone e.votes e.sure s votes has fits)

  -- the last seat of the first has a claim no smaller than that of the second to its next
  abbrev pub keeps : Entry → Entry → Bool
  keeps x y = x.votes == 0 || (y.votes == 0 || (x.seats == 0 || is_at_least (claim x.votes (x.seats - 1)) (claim y.votes y.seats)))

  keeps-claims : (x y : Entry) → keeps x y ≡ true → 0 < x.votes → 0 < y.votes → 0 < x.seats → is_at_least (claim x.votes (x.seats - 1)) (claim y.votes y.seats) ≡ true
  keeps-claims x y h xv yv xs = rw (some_is x.votes xv, some_is y.votes yv, some_is x.seats xs) at h

  keeps-from_claims : (x y : Entry) → (0 < x.votes → 0 < y.votes → 0 < x.seats → is_at_least (claim x.votes (x.seats - 1)) (claim y.votes y.seats) ≡ true) → keeps x y ≡ true
  keeps-from_claims x y h =
      let test = is_at_least (claim x.votes (x.seats - 1)) (claim y.votes y.seats) in
      elim (none_or_some x.votes) [
        | inl none ↦ rw (zero_is x.votes none) refl
        | inr xv ↦ elim (none_or_some y.votes) [
          | inl none ↦ rw (zero_is y.votes none) (or-true (x.votes == 0))
          | inr yv ↦ elim (none_or_some x.seats) [
            | inl none ↦ rw (zero_is x.seats none, or-true (y.votes == 0)) (or-true (x.votes == 0))
            | inr xs ↦ rw (some_is x.votes xv, some_is y.votes yv, some_is x.seats xs) (h xv yv xs)
          ]
        ]
      ]

  -- a party has what is surely its own, and no more than it may have
  abbrev pub within : Entry → Bool
  within e = nat_le e.sure e.seats && nat_le e.seats (may_have e)

  le-within : (e : Entry) → e.sure ≤ e.seats → e.seats ≤ may_have e → within e ≡ true
  le-within e h k = grind arith

  within-le : (e : Entry) → within e ≡ true → (e.sure ≤ e.seats) × (e.seats ≤ may_have e)
  within-le e h = (grind arith, grind arith)

  pairs-within : (x y : Entry) → IsSound x → IsSound y → within x ≡ true → within y ≡ true → keeps x y ≡ true
  pairs-within x y sx sy hx hy =
      keeps-from_claims x y (λ xv yv xs.
      at_least-trans (claim x.votes (x.seats - 1)) low (claim y.votes y.seats)
      (wants x sx (x.seats - 1) xv (omega (arith, (within-le x hx).1, xs)))
      (rests y sy y.seats yv (within-le y hy).0 sy.few))

  module _ (es : List Entry) (sound : (e : Entry) → Has es e → IsSound e) (kept : (x y : Entry) → Has es x → Has es y → keeps x y ≡ true) where
    -- where one has more than it may have, no other has less than it may have
    all-have_most : (x : Entry) → Has es x → may_have x < x.seats → (y : Entry) → Has es y → may_have y ≤ y.seats
    all-have_most x hx more y hy =
        let sx = sound x hx in
        let sy = sound y hy in
        elim (none_or_some (may_have y - y.seats)) [
          | inl fine ↦ omega (arith, fine)
          | inr less ↦ elim (none_or_some y.votes) [
            | inl none ↦
                let bare = sy.stands.none none in
                omega (arith, less, bare.0, rw bare.1 at less)
            | inr yv ↦
                let want = wants y sy y.seats yv (omega (arith, less)) in
                let xs : 0 < x.seats = omega (arith, more) in
                let claims = keeps-claims x y (kept x y hx hy) (seats-votes x sx xs) yv xs in
                absurd (sym (over x sx more) ∙ at_least-trans (claim x.votes (x.seats - 1)) (claim y.votes y.seats) low claims want)
          ]
        ]

    -- where one has less than is surely its own, no other has more than that
    all-have_least : (x : Entry) → Has es x → x.seats < x.sure → (y : Entry) → Has es y → y.seats ≤ y.sure
    all-have_least x hx less y hy =
        let sx = sound x hx in
        let sy = sound y hy in
        elim (none_or_some (y.seats - y.sure)) [
          | inl fine ↦ omega (arith, fine)
          | inr more ↦
              let ys : 0 < y.seats = omega (arith, more) in
              let yv = seats-votes y sy ys in
              elim (none_or_some x.votes) [
                | inl none ↦ omega (arith, less, (sx.stands.none none).0)
                | inr xv ↦
                    let claims = keeps-claims y x (kept y x hy hx) yv xv ys in
                    let rest = rests y sy (y.seats - 1) yv (omega (arith, more)) (omega (arith, sy.few)) in
                    absurd (sym (surely x sx x.seats less xv) ∙ at_least-trans low (claim y.votes (y.seats - 1)) (claim x.votes x.seats) rest claims)
              ]
        ]

    all-within : sum_by (λ (e : Entry). e.sure) es ≤ sum_by (λ (e : Entry). e.seats) es → sum_by (λ (e : Entry). e.seats) es ≤ sum_by may_have es
        → (x : Entry) → Has es x → within x ≡ true
    all-within low_sum high_sum x hx = elim (none_or_some (x.sure - x.seats)) [
      | inr less ↦
          let fewer = sums-lt (λ (e : Entry). e.seats) (λ (e : Entry). e.sure) es x hx (omega (arith, less)) (λ y hy. all-have_least x hx (omega (arith, less)) y hy) in
          impossible (omega (arith, fewer, low_sum))
      | inl has ↦ elim (none_or_some (x.seats - may_have x)) [
        | inr more ↦
            let fewer = sums-lt may_have (λ (e : Entry). e.seats) es x hx (omega (arith, more)) (λ y hy. all-have_most x hx (omega (arith, more)) y hy) in
            impossible (omega (arith, fewer, high_sum))
        | inl fine ↦ le-within x (omega (arith, has)) (omega (arith, fine))
      ]
    ]

  -- ---- the theorem
  pub kept-is_within : (es : List Entry) → ((e : Entry) → Has es e → IsSound e)
      → sum_by (λ (e : Entry). e.sure) es ≤ sum_by (λ (e : Entry). e.seats) es → sum_by (λ (e : Entry). e.seats) es ≤ sum_by may_have es
      → list_all (λ x. list_all (keeps x) es) es ≡ list_all within es
  kept-is_within es sound low_sum high_sum = same_bools _ _
      (λ kept. all-from_members within es (all-within es sound
      (λ x y hx hy. all-member (keeps x) es y (all-member (λ z. list_all (keeps z) es) es x kept hx) hy) low_sum high_sum))
      (λ all. all-from_members (λ z. list_all (keeps z) es) es (λ x hx. all-from_members (keeps x) es (λ y hy.
      pairs-within x y (sound x hx) (sound y hy) (all-member within es x all hx) (all-member within es y all hy))))
