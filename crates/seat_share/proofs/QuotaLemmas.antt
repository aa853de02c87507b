-- Hamilton's method, by claims: a party has its quota's seats, and the greatest remainders have one more, exactly where no
-- party has a claim to another's seat.
use Rattle.std.proofs.Common.{◌≡◌, ℕ, ◌+◌, ◌-◌, ◌*◌, ◌<◌, ◌≤◌, ◌==◌, ◌⊎◌, ◌&&◌, ◌||◌, Bool, not, true, false, List, [], ◌∷◌, refl, sym, ap, ◌∙◌, inl, inr, arith, sum_by, mod-lt, div-add-mod', mul-le-mul_right, mul_comm}
use Rattle.std.specs.Prelude.{nat_le}
use Rattle.std.specs.List.{list_all}
use Rattle.std.proofs.lemmas.List.Sums.{sum_by-cons}
use Rattle.seat_share.specs.declared.method.Method.TheVariants.{Hamilton}
use Rattle.seat_share.specs.Quotients.{is_at_least}
use Rattle.seat_share.specs.Steps.Claims.{claim}
use Rattle.seat_share.specs.Fair.{Party, quota_seats, remainder, is_near_quota, has_the_remainder}
use Rattle.seat_share.proofs.Order.{absurd, le-true, true-le, over_some, zero_is, some_is}
use Rattle.seat_share.proofs.Members.{Has, all-member, all-from_members, sums-lt, same_bools, and-left, and-right, both}
use Rattle.seat_share.proofs.Threshold.{none_or_some, or-true, impossible, either}

pub sum-times : (f : Party → ℕ) (c : ℕ) (ps : List Party) → sum_by (λ p. f p * c) ps ≡ sum_by f ps * c
sum-times f c [] = omega arith
sum-times f c (p ∷ ps) =
    let whole : (f p + sum_by f ps) * c ≡ f p * c + sum_by f ps * c = omega arith in
    sum_by-cons (λ q. f q * c) p ps ∙ ap (λ n. f p * c + n) (sum-times f c ps) ∙ sym whole ∙ ap (λ n. n * c) (sym (sum_by-cons f p ps))

equal : (a b : ℕ) → (a == b) ≡ true → a ≡ b
equal a b h = grind arith

equal-true : (a b : ℕ) → a ≡ b → (a == b) ≡ true
equal-true a b h = grind arith

nothing-times : (a c : ℕ) → a ≡ 0 → a * c ≡ 0
nothing-times a c h = let none : 0 * c ≡ 0 = omega arith in ap (λ n. n * c) h ∙ none

middle-true : (a b c : Bool) → b ≡ true → (a || b || c) ≡ true
middle-true true b c h = refl
middle-true false true c h = refl
middle-true false false c h = absurd h

one-of : (b c : Bool) → (b || c) ≡ true → (b ≡ true) ⊎ (c ≡ true)
one-of true c h = inl refl
one-of false c h = inr h

same-order : (w v a b t aside bside all : ℕ) → aside + a ≡ all → bside + b ≡ all → nat_le ((w + bside) * 1) ((v + aside) * 1) ≡ nat_le (w + a) (v + b)
same-order w v a b t aside bside all ha hb = same_bools _ _
    (λ h. le-true (w + a) (v + b) (omega (arith, ha, hb, true-le ((w + bside) * 1) ((v + aside) * 1) h)))
    (λ h. le-true ((w + bside) * 1) ((v + aside) * 1) (omega (arith, ha, hb, true-le (w + a) (v + b) h)))

module _ (total most : ℕ) (some : 0 < total) where
  times-back : (a : ℕ) → a ≤ most → (most - a) * total + a * total ≡ most * total
  times-back a fits = let split : most ≡ (most - a) + a = omega (arith, fits) in let h : ((most - a) + a) * total ≡ (most - a) * total + a * total = omega arith in sym h ∙ ap (λ n. n * total) (sym split)

  -- a claim, by what is left of the votes
  claims : (v a w b : ℕ) → a ≤ most → b ≤ most
      → is_at_least (claim Hamilton total most v a) (claim Hamilton total most w b) ≡ nat_le (w * most + a * total) (v * most + b * total)
  claims v a w b fa fb =
      over_some (v * most + (most - a) * total) 1 (w * most + (most - b) * total) 1 (omega arith) (omega arith)
      ∙ same-order (w * most) (v * most) (a * total) (b * total) 0 ((most - a) * total) ((most - b) * total) (most * total) (times-back a fa) (times-back b fb)

  abbrev quota : ℕ → ℕ
  quota v = quota_seats total most v

  abbrev rest : ℕ → ℕ
  rest v = remainder total most v

  pub parts : (v : ℕ) → v * most ≡ quota v * total + rest v
  parts v = omega (arith, div-add-mod' (v * most) total)

  pub rest-small : (v : ℕ) → rest v < total
  rest-small v = mod-lt (v * most) some

  -- the test of two parties by their claims
  abbrev pub keeps : Party → Party → Bool
  keeps x y = x.0 == 0 || (y.0 == 0 || (x.1 == 0 || is_at_least (claim Hamilton total most x.0 (x.1 - 1)) (claim Hamilton total most y.0 y.1)))

  module _ (x y : Party) (fx : x.1 ≤ most) (fy : y.1 ≤ most) where
    keeps-order : keeps x y ≡ true → 0 < x.0 → 0 < y.0 → 0 < x.1 → y.0 * most + (x.1 - 1) * total ≤ x.0 * most + y.1 * total
    keeps-order h xv yv xs =
        let test = rw (some_is x.0 xv, some_is y.0 yv, some_is x.1 xs) at h in
        true-le _ _ (sym (claims x.0 (x.1 - 1) y.0 y.1 (omega (arith, fx)) fy) ∙ test)

    order-keeps : (0 < x.0 → 0 < y.0 → 0 < x.1 → y.0 * most + (x.1 - 1) * total ≤ x.0 * most + y.1 * total) → keeps x y ≡ true
    order-keeps h = elim (none_or_some x.0) [
      | inl none ↦ rw (zero_is x.0 none) refl
      | inr xv ↦ elim (none_or_some y.0) [
        | inl none ↦ rw (zero_is y.0 none) (or-true (x.0 == 0))
        | inr yv ↦ elim (none_or_some x.1) [
          | inl none ↦ rw (zero_is x.1 none, or-true (y.0 == 0)) (or-true (x.0 == 0))
          | inr xs ↦
              rw (some_is x.0 xv, some_is y.0 yv, some_is x.1 xs) (claims x.0 (x.1 - 1) y.0 y.1 (omega (arith, fx)) fy ∙ le-true _ _ (h xv yv xs))
        ]
      ]
    ]

  -- what the tests of the method say
  pub near : (p : Party) → is_near_quota total most p ≡ true → (p.1 ≡ quota p.0) ⊎ (p.1 ≡ quota p.0 + 1)
  near p h = elim (one-of (p.1 == quota p.0) (p.1 == quota p.0 + 1) h) [
    | inl e ↦ inl (equal p.1 (quota p.0) e)
    | inr e ↦ inr (equal p.1 (quota p.0 + 1) e)
  ]

  near-true : (p : Party) → quota p.0 ≤ p.1 → p.1 ≤ quota p.0 + 1 → is_near_quota total most p ≡ true
  near-true p h k = grind arith

  pub remains : (x y : Party) → has_the_remainder total most x y ≡ true → x.1 ≡ quota x.0 + 1 → y.1 ≡ quota y.0 → rest y.0 ≤ rest x.0
  remains x y h hx hy =
      true-le (rest y.0) (rest x.0) (rw (equal-true x.1 (quota x.0 + 1) hx, equal-true y.1 (quota y.0) hy) at h)

  remains-true : (x y : Party) → (x.1 ≡ quota x.0 + 1 → y.1 ≡ quota y.0 → rest y.0 ≤ rest x.0) → has_the_remainder total most x y ≡ true
  remains-true x y h = elim (either (x.1 == quota x.0 + 1)) [
    | inr other ↦ rw other refl
    | inl hx ↦ elim (either (y.1 == quota y.0)) [
      | inr other ↦ middle-true (not (x.1 == quota x.0 + 1)) (not (y.1 == quota y.0)) (nat_le (rest y.0) (rest x.0)) (ap not other)
      | inl hy ↦ rw (hx, hy) (le-true (rest y.0) (rest x.0) (h (equal x.1 (quota x.0 + 1) hx) (equal y.1 (quota y.0) hy)))
    ]
  ]

  -- ---- two parties near their quotas, of which the first has the remainder
  pair-keeps : (x y : Party) → x.1 ≤ most → y.1 ≤ most → is_near_quota total most x ≡ true → is_near_quota total most y ≡ true
      → has_the_remainder total most x y ≡ true → keeps x y ≡ true
  pair-keeps x y fx fy nx ny r = order-keeps x y fx fy (λ xv yv xs.
      let px = parts x.0 in
      let py = parts y.0 in
      let small = rest-small y.0 in
      let back : (x.1 - 1) * total + total ≡ x.1 * total = let split : x.1 ≡ (x.1 - 1) + 1 = omega (arith, xs) in let h : ((x.1 - 1) + 1) * total ≡ (x.1 - 1) * total + total = omega arith in sym h ∙ ap (λ n. n * total) (sym split) in
      elim (near x nx) [
        | inl hx ↦
            let hxt : x.1 * total ≡ quota x.0 * total = ap (λ n. n * total) hx in
            elim (near y ny) [
              | inl hy ↦ let hyt : y.1 * total ≡ quota y.0 * total = ap (λ n. n * total) hy in omega (arith, px, py, small, back, hxt, hyt)
              | inr hy ↦
                  let one : (quota y.0 + 1) * total ≡ quota y.0 * total + total = omega arith in
                  let hyt : y.1 * total ≡ quota y.0 * total + total = ap (λ n. n * total) hy ∙ one in
                  omega (arith, px, py, small, back, hxt, hyt)
            ]
        | inr hx ↦
            let onex : (quota x.0 + 1) * total ≡ quota x.0 * total + total = omega arith in
            let hxt : x.1 * total ≡ quota x.0 * total + total = ap (λ n. n * total) hx ∙ onex in
            elim (near y ny) [
              | inl hy ↦
                  let hyt : y.1 * total ≡ quota y.0 * total = ap (λ n. n * total) hy in
                  omega (arith, px, py, back, hxt, hyt, remains x y r hx hy)
              | inr hy ↦
                  let one : (quota y.0 + 1) * total ≡ quota y.0 * total + total = omega arith in
                  let hyt : y.1 * total ≡ quota y.0 * total + total = ap (λ n. n * total) hy ∙ one in
                  omega (arith, px, py, small, back, hxt, hyt)
            ]
      ])

  module _ (ps : List Party) (few : (p : Party) → Has ps p → p.1 ≤ most) (earned : (p : Party) → Has ps p → p.0 ≡ 0 → p.1 ≡ 0) (votes : sum_by (λ (p : Party). p.0) ps ≡ total) (seats : sum_by (λ (p : Party). p.1) ps ≡ most)
      (kept : (x y : Party) → Has ps x → Has ps y → keeps x y ≡ true) where
    -- votes times seats are as much as seats times votes
    balanced : sum_by (λ (p : Party). p.0 * most) ps ≡ sum_by (λ (p : Party). p.1 * total) ps
    balanced = sum-times (λ p. p.0) most ps ∙ ap (λ n. n * most) votes ∙ mul_comm total most ∙ ap (λ n. n * total) (sym seats) ∙ sym (sum-times (λ p. p.1) total ps)

    least : (x : Party) → Has ps x → quota x.0 ≤ x.1
    least x hx = elim (none_or_some (quota x.0 - x.1)) [
      | inl fine ↦ omega (arith, fine)
      | inr less ↦
          let px = parts x.0 in
          let below : (x.1 + 1) * total ≤ quota x.0 * total = mul-le-mul_right total (omega (arith, less)) in
          let one : (x.1 + 1) * total ≡ x.1 * total + total = omega arith in
          let each : (y : Party) → Has ps y → y.1 * total ≤ y.0 * most = λ y hy. elim (none_or_some y.1) [
            | inl none ↦ let zero_seats : y.1 * total ≡ 0 = nothing-times _ total none in omega (arith, zero_seats)
            | inr ys ↦ elim (none_or_some y.0) [
              | inl none ↦ omega (arith, ys, earned y hy none)
              | inr yv ↦ elim (none_or_some x.0) [
                | inl none ↦ let no_votes : x.0 * most ≡ 0 = nothing-times _ most none in impossible (omega (arith, no_votes, px, below, one, some))
                | inr xv ↦
                    let order = keeps-order y x (few y hy) (few x hx) (kept y x hy hx) yv xv ys in
                    let back : (y.1 - 1) * total + total ≡ y.1 * total = let split : y.1 ≡ (y.1 - 1) + 1 = omega (arith, ys) in let h : ((y.1 - 1) + 1) * total ≡ (y.1 - 1) * total + total = omega arith in sym h ∙ ap (λ n. n * total) (sym split) in
                    omega (arith, order, back, px, below, one)
              ]
            ]
          ] in
          let fewer = sums-lt (λ (p : Party). p.1 * total) (λ (p : Party). p.0 * most) ps x hx (omega (arith, px, below, one, some)) each in
          impossible (omega (arith, fewer, balanced))
    ]

    greatest : (x : Party) → Has ps x → x.1 ≤ quota x.0 + 1
    greatest x hx = elim (none_or_some (x.1 - (quota x.0 + 1))) [
      | inl fine ↦ omega (arith, fine)
      | inr more ↦
          let px = parts x.0 in
          let xs : 0 < x.1 = omega (arith, more) in
          let above : (quota x.0 + 1) * total ≤ (x.1 - 1) * total = mul-le-mul_right total (omega (arith, more)) in
          let one : (quota x.0 + 1) * total ≡ quota x.0 * total + total = omega arith in
          let back : (x.1 - 1) * total + total ≡ x.1 * total = let split : x.1 ≡ (x.1 - 1) + 1 = omega (arith, xs) in let h : ((x.1 - 1) + 1) * total ≡ (x.1 - 1) * total + total = omega arith in sym h ∙ ap (λ n. n * total) (sym split) in
          let small = rest-small x.0 in
          let each : (y : Party) → Has ps y → y.0 * most ≤ y.1 * total = λ y hy. elim (none_or_some y.0) [
            | inl none ↦ let no_votes : y.0 * most ≡ 0 = nothing-times _ most none in omega (arith, no_votes)
            | inr yv ↦ elim (none_or_some x.0) [
              | inl none ↦ impossible (omega (arith, xs, earned x hx none))
              | inr xv ↦
                  let order = keeps-order x y (few x hx) (few y hy) (kept x y hx hy) xv yv xs in
                  omega (arith, order, px, above, one, small)
            ]
          ] in
          let fewer = sums-lt (λ (p : Party). p.0 * most) (λ (p : Party). p.1 * total) ps x hx (omega (arith, px, above, one, back, small, some)) each in
          impossible (omega (arith, fewer, balanced))
    ]

    all-near : (x : Party) → Has ps x → is_near_quota total most x ≡ true
    all-near x hx = near-true x (least x hx) (greatest x hx)

    all-remain : (x y : Party) → Has ps x → Has ps y → has_the_remainder total most x y ≡ true
    all-remain x y hx hy = remains-true x y (λ ex ey. elim (none_or_some y.0) [
      | inl none ↦
          let no_votes : y.0 * most ≡ 0 = nothing-times _ most none in
          omega (arith, parts y.0, no_votes)
      | inr yv ↦
          let xs : 0 < x.1 = omega (arith, ex) in
          elim (none_or_some x.0) [
            | inl none ↦ omega (arith, xs, earned x hx none)
            | inr xv ↦
                let order = keeps-order x y (few x hx) (few y hy) (kept x y hx hy) xv yv xs in
                let one : (quota x.0 + 1) * total ≡ quota x.0 * total + total = omega arith in
                let hxt : x.1 * total ≡ quota x.0 * total + total = ap (λ n. n * total) ex ∙ one in
                let hyt : y.1 * total ≡ quota y.0 * total = ap (λ n. n * total) ey in
                let back : (x.1 - 1) * total + total ≡ x.1 * total = let split : x.1 ≡ (x.1 - 1) + 1 = omega (arith, xs) in let h : ((x.1 - 1) + 1) * total ≡ (x.1 - 1) * total + total = omega arith in sym h ∙ ap (λ n. n * total) (sym split) in
                omega (arith, order, back, hxt, hyt, parts x.0, parts y.0)
          ]
    ])

  -- ---- the theorem
  pub hamilton-is_kept : (ps : List Party) → ((p : Party) → Has ps p → p.1 ≤ most) → ((p : Party) → Has ps p → p.0 ≡ 0 → p.1 ≡ 0)
      → sum_by (λ (p : Party). p.0) ps ≡ total → sum_by (λ (p : Party). p.1) ps ≡ most
      → (list_all (is_near_quota total most) ps && list_all (λ x. list_all (has_the_remainder total most x) ps) ps) ≡ list_all (λ x. list_all (keeps x) ps) ps
  hamilton-is_kept ps few earned votes seats = same_bools _ _
      (λ h.
      let nears = and-left (list_all (is_near_quota total most) ps) _ h in
      let rests = and-right (list_all (is_near_quota total most) ps) _ h in
      all-from_members (λ x. list_all (keeps x) ps) ps (λ x hx. all-from_members (keeps x) ps (λ y hy.
      pair-keeps x y (few x hx) (few y hy) (all-member (is_near_quota total most) ps x nears hx) (all-member (is_near_quota total most) ps y nears hy)
      (all-member (has_the_remainder total most x) ps y (all-member (λ z. list_all (has_the_remainder total most z) ps) ps x rests hx) hy))))
      (λ h.
      let kept : (x y : Party) → Has ps x → Has ps y → keeps x y ≡ true = λ x y hx hy. all-member (keeps x) ps y (all-member (λ z. list_all (keeps z) ps) ps x h hx) hy in
      both _ _ (all-from_members (is_near_quota total most) ps (all-near ps few earned votes seats kept))
      (all-from_members (λ x. list_all (has_the_remainder total most x) ps) ps (λ x hx. all-from_members (has_the_remainder total most x) ps (λ y hy. all-remain ps few earned votes seats kept x y hx hy))))
