-- Sums of what each hit gives.
use Rattle.std.proofs.Common.{◌≡◌, ℕ, zero, suc, ◌+◌, ◌-◌, ◌*◌, ◌<◌, ◌≤◌, List, refl, sym, ap, subst, arith, inl, inr, length, replicate, set, sum, take, get_or, rules}
use Rattle.std.proofs.lemmas.Bool.{cases_eq}
use Rattle.std.proofs.lemmas.List.{get_or-set_same, get_or-set_other}
use Rattle.ballot_base.specs.Limits.{most_candidates}
use Rattle.tie_walk.proofs.TableLemmas.{sum-take_more}
use Rattle.tie_walk.proofs.WorthLemmas.{no_total}

-- the sums up to so many hits, of which the last gave `last`
pub record AreMade (weights : List ℕ) (scale unit most : ℕ) (sums : List ℕ) (hits last : ℕ) : Type 0 where
  pub long : length sums ≡ 65
  pub up : (h : ℕ) → h ≤ hits → scale * sum (take h weights) ≤ unit * get_or sums h 0
  pub small : (h : ℕ) → get_or sums h 0 ≤ most
  pub step : (h : ℕ) → h + 1 ≡ hits → get_or sums hits 0 ≡ get_or sums h 0 + last
  pub rises : (h : ℕ) → h + 1 ≤ hits → get_or sums h 0 ≤ get_or sums (h + 1) 0
  pub concave : (h : ℕ) → h + 2 ≤ hits → get_or sums (h + 2) 0 + get_or sums h 0 ≤ 2 * get_or sums (h + 1) 0

none-up : (weights : List ℕ) (scale n h : ℕ) → h ≤ 0 → scale * sum (take h weights) ≤ n
none-up weights scale n zero low = omega arith
none-up weights scale n (suc h) low = absurd (omega (arith, low))

pub made-none : (weights : List ℕ) (scale unit most last : ℕ) → AreMade weights scale unit most (replicate 65 0) 0 last
made-none weights scale unit most last = record {
  long = refl;
  up = λ h low. none-up weights scale (unit * get_or (replicate 65 0) h 0) h low;
  small = λ h. let e : get_or {A = ℕ} (replicate 65 0) h 0 ≡ 0 = no_total 65 h in omega (arith, e);
  step = λ h is. absurd (omega (arith, is));
  rises = λ h low. absurd (omega (arith, low));
  concave = λ h low. absurd (omega (arith, low));
}

-- one sum more
pub made-more : (weights : List ℕ) (scale unit most : ℕ) (sums : List ℕ) (hits last increment n : ℕ) → AreMade weights scale unit most sums hits last → hits < 64
    → scale * get_or weights hits 0 ≤ unit * increment → increment ≤ last → n ≡ get_or sums hits 0 + increment → n ≤ most
    → AreMade weights scale unit most (set sums (hits + 1) n) (hits + 1) increment
made-more weights scale unit most sums hits last increment n made inside up falls is low =
    let here : get_or (set sums (hits + 1) n) (hits + 1) 0 ≡ n = get_or-set_same sums (hits + 1) n 0 (omega (arith, made.long, inside)) in
    let kept : (h : ℕ) → h ≤ hits → get_or (set sums (hits + 1) n) h 0 ≡ get_or sums h 0 =
    λ h few. get_or-set_other sums (hits + 1) h n 0 (omega (arith, few)) in
    let long = made.long in
    record {
      long = search rules;
      up = λ h few. elim (cases_eq h (hits + 1)) [
        | inl same ↦
            let more : scale * sum (take (hits + 1) weights) ≤ unit * n =
            let split : (a b c : ℕ) → a * (b + c) ≡ a * b + a * c = λ a b c. omega arith in
            omega (
              arith,
              made.up hits (omega arith),
              up,
              ap (λ m. scale * m) (sum-take_more weights hits),
              split scale (sum (take hits weights)) (get_or weights hits 0),
              ap (λ m. unit * m) is,
              split unit (get_or sums hits 0) increment,
            ) in
            subst (λ m. scale * sum (take m weights) ≤ unit * get_or (set sums (hits + 1) n) m 0) (sym same) (subst (λ m. scale * sum (take (hits + 1) weights) ≤ unit * m) (sym here) more)
        | inr other ↦ subst (λ m. scale * sum (take h weights) ≤ unit * m) (sym (kept h (omega (arith, few, other)))) (made.up h (omega (arith, few, other)))
      ];
      small = λ h. elim (cases_eq h (hits + 1)) [
        | inl same ↦ omega (arith, low, ap (λ m. get_or (set sums (hits + 1) n) m 0) same, here)
        | inr other ↦ omega (arith, made.small h, get_or-set_other sums (hits + 1) h n 0 other)
      ];
      step = λ h last_is.
          let same : h ≡ hits = omega (arith, last_is) in
          omega (arith, here, is, kept h (omega (arith, same)), ap (λ m. get_or sums m 0) same);
      rises = λ h few. elim (cases_eq h hits) [
        | inl same ↦ omega (arith, here, is, kept h (omega (arith, same)), ap (λ m. get_or sums m 0) same, ap (λ m. get_or (set sums (hits + 1) n) (m + 1) 0) same)
        | inr other ↦ omega (arith, kept h (omega (arith, few)), kept (h + 1) (omega (arith, few, other)), made.rises h (omega (arith, few, other)))
      ];
      concave = λ h few. elim (cases_eq (h + 1) hits) [
        | inl same ↦ omega (
          arith,
          here,
          is,
          falls,
          kept h (omega (arith, same)),
          kept (h + 1) (omega (arith, same)),
          ap (λ m. get_or sums m 0) same,
          ap (λ m. get_or (set sums (hits + 1) n) (m + 1) 0) same,
          made.step h same,
          ap (λ m. get_or (set sums (hits + 1) n) m 0) (let top : h + 2 ≡ hits + 1 = omega (arith, same) in top),
        )
        | inr other ↦ omega (
          arith,
          kept h (omega (arith, few)),
          kept (h + 1) (omega (arith, few)),
          kept (h + 2) (omega (arith, few, other)),
          made.concave h (omega (arith, few, other)),
        )
      ];
    }

-- each hit gives no more than the one before
abbrev pub AreConcave : List ℕ → Type 0
AreConcave sums = (h : ℕ) → h + 2 ≤ most_candidates → get_or sums (h + 2) 0 + get_or sums h 0 ≤ 2 * get_or sums (h + 1) 0

-- after a hit that gives no more than an amount, each does
pub falls : (sums : List ℕ) (n amount : ℕ) → AreConcave sums → get_or sums (n + 1) 0 ≤ get_or sums n 0 + amount
    → (i : ℕ) → n ≤ i → i + 1 ≤ most_candidates → get_or sums (i + 1) 0 ≤ get_or sums i 0 + amount
falls sums n amount concave first zero low fits =
    let same : n ≡ 0 = omega (arith, low) in
    subst (λ m. get_or sums (m + 1) 0 ≤ get_or sums m 0 + amount) same first
falls sums n amount concave first (suc i) low fits = elim (cases_eq n (suc i)) [
  | inl same ↦ subst (λ m. get_or sums (m + 1) 0 ≤ get_or sums m 0 + amount) same first
  | inr other ↦
      let before = falls sums n amount concave first i (omega (arith, low, other)) (omega (arith, fits)) in
      let next : i + 1 ≡ suc i = omega arith in
      let last : i + 2 ≡ suc i + 1 = omega arith in
      omega (arith, before, concave i (omega (arith, fits)), ap (λ m. get_or sums m 0) next, ap (λ m. get_or sums m 0) last)
]

-- so all hits after it give no more than as many amounts
pub least-after : (sums : List ℕ) (n amount : ℕ) → AreConcave sums → get_or sums (n + 1) 0 ≤ get_or sums n 0 + amount
    → (d : ℕ) → n + d ≤ most_candidates → get_or sums (n + d) 0 ≤ get_or sums n 0 + amount * d
least-after sums n amount concave first zero fits =
    let same : n + 0 ≡ n = omega arith in
    omega (arith, ap (λ m. get_or sums m 0) same)
least-after sums n amount concave first (suc d) fits =
    let before = least-after sums n amount concave first d (omega (arith, fits)) in
    let next = falls sums n amount concave first (n + d) (omega arith) (omega (arith, fits)) in
    let same : n + suc d ≡ n + d + 1 = omega arith in
    omega (arith, before, next, ap (λ m. get_or sums m 0) same)

-- so no later hit adds more than as many amounts
pub later : (sums : List ℕ) (before hits h amount : ℕ) → AreConcave sums → get_or sums (before + hits + 1) 0 ≤ get_or sums (before + hits) 0 + amount
    → hits ≤ h → before + h ≤ most_candidates → get_or sums (before + h) 0 + amount * hits ≤ get_or sums (before + hits) 0 + amount * h
later sums before hits h amount concave first low fits =
    let apart : h ≡ hits + (h - hits) = omega (arith, low) in
    let place : before + h ≡ before + hits + (h - hits) = omega (arith, low) in
    let split : (a b c : ℕ) → a * (b + c) ≡ a * b + a * c = λ a b c. omega arith in
    omega (
      arith,
      least-after sums (before + hits) amount concave first (h - hits) (omega (arith, low, fits)),
      ap (λ m. get_or sums m 0) place,
      ap (λ m. amount * m) apart,
      split amount hits (h - hits),
    )

rises-on : (sums : List ℕ) (low more : ℕ) → ((h : ℕ) → h + 1 ≤ most_candidates → get_or sums h 0 ≤ get_or sums (h + 1) 0) → low + more ≤ most_candidates
    → get_or sums low 0 ≤ get_or sums (low + more) 0
rises-on sums low zero rises within = omega (arith, ap (λ m. get_or sums m 0) (let e : low + 0 ≡ low = omega arith in e))
rises-on sums low (suc more) rises within =
    let place : low + suc more ≡ low + more + 1 = omega arith in
    omega (
      arith,
      rises-on sums low more rises (omega (arith, within)),
      rises (low + more) (omega (arith, within)),
      ap (λ m. get_or sums m 0) place,
    )

-- more hits never give less
pub never-less : (sums : List ℕ) (low high : ℕ) → ((h : ℕ) → h + 1 ≤ most_candidates → get_or sums h 0 ≤ get_or sums (h + 1) 0) → low ≤ high → high ≤ most_candidates
    → get_or sums low 0 ≤ get_or sums high 0
never-less sums low high rises order within =
    let place : low + (high - low) ≡ high = omega (arith, order) in
    omega (arith, rises-on sums low (high - low) rises (omega (arith, place, within)), ap (λ m. get_or sums m 0) place)
