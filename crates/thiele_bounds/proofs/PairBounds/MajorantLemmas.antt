-- What majorants are made from, and tables in which they are kept.
use Rattle.std.proofs.Common.{◌≡◌, ℕ, zero, suc, ◌+◌, ◌-◌, ◌*◌, ◌<◌, ◌≤◌, ◌∙◌, List, Option, None, Some, refl, sym, ap, subst, arith, inl, inr, length, min, replicate, get_or, get_or-set_other, get_or-set_same, set, MatchOption}
use Rattle.std.specs.Prelude.{⊤}
use Rattle.ballot_base.specs.Limits.{most_candidates}
use Rattle.thiele_bounds.specs.declared.majorant.HitSums.{HitSums}
use Rattle.thiele_bounds.specs.declared.majorant.Majorant.{Majorant}
use Rattle.thiele_bounds.specs.Steps.Cubics.{AreKept, Cubed, IsCubicOf}
use Rattle.thiele_bounds.specs.Steps.Majorants.{AreMajorants, places_before, places_open}
use Rattle.std.proofs.lemmas.Bool.{cases_eq}
use Rattle.thiele_bounds.specs.Steps.Paired.{AreSmallSums, IsMajorantOf}

-- further hits take nothing away
more-hits : (sums : List ℕ) → ((h : ℕ) → h + 1 ≤ most_candidates → get_or sums h 0 ≤ get_or sums (h + 1) 0) → (more h : ℕ) → h + more ≤ most_candidates → get_or sums h 0 ≤ get_or sums (h + more) 0
more-hits sums rises zero h few = omega (arith, ap (λ n. get_or sums n 0) (let same : h + zero ≡ h = omega arith in same))
more-hits sums rises (suc more) h few =
    let same : h + suc more ≡ h + more + 1 = omega arith in
    omega (arith, more-hits sums rises more h (omega (arith, few)), rises (h + more) (omega (arith, few)), ap (λ n. get_or sums n 0) same)

pub small-sums : (given : HitSums) → AreSmallSums given.sums
small-sums given = record {
  all_small = given.small most_candidates;
  none_above = λ h few.
      let all : h + (most_candidates - h) ≡ most_candidates = omega (arith, few) in
      omega (arith, more-hits given.sums given.rises (most_candidates - h) h (omega (arith, all)), ap (λ n. get_or given.sums n 0) all);
}

nowhere : (n i : ℕ) → get_or {A = Option Majorant} (replicate n None) i None ≡ None
nowhere zero i = refl
nowhere (suc n) zero = refl
nowhere (suc n) (suc i) = nowhere n i

-- no majorant was made
pub table-none : (sums : List ℕ) (left n : ℕ) → AreMajorants sums left (replicate n None)
table-none sums left n before approved low few =
    subst (λ (o : Option Majorant). MatchOption o ⊤ (IsMajorantOf sums before (min left approved))) (sym (nowhere n (places_open * before + approved))) tt

-- no cubic was made
pub cubics-none : (cubed : Cubed) (n : ℕ) → AreKept cubed (replicate n None)
cubics-none cubed n before approved low few =
    subst (λ (o : Option Majorant). MatchOption o ⊤ (IsCubicOf cubed before approved)) (sym (nowhere n (places_open * before + approved))) tt

-- one more was made
pub cubics-more : (cubed : Cubed) (table : List (Option Majorant)) (row column place : ℕ) (cubic : Majorant) → place ≡ places_open * row + column → row < places_before → column < places_open → place < length table
    → AreKept cubed table → IsCubicOf cubed row column cubic → AreKept cubed (set table place (Some cubic))
cubics-more cubed table row column place cubic is early open_ within kept here before approved low few = elim (cases_eq (places_open * before + approved) place) [
  | inl same ↦
      let row_is : row ≡ before = omega (arith, same, is, few, open_) in
      let column_is : column ≡ approved = omega (arith, same, is, few, open_) in
      subst (λ (o : Option Majorant). MatchOption o ⊤ (IsCubicOf cubed before approved)) (sym (ap (λ n. get_or (set table place (Some cubic)) n None) same ∙ get_or-set_same table place (Some cubic) None within))
      (subst (λ n. IsCubicOf cubed n approved cubic) row_is (subst (λ n. IsCubicOf cubed row n cubic) column_is here))
  | inr other ↦
      subst (λ (o : Option Majorant). MatchOption o ⊤ (IsCubicOf cubed before approved)) (sym (get_or-set_other table place (places_open * before + approved) (Some cubic) None other)) (kept before approved low few)
]
