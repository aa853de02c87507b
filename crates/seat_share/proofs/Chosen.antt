-- Of all lists with the sum, those that give each party its certain seats, and to tied ones at most one more, are the
-- choices.
use Rattle.std.proofs.Common.{◌≡◌, ℕ, zero, suc, ◌+◌, ◌-◌, ◌<◌, ◌≤◌, ◌&&◌, Bool, true, false, cond, List, [], ◌∷◌, ◌++◌, refl, ap, ap₂, ◌∙◌, inl, inr, arith, map, filter, length, append-nil}
use Rattle.std.specs.Prelude.{nat_le, flat_map}
use Rattle.std.specs.List.{range_with_len}
use Rattle.std.proofs.lemmas.List.Elements.{filter-append}
use Rattle.std.proofs.lemmas.Grind.{flat_map-append}
use Rattle.seat_share.specs.Allocations.{lists_with_sum}
use Rattle.seat_share.specs.Steps.Choices.{Standing, choices}
use Rattle.seat_share.proofs.Members.{and-false}
use Rattle.seat_share.proofs.Order.{le-true, le-false}
use Rattle.seat_share.proofs.Threshold.{none_or_some, impossible}

-- the seats are the party's certain ones, or one more where it is tied
abbrev pub fits_one : Standing → ℕ → Bool
fits_one standing seats = nat_le standing.0 seats && nat_le seats (standing.0 + cond standing.1 1 0)

abbrev pub fits : List Standing → List ℕ → Bool
fits [] [] = true
fits [] (seats ∷ others) = false
fits (standing ∷ rest) [] = false
fits (standing ∷ rest) (seats ∷ others) = fits_one standing seats && fits rest others

abbrev pub sure_seats : List Standing → ℕ
sure_seats [] = 0
sure_seats (standing ∷ rest) = standing.0 + sure_seats rest

-- ---- lists
range-split : (first front back : ℕ) → range_with_len first (front + back) ≡ range_with_len first front ++ range_with_len (first + front) back
range-split first zero back =
    let none : zero + back ≡ back = omega arith in
    let here : first + zero ≡ first = omega arith in
    rw (none, here) refl
range-split first (suc front) back =
    let next : suc front + back ≡ suc (front + back) = omega arith in
    let here : first + suc front ≡ first + 1 + front = omega arith in
    rw (next, here) (ap (λ l. first ∷ l) (range-split (first + 1) front back))

module _ {X : Type 0} where
  flat_map-none : (h : ℕ → List X) (first count : ℕ) → ((n : ℕ) → first ≤ n → n < first + count → h n ≡ []) → flat_map h (range_with_len first count) ≡ []
  flat_map-none h first zero each = refl
  flat_map-none h first (suc count) each =
      ap₂ (λ x y. x ++ y) (each first (omega arith) (omega arith))
      (flat_map-none h (first + 1) count (λ n low high. each n (omega (arith, low)) (omega (arith, high))))

  pub filter-map : {Y : Type 0} (p : Y → Bool) (f : X → Y) (xs : List X) → filter p (map f xs) ≡ map f (filter (λ x. p (f x)) xs)
  filter-map p f [] = refl
  filter-map p f (x ∷ xs) =
      elim (p (f x)) as (λ b. cond b (f x ∷ filter p (map f xs)) (filter p (map f xs)) ≡ map f (cond b (x ∷ filter (λ y. p (f y)) xs) (filter (λ y. p (f y)) xs))) [
        | true ↦ ap (λ l. f x ∷ l) (filter-map p f xs)
        | false ↦ filter-map p f xs
      ]

  filter-flat_map : {Y : Type 0} (p : Y → Bool) (g : X → List Y) (xs : List X) → filter p (flat_map g xs) ≡ flat_map (λ x. filter p (g x)) xs
  filter-flat_map p g [] = refl
  filter-flat_map p g (x ∷ xs) = filter-append p (g x) (flat_map g xs) ∙ ap (λ l. filter p (g x) ++ l) (filter-flat_map p g xs)

  filter-none : (xs : List X) → filter (λ x. false) xs ≡ []
  filter-none [] = refl
  filter-none (x ∷ xs) = filter-none xs

-- those that begin with `seats` and fit
abbrev begun : Standing → List Standing → ℕ → ℕ → List (List ℕ)
begun standing rest sum seats = filter (fits (standing ∷ rest)) (map (λ others. seats ∷ others) (lists_with_sum (length rest) (sum - seats)))

begun-fit : (standing : Standing) (rest : List Standing) (sum seats : ℕ) → fits_one standing seats ≡ true
    → begun standing rest sum seats ≡ map (λ others. seats ∷ others) (filter (fits rest) (lists_with_sum (length rest) (sum - seats)))
begun-fit standing rest sum seats h =
    filter-map (fits (standing ∷ rest)) (λ others. seats ∷ others) (lists_with_sum (length rest) (sum - seats))
    ∙ ap (λ b. map (λ others. seats ∷ others) (filter (λ others. b && fits rest others) (lists_with_sum (length rest) (sum - seats)))) h

begun-none : (standing : Standing) (rest : List Standing) (sum seats : ℕ) → fits_one standing seats ≡ false → begun standing rest sum seats ≡ []
begun-none standing rest sum seats h =
    filter-map (fits (standing ∷ rest)) (λ others. seats ∷ others) (lists_with_sum (length rest) (sum - seats))
    ∙ ap (λ b. map (λ others. seats ∷ others) (filter (λ others. b && fits rest others) (lists_with_sum (length rest) (sum - seats)))) h
    ∙ ap (map (λ others. seats ∷ others)) (filter-none (lists_with_sum (length rest) (sum - seats)))

few-fail : (standing : Standing) (seats : ℕ) → seats < standing.0 → fits_one standing seats ≡ false
few-fail standing seats less = rw (le-false standing.0 seats less) refl

many-fail : (standing : Standing) (seats : ℕ) → standing.0 + cond standing.1 1 0 < seats → fits_one standing seats ≡ false
many-fail standing seats more = rw (le-false seats (standing.0 + cond standing.1 1 0) more) (and-false (nat_le standing.0 seats))

begun-all : (standing : Standing) (rest : List Standing) (sum : ℕ)
    → filter (fits (standing ∷ rest)) (lists_with_sum (suc (length rest)) sum) ≡ flat_map (begun standing rest sum) (range_with_len 0 (suc sum))
unfolding lists_with_sum
begun-all standing rest sum =
    filter-flat_map (fits (standing ∷ rest)) (λ first. map (λ others. first ∷ others) (lists_with_sum (length rest) (sum - first))) (range_with_len 0 (suc sum))

-- ---- too small a sum
none-fit : (ss : List Standing) (sum : ℕ) → sum < sure_seats ss → filter (fits ss) (lists_with_sum (length ss) sum) ≡ []
none-fit [] sum less = impossible (omega (arith, less))
none-fit (standing ∷ rest) sum less =
    begun-all standing rest sum
    ∙ flat_map-none (begun standing rest sum) 0 (suc sum) (λ seats low high. elim (none_or_some (standing.0 - seats)) [
      | inr few ↦ begun-none standing rest sum seats (few-fail standing seats (omega (arith, few)))
      | inl enough ↦
          filter-map (fits (standing ∷ rest)) (λ others. seats ∷ others) (lists_with_sum (length rest) (sum - seats))
          ∙ ap (map (λ others. seats ∷ others)) (some-fail (fits_one standing seats) rest (sum - seats) (none-fit rest (sum - seats) (omega (arith, less, enough, high))))
    ])
  where
    some-fail : (b : Bool) (ss : List Standing) (total : ℕ) → filter (fits ss) (lists_with_sum (length ss) total) ≡ [] → filter (λ others. b && fits ss others) (lists_with_sum (length ss) total) ≡ []
    some-fail true ss total h = h
    some-fail false ss total h = filter-none (lists_with_sum (length ss) total)

-- ---- the theorem
surely-fits : (sure : ℕ) (tied : Bool) → fits_one (sure, tied) sure ≡ true
surely-fits sure tied = rw (le-true sure sure (omega arith), le-true sure (sure + cond tied 1 0) (omega arith)) refl

one-more-fits : (sure : ℕ) → fits_one (sure, true) (sure + 1) ≡ true
one-more-fits sure = rw (le-true sure (sure + 1) (omega arith), le-true (sure + 1) (sure + 1) (omega arith)) refl

-- those that begin with the certain seats, and those with more
two-parts : (standing : Standing) (rest : List Standing) (others_sum : ℕ)
    → flat_map (begun standing rest (standing.0 + others_sum)) (range_with_len 0 (suc (standing.0 + others_sum)))
    ≡ begun standing rest (standing.0 + others_sum) standing.0 ++ flat_map (begun standing rest (standing.0 + others_sum)) (range_with_len (standing.0 + 1) others_sum)
two-parts standing rest others_sum =
    let sure = standing.0 in
    let sum = sure + others_sum in
    let h = begun standing rest sum in
    let long : suc (sure + others_sum) ≡ sure + suc others_sum = omega arith in
    let start : 0 + sure ≡ sure = omega arith in
    ap (λ n. flat_map h (range_with_len 0 n)) long
    ∙ ap (flat_map h) (range-split 0 sure (suc others_sum))
    ∙ flat_map-append h (range_with_len 0 sure) (range_with_len (0 + sure) (suc others_sum))
    ∙ ap₂ (λ x y. x ++ y) (flat_map-none h 0 sure (λ seats low high. begun-none standing rest sum seats (few-fail standing seats (omega (arith, high)))))
    (ap (λ n. flat_map h (range_with_len n (suc others_sum))) start)

pub chosen : (ss : List Standing) (more : ℕ) → filter (fits ss) (lists_with_sum (length ss) (sure_seats ss + more)) ≡ choices ss more
unfolding lists_with_sum choices
chosen [] zero = refl
chosen [] (suc more) =
    let some : 0 + suc more ≡ suc more = omega arith in ap (λ n. filter (fits []) (lists_with_sum zero n)) some
chosen ((sure, false) ∷ rest) more =
    let standing : Standing = (sure, false) in
    let others_sum = sure_seats rest + more in
    let sum : (sure + sure_seats rest) + more ≡ sure + others_sum = omega arith in
    let left : (sure + others_sum) - sure ≡ others_sum = omega arith in
    ap (λ n. filter (fits (standing ∷ rest)) (lists_with_sum (suc (length rest)) n)) sum
    ∙ begun-all standing rest (sure + others_sum) ∙ two-parts standing rest others_sum
    ∙ ap₂ (λ x y. x ++ y)
    (begun-fit standing rest (sure + others_sum) sure (surely-fits sure false) ∙ ap (λ n. map (λ others. sure ∷ others) (filter (fits rest) (lists_with_sum (length rest) n))) left
    ∙ ap (map (λ others. sure ∷ others)) (chosen rest more))
    (flat_map-none (begun standing rest (sure + others_sum)) (sure + 1) others_sum (λ seats low high. begun-none standing rest (sure + others_sum) seats (many-fail standing seats (omega (arith, low)))))
    ∙ append-nil (map (λ others. sure ∷ others) (choices rest more))
chosen ((sure, true) ∷ rest) zero =
    let standing : Standing = (sure, true) in
    let others_sum = sure_seats rest + zero in
    let sum : (sure + sure_seats rest) + zero ≡ sure + others_sum = omega arith in
    let left : (sure + others_sum) - sure ≡ others_sum = omega arith in
    ap (λ n. filter (fits (standing ∷ rest)) (lists_with_sum (suc (length rest)) n)) sum
    ∙ begun-all standing rest (sure + others_sum) ∙ two-parts standing rest others_sum
    ∙ ap₂ (λ x y. x ++ y)
    (begun-fit standing rest (sure + others_sum) sure (surely-fits sure true) ∙ ap (λ n. map (λ others. sure ∷ others) (filter (fits rest) (lists_with_sum (length rest) n))) left
    ∙ ap (map (λ others. sure ∷ others)) (chosen rest zero))
    (flat_map-none (begun standing rest (sure + others_sum)) (sure + 1) others_sum (λ seats low high. elim (none_or_some (seats - (sure + 1))) [
      | inr more ↦ begun-none standing rest (sure + others_sum) seats (many-fail standing seats (omega (arith, more)))
      | inl same ↦
          let is : seats ≡ sure + 1 = omega (arith, low, same) in
          ap (begun standing rest (sure + others_sum)) is
          ∙ begun-fit standing rest (sure + others_sum) (sure + 1) (one-more-fits sure)
          ∙ ap (map (λ others. (sure + 1) ∷ others)) (none-fit rest ((sure + others_sum) - (sure + 1)) (omega (arith, low, high)))
    ]))
    ∙ append-nil (map (λ others. sure ∷ others) (choices rest zero))
chosen ((sure, true) ∷ rest) (suc more) =
    let standing : Standing = (sure, true) in
    let others_sum = sure_seats rest + suc more in
    let sum : (sure + sure_seats rest) + suc more ≡ sure + others_sum = omega arith in
    let left : (sure + others_sum) - sure ≡ others_sum = omega arith in
    let next : others_sum ≡ suc (sure_seats rest + more) = omega arith in
    let less : (sure + others_sum) - (sure + 1) ≡ sure_seats rest + more = omega arith in
    ap (λ n. filter (fits (standing ∷ rest)) (lists_with_sum (suc (length rest)) n)) sum
    ∙ begun-all standing rest (sure + others_sum) ∙ two-parts standing rest others_sum
    ∙ ap₂ (λ x y. x ++ y)
    (begun-fit standing rest (sure + others_sum) sure (surely-fits sure true) ∙ ap (λ n. map (λ others. sure ∷ others) (filter (fits rest) (lists_with_sum (length rest) n))) left
    ∙ ap (map (λ others. sure ∷ others)) (chosen rest (suc more)))
    (ap (λ n. flat_map (begun standing rest (sure + others_sum)) (range_with_len (sure + 1) n)) next
    ∙ ap₂ (λ x y. x ++ y)
    (begun-fit standing rest (sure + others_sum) (sure + 1) (one-more-fits sure) ∙ ap (λ n. map (λ others. (sure + 1) ∷ others) (filter (fits rest) (lists_with_sum (length rest) n))) less
    ∙ ap (map (λ others. (sure + 1) ∷ others)) (chosen rest more))
    (flat_map-none (begun standing rest (sure + others_sum)) (sure + 1 + 1) (sure_seats rest + more)
    (λ seats low high. begun-none standing rest (sure + others_sum) seats (many-fail standing seats (omega (arith, low)))))
    ∙ append-nil (map (λ others. (sure + 1) ∷ others) (choices rest more)))
