-- Minimax: distances only grow as candidates are decided on.
use Rattle.std.proofs.lemmas.Grind.{common_steps}
use Rattle.std.proofs.Common.{◌≡◌, ℕ, ◌+◌, ◌-◌, ◌<◌, ◌≤◌, ◌∙◌, Bool, not, List, [], ◌∷◌, ◌++◌, refl, sym, ap, arith, length, count_by, fold, max, take, get_or, slice_get, Some}
use Rattle.std.specs.Prelude.{nat_le}
use Rattle.std.specs.List.{AllByRecursion}
use Rattle.std.specs.Ordering.{ord_max, nat_cmp}
use Rattle.std.proofs.lemmas.List.{take_more}
use Rattle.std.proofs.lemmas.Option.{get_or_from_slice_get, slice_get_within}
use Rattle.std.proofs.lemmas.Bool.{cases_lt, le-leb, lt-leb}
use Rattle.std.proofs.lemmas.List.Folds.{list_any-append}
use Rattle.std.proofs.lemmas.List.Sums.{sum_by-cons, fold-append}
use Rattle.std.proofs.Math.Bool.{or-false}
use Rattle.ballot_base.specs.Lists.{IsIncreasing}
use Rattle.ballot_base.specs.CandSet.{has_member, members_upto}
use Rattle.ballot_base.specs.Ballots.{Row}
use Rattle.ballot_base.proofs.Increasing.{has_member-below, has_member-filter, IsIncreasing-filter, IsIncreasing-higher}
use Rattle.tie_walk.specs.Values.{distance, closeness}
use Rattle.tie_walk.specs.Ceilings.{greatest_distance_upto, closeness_upto, IsBound}
use Rattle.tie_walk.proofs.Distances.{distance-most, ord_max-max}
use Rattle.tie_walk.proofs.LiveLemmas.{upto-all}

-- those of the ballot up to c who are not in the set are not in the committee either
ballot-side : (c m : ℕ) (set added ballot : List ℕ) → IsIncreasing (c + 1) m added
    → count_by (λ n. not (has_member set n)) (members_upto ballot c) ≤ count_by (λ n. not (has_member (set ++ added) n)) ballot
ballot-side c m set added [] above = omega arith
ballot-side c m set added (n ∷ ballot) above =
    grind (arith, common_steps, ballot-side c m set added ballot above, sum_by-cons, cases_lt, lt-leb, le-leb, has_member-below, list_any-append, or-false)

-- those of the set who are not on the ballot up to c are not on the ballot
set-side : (c first : ℕ) (set added ballot : List ℕ) → IsIncreasing first c set
    → count_by (λ n. not (has_member (members_upto ballot c) n)) set ≤ count_by (λ n. not (has_member ballot n)) (set ++ added)
set-side c first [] added ballot up = omega arith
set-side c first (n ∷ set) added ballot up =
    grind (arith, common_steps, set-side c (n + 1) set added ballot up.2, has_member-filter, le-leb, Bool, not, sum_by-cons)

distance-grows : (c m : ℕ) (set added ballot : List ℕ) → IsIncreasing 1 c set → IsIncreasing (c + 1) m added → distance (members_upto ballot c) set ≤ distance ballot (set ++ added)
distance-grows c m set added ballot up above = omega (arith, ballot-side c m set added ballot above, set-side c 1 set added ballot up)

-- the greatest of a number and the distances, of greater ones
greatest-grows : (c m : ℕ) (set added : List ℕ) (rows : List Row) (low high : ℕ) → low ≤ high → IsIncreasing 1 c set → IsIncreasing (c + 1) m added
    → fold (λ greatest (row : Row). max greatest (distance (members_upto row.0 c) set)) low rows ≤ fold (λ greatest (row : Row). max greatest (distance row.0 (set ++ added))) high rows
greatest-grows c m set added [] low high h up above = h
greatest-grows c m set added (row ∷ rows) low high h up above =
    grind (arith, common_steps, greatest-grows c m set added rows (max low (distance (members_upto row.0 c) set)) (max high (distance row.0 (set ++ added))), max, distance-grows)

pub closeness-bounds : (m : ℕ) (rows : List Row) (c : ℕ) (set : List ℕ) (left : ℕ) → IsIncreasing 1 c set → IsBound (closeness m rows) m c set left (closeness_upto m rows c set)
closeness-bounds m rows c set left up added above size = omega (arith, greatest-grows c m set added rows 0 0 (omega arith) up above)

-- up to the last candidate ballots are whole
pub closeness-all : (m : ℕ) (rows : List Row) (set : List ℕ) → AllByRecursion (λ (row : Row). IsIncreasing 1 m row.0) rows → closeness_upto m rows m set ≡ closeness m rows set
closeness-all m rows set all = ap (λ n. m - n) (whole 0 rows all)
  where
    whole : (low : ℕ) (rest : List Row) → AllByRecursion (λ (row : Row). IsIncreasing 1 m row.0) rest
        → fold (λ greatest (row : Row). max greatest (distance (members_upto row.0 m) set)) low rest ≡ fold (λ greatest (row : Row). max greatest (distance row.0 set)) low rest
    whole low [] each = refl
    whole low (row ∷ rest) each = rw (upto-all 1 m row.0 each.0) (whole (max low (distance row.0 set)) rest each.1)

-- ---- the pass over the rows

module _ (c m : ℕ) (within : c ≤ m) where
  upto-increasing : (first : ℕ) (ballot : List ℕ) → IsIncreasing first m ballot → IsIncreasing first m (members_upto ballot c)
  upto-increasing first ballot up = IsIncreasing-filter (λ n. nat_le n c) first m ballot up

  pub greatest_upto-step : (rows : List Row) (set : List ℕ) (i : ℕ) (row : Row) (greatest far more : ℕ) → slice_get rows i ≡ Some row → more ≡ ord_max nat_cmp greatest far
      → far ≡ distance (members_upto row.0 c) set → greatest ≡ greatest_distance_upto c (take i rows) set → more ≡ greatest_distance_upto c (take (i + 1) rows) set
  greatest_upto-step rows set i row greatest far more found e f is =
      let here : get_or rows i row ≡ row = get_or_from_slice_get rows i row row found in
      let inside : i < length rows = slice_get_within rows i row found in
      let next : greatest_distance_upto c (take (i + 1) rows) set ≡ max (greatest_distance_upto c (take i rows) set) (distance (members_upto row.0 c) set) =
      ap (λ l. greatest_distance_upto c l set) (take_more rows i row inside ∙ ap (λ (r : Row). take i rows ++ r ∷ []) here)
      ∙ fold-append (λ g (r : Row). max g (distance (members_upto r.0 c) set)) 0 (take i rows) (row ∷ []) in
      e ∙ ord_max-max greatest far ∙ ap (λ n. max n far) is ∙ ap (λ n. max (greatest_distance_upto c (take i rows) set) n) f ∙ sym next

  pub distance_upto-most : (ballot set : List ℕ) → IsIncreasing 1 m ballot → IsIncreasing 1 c set → distance (members_upto ballot c) set ≤ m
  distance_upto-most ballot set i j = distance-most m (members_upto ballot c) set (upto-increasing 1 ballot i) (IsIncreasing-higher 1 c m set within j)
