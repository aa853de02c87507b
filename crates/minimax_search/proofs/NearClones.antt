-- A committee with a clone in a member's place is as near.
use Rattle.std.proofs.Common.{◌≡◌, ℕ, ◌-◌, ◌≤◌, ◌∙◌, true, false, List, [], ◌∷◌, refl, ap, arith, fold, max}
use Rattle.std.specs.List.{AllByRecursion}
use Rattle.ballot_base.specs.Lists.{IsIncreasing}
use Rattle.ballot_base.specs.CandSet.{has_member, without_member}
use Rattle.ballot_base.specs.Ballots.{Election, Row}
use Rattle.ballot_base.specs.Clones.{are_clones, clones_among}
use Rattle.ballot_base.proofs.CloneLemmas.{clones-same}
use Rattle.ballot_base.proofs.Increasing.{IsIncreasing-with_member}
use Rattle.tie_walk.specs.Values.{closeness, distance}
use Rattle.tie_search.specs.Alike.{AreAlike}
use Rattle.tie_search.proofs.CloneLemmas.{class-are, exchanged, exchanged-size, hits-exchanged, less-up}
use Rattle.minimax_search.proofs.NeedLemmas.{distance-hits}

distances-same : (low : ℕ) (rows : List Row) (xs ys : List ℕ) → AllByRecursion (λ (row : Row). distance row.0 xs ≡ distance row.0 ys) rows
    → fold (λ greatest (row : Row). max greatest (distance row.0 xs)) low rows ≡ fold (λ greatest (row : Row). max greatest (distance row.0 ys)) low rows
distances-same low [] xs ys all = refl
distances-same low (row ∷ rows) xs ys all =
    ap (λ far. fold (λ greatest (r : Row). max greatest (distance r.0 xs)) (max low far) rows) all.0
    ∙ distances-same (max low (distance row.0 ys)) rows xs ys all.1

module _ (m : ℕ) (committee : List ℕ) (c d : ℕ) (up : IsIncreasing 1 m committee) (here : has_member committee d ≡ true) (out : has_member committee c ≡ false) (low : 1 ≤ c) (high : c ≤ m) where
  -- of one ballot
  distance-exchanged : (ballot : List ℕ) → IsIncreasing 1 m ballot → has_member ballot c ≡ has_member ballot d → distance ballot (exchanged committee c d) ≡ distance ballot committee
  distance-exchanged ballot rises same =
      omega (
        arith,
        distance-hits m ballot (exchanged committee c d) rises (IsIncreasing-with_member 1 m (without_member committee d) c low high (less-up m committee c d up here out)),
        distance-hits m ballot committee rises up,
        exchanged-size m committee c d up here out low high,
        hits-exchanged m ballot committee c d rises up low high here out same,
      )

  pub closeness-exchanged : (rows : List Row) → AllByRecursion (λ (row : Row). IsIncreasing 1 m row.0) rows → are_clones rows c d ≡ true
      → closeness m rows (exchanged committee c d) ≡ closeness m rows committee
  closeness-exchanged rows ballots are = ap (λ far. m - far) (distances-same 0 rows (exchanged committee c d) committee (all rows ballots (clones-same rows c d are)))
    where
      all : (rows : List Row) → AllByRecursion (λ (row : Row). IsIncreasing 1 m row.0) rows → AllByRecursion (λ (row : Row). has_member row.0 c ≡ has_member row.0 d) rows
          → AllByRecursion (λ (row : Row). distance row.0 (exchanged committee c d) ≡ distance row.0 committee) rows
      all [] up same = tt
      all (row ∷ rows) up same = (distance-exchanged row.0 up.0 same.0, all rows up.1 same.1)

-- the classes of clones are alike
pub alike : (e : Election) → AllByRecursion (λ (row : Row). IsIncreasing 1 e.m row.0) e.rows → AreAlike (closeness e.m e.rows) e.m (clones_among e.m e.rows)
alike e ballots committee c d up low high class here out =
    closeness-exchanged e.m committee c d up here out low high e.rows ballots (class-are e.m e.rows c (clones_among e.m e.rows c) refl d class)
