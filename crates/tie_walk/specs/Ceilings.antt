-- What the committees below a prefix can reach, and which prefixes a walk over the winners has to enter. A prefix
-- decides on the candidates 1 to c: those of its set are members, the others are not.
use Rattle.std.specs.Prelude.{◌≡◌, ℕ, zero, suc, ◌+◌, ◌-◌, ◌≤◌, ◌&&◌, Bool, List, [], ◌∷◌, ◌++◌, Option, IsTrue, length, map, fold, max, sum_by, nat_le, if◌then◌else◌}
use Rattle.std.specs.List.{list_any}
use Rattle.std.specs.Str.{bytes_eq}
use Rattle.ballot_base.specs.Lists.{IsIncreasing, increasing_lists, later_than}
use Rattle.ballot_base.specs.CandSet.{with_member, members_upto}
use Rattle.ballot_base.specs.Ballots.{Row}
use Rattle.tie_walk.specs.Values.{distance}

-- the highest sum of the worths of `size` of the numbers from first to last
abbrev pub greatest_sum : (ℕ → ℕ) → ℕ → ℕ → ℕ → ℕ
greatest_sum worth first last size = fold max 0 (map (sum_by worth) (increasing_lists first last size))

-- what the set gains by the candidate
abbrev pub gain_at : (List ℕ → ℕ) → List ℕ → ℕ → ℕ
gain_at value set n = value (with_member set n) - value set

-- gains only fall as a set grows: a candidate adds no more once others were added
-- (Nemhauser, Wolsey and Fisher, An analysis of approximations for maximizing submodular set functions)
abbrev pub IsSubmodular : (List ℕ → ℕ) → Type 0
IsSubmodular value = (set added : List ℕ) (n : ℕ)
    → value ((set ++ added) ++ n ∷ []) + value set ≤ value (set ++ added) + value (set ++ n ∷ [])

-- The value of the set plus the highest sum of the gains at it of `left` of the candidates from c + 1 to m. If gains
-- only fall as a set grows, no committee of the set and `left` of these candidates has a higher value.
abbrev pub ceiling : (List ℕ → ℕ) → ℕ → ℕ → List ℕ → ℕ → ℕ
ceiling value m c set left = value set + greatest_sum (gain_at value set) (c + 1) m left

-- the maximum distance of a ballot from the set, on the candidates 1 to c
abbrev pub greatest_distance_upto : ℕ → List Row → List ℕ → ℕ
greatest_distance_upto c rows set = fold (λ greatest row. max greatest (distance (members_upto row.0 c) set)) 0 rows

-- m minus that distance; under minimax approval voting the distance only grows with c
abbrev pub closeness_upto : ℕ → List Row → ℕ → List ℕ → ℕ
closeness_upto m rows c set = m - greatest_distance_upto c rows set

-- no committee of the set and `left` of the candidates from c + 1 to m has a value above the bound
abbrev pub IsBound : (List ℕ → ℕ) → ℕ → ℕ → List ℕ → ℕ → ℕ → Type 0
IsBound value m c set left bound =
    (added : List ℕ) → IsIncreasing (c + 1) m added → length added ≡ left → value (set ++ added) ≤ bound

-- the list is `left` of the candidates after c: with a set of the candidates 1 to c it is a whole committee
abbrev pub IsAdded : ℕ → ℕ → ℕ → List ℕ → Type 0
IsAdded m c left added = IsIncreasing (c + 1) m added × (length added ≡ left)

-- no bound is too high: for committees of k, each is the value of some committee of the set and `left` of the
-- candidates after c
abbrev pub IsTight : (List ℕ → ℕ) → (ℕ → List ℕ → ℕ → ℕ) → ℕ → ℕ → Type 0
IsTight value bound m k = (c : ℕ) (set : List ℕ) (left : ℕ) → c ≤ m → IsIncreasing 1 c set → length set + left ≡ k
    → left ≤ m - c → (added : List ℕ) × IsAdded m c left added × (bound c set left ≡ value (set ++ added))

-- if a bound reaches the best value, some committee of the set and `left` of the candidates after c does
abbrev pub IsExactAtBest : (List ℕ → ℕ) → (ℕ → List ℕ → ℕ → ℕ) → ℕ → ℕ → ℕ → Type 0
IsExactAtBest value bound m k best = (c : ℕ) (set : List ℕ) (left : ℕ) → c ≤ m → IsIncreasing 1 c set
    → length set + left ≡ k → left ≤ m - c → best ≤ bound c set left
    → (added : List ℕ) × IsAdded m c left added × (best ≤ value (set ++ added))

pub record Prefix : Type 0 where
  pub c : ℕ
  pub set : List ℕ

module _ (bound : ℕ → List ℕ → ℕ → ℕ) (m k best : ℕ) where
  -- whether the set is not too large, the candidates after c can fill it up, and the bound reaches the best value
  abbrev pub is_open : ℕ → List ℕ → Bool
  is_open c set =
      nat_le (length set) k && nat_le k (length set + (m - c)) && nat_le best (bound c set (k - length set))

-- whether some committee whose members up to c are exactly the set is later than the start (any, if there is no start)
abbrev pub is_ahead : ℕ → ℕ → Option (List ℕ) → ℕ → List ℕ → Bool
is_ahead m k after c set =
    list_any (λ list. bytes_eq (members_upto list c) set) (later_than after (increasing_lists 1 m k))

module _ (bound : ℕ → List ℕ → ℕ → ℕ) (m k best : ℕ) (after : Option (List ℕ)) where
  -- a prefix that a walk has to enter: each of its beginnings is open, and the walk is not past it
  abbrev pub IsLive : Prefix → Type 0
  IsLive prefix = IsIncreasing 1 prefix.c prefix.set × (prefix.c ≤ m)
      × ((c : ℕ) → c ≤ prefix.c → IsTrue (is_open bound m k best c (members_upto prefix.set c)))
      × IsTrue (is_ahead m k after prefix.c prefix.set)

  -- how many live prefixes begin with a live one's c and set, if `rest` candidates come after c
  abbrev pub live_below : ℕ → ℕ → List ℕ → ℕ
  live_below zero c set = if is_open bound m k best c set && is_ahead m k after c set then 1 else 0
  live_below (suc rest) c set =
      if is_open bound m k best c set && is_ahead m k after c set
      then 1 + live_below rest (c + 1) (with_member set (c + 1)) + live_below rest (c + 1) set
      else 0

  -- how many prefixes are live
  abbrev pub live_count : ℕ
  live_count = live_below m 0 []
