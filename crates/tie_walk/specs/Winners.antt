-- Which committees win, whatever gives a committee its value.
use Rattle.std.specs.Prelude.{◌≡◌, ℕ, ◌+◌, ◌*◌, ◌≤◌, Bool, List, Option, None, Some, ⊤, length, map, filter, fold, max, nat_le}
use Rattle.std.specs.Iterator.{YieldsFirst}
use Rattle.std.specs.List.{list_all}
use Rattle.ballot_base.specs.Lists.{IsIncreasing, increasing_lists}
use Rattle.tie_walk.specs.Ceilings.{IsExactAtBest, live_count}

-- the highest value of a committee of k of the candidates 1 to m
-- (Lackner and Skowron, Multi-Winner Voting with Approval Preferences)
abbrev pub best_value : (List ℕ → ℕ) → ℕ → ℕ → ℕ
best_value value m k = fold max 0 (map value (increasing_lists 1 m k))

-- whether none of the committees has a higher value
abbrev pub is_unbeaten : (List ℕ → ℕ) → List (List ℕ) → List ℕ → Bool
is_unbeaten value committees committee = list_all (λ other. nat_le (value other) (value committee)) committees

-- the winning committees, in lexicographic order: those that no committee of k of the candidates 1 to m beats
-- (Lackner and Skowron, Multi-Winner Voting with Approval Preferences)
abbrev pub winners : (List ℕ → ℕ) → ℕ → ℕ → List (List ℕ)
winners value m k = filter (is_unbeaten value (increasing_lists 1 m k)) (increasing_lists 1 m k)

-- a start is a committee of k of the candidates 1 to m, or there is none
abbrev pub IsStart : ℕ → ℕ → Option (List ℕ) → Type 0
IsStart m k None = ⊤
IsStart m k (Some set) = IsIncreasing 1 m set × (length set ≡ k)

-- What contracts see of a walk over the winners: the tally, the number of candidates, the size of a committee, the
-- start, and the highest value of a committee. Then the winners still to come, and how many prefixes were entered and
-- bounds asked for so far.
pub record Winning (T : Type 0) : Type 0 where
  pub tally : T
  pub m : ℕ
  pub k : ℕ
  pub after : Option (List ℕ)
  pub best : ℕ
  pub left : List (List ℕ)
  pub entered : ℕ
  pub ceilings : ℕ

-- What one call for the next winner gives: the walk before it, the winner, and the walk after it. Values and bounds are
-- those of the tally.
pub record IsNextWinner (T : Type 0) (value : T → List ℕ → ℕ) (bound : T → ℕ → List ℕ → ℕ → ℕ) (from : Winning T)
    (winner : Option (List ℕ)) (to : Winning T) : Type 0 where
  -- the first of the winners left, or None if none is left
  pub first : YieldsFirst (λ (w : Winning T). w.left) from winner to
  pub same_tally : to.tally ≡ from.tally
  pub same_m : to.m ≡ from.m
  pub same_k : to.k ≡ from.k
  pub same_best : to.best ≡ from.best
  pub same_start : to.after ≡ from.after
  -- at the end every live prefix was entered
  pub all_entered : winner ≡ None → live_count (bound to.tally) to.m to.k to.best to.after ≤ to.entered
  -- without a start, no other prefix was entered
  pub none_else : winner ≡ None → to.after ≡ None
      → to.entered ≡ live_count (bound to.tally) to.m to.k to.best to.after
  pub entered_rises : from.entered ≤ to.entered
  pub ceilings_rise : from.ceilings ≤ to.ceilings
  -- if bounds are exact at the highest value, four of them for each candidate are enough
  pub short_wait : IsExactAtBest (value to.tally) (bound to.tally) to.m to.k to.best
      → to.ceilings ≤ from.ceilings + 4 * to.m
