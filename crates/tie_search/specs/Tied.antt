-- Lists of the committees that tie for the highest value.
use Rattle.std.specs.Prelude.{◌≡◌, ℕ, ◌<◌, ◌≤◌, List, [], length, slice_index_or}
use Rattle.ballot_base.specs.Lists.{IsIncreasing}
use Rattle.tie_walk.specs.Winners.{best_value}
use Rattle.row_multipliers.specs.Completions.{IsReaching}
use Rattle.row_multipliers.specs.declared.node.Node.{Node}
use Rattle.tie_search.specs.Alike.{Becomes}
use Rattle.tie_search.specs.declared.found.Tied.{Tied}
use Rattle.tie_search.specs.declared.found.Tied.TheVariants.{Known, Listed}

-- a committee of k of the candidates 1 to m with the highest value
pub record IsBest (value : List ℕ → ℕ) (m k : ℕ) (committee : List ℕ) : Type 0 where
  pub candidates : IsIncreasing 1 m committee
  pub size : length committee ≡ k
  pub best : value committee ≡ best_value value m k

-- the maximum number of listed committees
abbrev pub most_tied : ℕ
most_tied = 256

-- the committee is one of those listed
abbrev pub IsAmong : List (List ℕ) → List ℕ → Type 0
IsAmong committees committee = (i : ℕ) × (i < length committees) × (slice_index_or committees i [] ≡ committee)

-- no committee is listed twice
abbrev pub AreDistinct : List (List ℕ) → Type 0
AreDistinct committees = (i j : ℕ) → i < j → j < length committees
    → slice_index_or committees i [] ≡ slice_index_or committees j [] → ⊥

-- committees with the highest value: all of them up to exchanges of clones
pub record AreAllBest (value : List ℕ → ℕ) (class : ℕ → List ℕ) (m k : ℕ) (committees : List (List ℕ)) : Type 0 where
  pub some : 1 ≤ length committees
  pub each : (committee : List ℕ) → IsAmong committees committee → IsBest value m k committee
  pub all : (committee : List ℕ) → IsBest value m k committee
      → (other : List ℕ) × IsAmong committees other × Becomes m class other committee

-- what is known of the committees with the highest value is true
abbrev pub AreBest : (List ℕ → ℕ) → (ℕ → List ℕ) → ℕ → ℕ → Tied → Type 0
AreBest value class m k (Listed committees) = AreAllBest value class m k committees.items
AreBest value class m k (Known committee) = IsBest value m k committee

-- more committees have the highest value than can be listed: as many as can be, and one more
pub record AreTooMany (value : List ℕ → ℕ) (m k : ℕ) : Type 0 where
  pub committees : List (List ℕ)
  pub full : length committees ≡ most_tied
  pub each : (committee : List ℕ) → IsAmong committees committee → IsBest value m k committee
  pub distinct : AreDistinct committees
  pub more : (committee : List ℕ) × IsBest value m k committee × (IsAmong committees committee → ⊥)

-- The committees with the highest value, none of them twice: all up to exchanges of clones, or one of them if there are
-- more than can be listed.
abbrev pub AreTied : (List ℕ → ℕ) → (ℕ → List ℕ) → ℕ → ℕ → Tied → Type 0
AreTied value class m k (Listed committees) =
    AreAllBest value class m k committees.items × AreDistinct committees.items
AreTied value class m k (Known committee) = IsBest value m k committee × AreTooMany value m k

-- Committees that complete a node and reach a value, none of them twice: all up to exchanges of clones.
pub record AreReaching (value : List ℕ → ℕ) (class : ℕ → List ℕ) (m : ℕ) (node : Node) (least : ℕ)
    (committees : List (List ℕ)) : Type 0 where
  pub each : (committee : List ℕ) → IsAmong committees committee
      → IsReaching value m node.set node.free node.left least committee
  pub all : (committee : List ℕ) → IsReaching value m node.set node.free node.left least committee
      → (other : List ℕ) × IsAmong committees other × Becomes m class other committee
  pub distinct : AreDistinct committees
