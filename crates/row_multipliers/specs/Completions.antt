-- Committees that complete a set, and whether one of them reaches a value.
use Rattle.std.specs.Prelude.{◌≡◌, ℕ, ◌+◌, ◌<◌, ◌≤◌, ◌||◌, true, false, List, Option, MatchOption, length}
use Rattle.ballot_base.specs.Lists.{IsIncreasing}
use Rattle.ballot_base.specs.CandSet.{has_member}
use Rattle.row_multipliers.specs.declared.node.Node.{Node}

-- a node of a search: a set of the candidates 1 to m, and others of them that are free to join it
pub record IsNode (m : ℕ) (set free : List ℕ) : Type 0 where
  pub set_within : IsIncreasing 1 m set
  pub free_within : IsIncreasing 1 m free
  pub apart : (n : ℕ) → has_member free n ≡ true → has_member set n ≡ false

-- a committee that consists of the set and of `left` of the free candidates
pub record IsCompletion (m : ℕ) (set free : List ℕ) (left : ℕ) (committee : List ℕ) : Type 0 where
  pub candidates : IsIncreasing 1 m committee
  pub whole : (n : ℕ) → has_member set n ≡ true → has_member committee n ≡ true
  pub within : (n : ℕ) → has_member committee n ≡ true → (has_member set n || has_member free n) ≡ true
  pub size : length committee ≡ length set + left

-- the committee completes the set, and its value is at least `least`
pub record IsReaching (value : List ℕ → ℕ) (m : ℕ) (set free : List ℕ) (left least : ℕ) (committee : List ℕ) : Type 0
  where
    pub completes : IsCompletion m set free left committee
    pub reaches : least ≤ value committee

-- every committee that completes the set has a value below `least`
abbrev pub IsOutOfReach : (List ℕ → ℕ) → ℕ → List ℕ → List ℕ → ℕ → ℕ → Type 0
IsOutOfReach value m set free left least =
    (committee : List ℕ) → IsCompletion m set free left committee → value committee < least

-- the answer of a search at a node: a committee that completes the set and reaches the value, or nothing if none does
abbrev pub Finds : (List ℕ → ℕ) → ℕ → Node → ℕ → Option (List ℕ) → Type 0
Finds value m node least answer =
    MatchOption answer (IsOutOfReach value m node.set node.free node.left least)
    (IsReaching value m node.set node.free node.left least)
