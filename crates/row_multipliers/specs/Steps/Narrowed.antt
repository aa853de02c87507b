-- Free candidates that can still join a set.
use Rattle.std.specs.Prelude.{◌≡◌, ℕ, ◌≤◌, true, List, Option, MatchOption}
use Rattle.ballot_base.specs.CandSet.{has_member}
use Rattle.row_multipliers.specs.Completions.{IsNode, IsCompletion, IsOutOfReach}
use Rattle.row_multipliers.specs.declared.node.Node.{Node}

-- free candidates: they include all that a committee adds if it completes the set and reaches the value
pub record IsNarrowed (value : List ℕ → ℕ) (m : ℕ) (set free : List ℕ) (left least : ℕ) (rest : List ℕ) : Type 0
  where
    pub is_node : IsNode m set rest
    pub among : (n : ℕ) → has_member rest n ≡ true → has_member free n ≡ true
    pub kept : (committee : List ℕ) → IsCompletion m set free left committee → least ≤ value committee
        → IsCompletion m set rest left committee

-- an answer at a node: the free candidates that can still join, or nothing if no completion reaches the value
abbrev pub Narrows : (List ℕ → ℕ) → ℕ → Node → ℕ → Option (List ℕ) → Type 0
Narrows value m node least answer =
    MatchOption answer (IsOutOfReach value m node.set node.free node.left least)
    (IsNarrowed value m node.set node.free node.left least)
