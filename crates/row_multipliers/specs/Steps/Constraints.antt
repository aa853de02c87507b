-- What the candidates that complete a set bring together.
use Rattle.std.specs.Prelude.{ℕ, ◌+◌, ◌≤◌, List, slice_index, sum_by}
use Rattle.ballot_base.specs.CandSet.{common_members}
use Rattle.row_multipliers.specs.Completions.{IsCompletion}
use Rattle.row_multipliers.specs.declared.multipliers.Constraint.{Constraint}
use Rattle.row_multipliers.specs.declared.node.Node.{Node}

-- if a committee completes the set and reaches the value, its added members are worth what is due beside what is paid
abbrev pub IsConstraint : (List ℕ → ℕ) → ℕ → Node → ℕ → Constraint → Type 0
IsConstraint value m node least constraint =
    (committee : List ℕ) → IsCompletion m node.set node.free node.left committee → least ≤ value committee
    → constraint.due ≤ constraint.paid + sum_by (slice_index constraint.worths) (common_members node.free committee)
