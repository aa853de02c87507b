-- Steps of the search for a committee that is near each ballot.
use Rattle.std.specs.Prelude.{ℕ, ◌-◌, ◌≤◌, List, Option, MatchOption, slice_index, sum_by}
use Rattle.ballot_base.specs.Ballots.{Election, IsElection}
use Rattle.ballot_base.specs.CandSet.{common_members}
use Rattle.tie_walk.specs.Values.{closeness}
use Rattle.row_multipliers.specs.Completions.{IsNode, IsCompletion, IsOutOfReach}
use Rattle.row_multipliers.specs.Steps.Narrowed.{IsNarrowed, Narrows}
use Rattle.row_multipliers.specs.declared.node.Node.{Node}
use Rattle.tie_search.specs.Steps.Descent.{AreChoices}
use Rattle.tie_search.specs.declared.descent.Plan.{Plan}

-- free candidates that can still join if no ballot is farther than `most`, or nothing if no completion is so near
abbrev pub NarrowsNear : Election → ℕ → Node → Option (List ℕ) → Type 0
NarrowsNear e most node = Narrows (closeness e.m e.rows) e.m node (e.m - most)

-- candidates of whom one must join if no ballot is farther than `most`, and those that can still join, or nothing if no
-- completion is so near
abbrev pub Branches : Election → ℕ → Node → Option (List ℕ × List ℕ) → Type 0
Branches e most node answer =
    MatchOption answer (IsOutOfReach (closeness e.m e.rows) e.m node.set node.free node.left (e.m - most)) (λ both.
    AreChoices (closeness e.m e.rows) e.m node.set node.free node.left (e.m - most) both.0
    × IsNarrowed (closeness e.m e.rows) e.m node.set node.free node.left (e.m - most) both.1)

-- what a search knows at a set: the candidates that complete it are worth what is due, if the value is reached
pub record IsNearPlan (e : Election) (set : List ℕ) (left : ℕ) (plan : Plan) : Type 0 where
  pub valid : IsElection e
  pub is_node : IsNode e.m set plan.eligible
  pub pays : (committee : List ℕ) → IsCompletion e.m set plan.eligible left committee
      → plan.least ≤ closeness e.m e.rows committee
      → plan.due ≤ sum_by (slice_index plan.worths) (common_members plan.eligible committee)

-- the denominator of shares
abbrev pub share_parts : ℕ
share_parts = 1024
