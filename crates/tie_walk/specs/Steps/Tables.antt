-- What tallies keep, and how they sum.
use Rattle.std.specs.Prelude.{◌≡◌, ℕ, ◌+◌, ◌*◌, ◌/◌, ◌≤◌, List, [], ◌∷◌, length, map, sum, sum_by, take, slice_index}
use Rattle.std.specs.List.{range_with_len}
use Rattle.ballot_base.specs.Limits.{most_candidates, most_members, most_thiele_value}
use Rattle.ballot_base.specs.Ballots.{Row, Election, IsElection}
use Rattle.ballot_base.specs.CommonMultiple.{common_multiple}
use Rattle.ballot_base.specs.Increments.{increments}
use Rattle.ballot_base.specs.declared.increments.ThieleRule.{ThieleRule}
use Rattle.ballot_base.specs.declared.increments.ThieleRule.TheVariants.{Av}
use Rattle.tie_walk.specs.Sequences.{gain, supporters}

-- the sums of the first 0 to `most_candidates` of these
unfoldable pub prefix_sums : List ℕ → List ℕ
prefix_sums weights = map (λ x. sum (take x weights)) (range_with_len 0 (most_candidates + 1))

-- 0, and a whole divided by 1 to `most_candidates`
unfoldable pub parts : ℕ → List ℕ
parts whole = 0 ∷ map (λ n. whole / n) (range_with_len 1 most_candidates)

-- what is true of each tally of a Thiele rule
pub record IsThiele (e : Election) (m : ℕ) (rule : ThieleRule) (k : ℕ) (weights sums : List ℕ) : Type 0 where
  pub election : IsElection e
  pub m_is : m ≡ e.m
  pub size : k ≤ most_members
  pub weights_are : weights ≡ increments rule k
  pub sums_are : sums ≡ prefix_sums (increments rule k)

-- what the voters who approve the candidate give for it, with this share for a ballot of each size
abbrev pub score : List ℕ → List Row → ℕ → ℕ
score shares rows c = sum_by (λ (row : Row). row.1 * slice_index shares (length row.0)) (supporters rows c)

-- what is true of each tally of satisfaction approval
pub record IsSatisfaction (e : Election) (scores : List ℕ) : Type 0 where
  pub election : IsElection e
  pub scores_are : (c : ℕ) → slice_index scores c ≡ score (parts (common_multiple e.m)) e.rows c

-- what is true of each tally of approval voting: it has what a set without members gains by each candidate
pub record IsApproval (e : Election) (k : ℕ) (approvals : List ℕ) : Type 0 where
  pub election : IsElection e
  pub some : 1 ≤ k
  pub size : k ≤ most_members
  pub approvals_are : (c : ℕ) → 1 ≤ c → c ≤ e.m → slice_index approvals c ≡ gain (increments Av k) e.rows [] c
  pub small : (c : ℕ) → slice_index approvals c ≤ most_thiele_value
