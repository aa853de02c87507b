-- The counts and aids of a search under a Thiele rule.
use Rattle.std.specs.Prelude.{◌≡◌, ℕ, ◌*◌, ◌≤◌, true, List, Option, MatchOption, ⊤, slice_index}
use Rattle.ballot_base.specs.Ballots.{IsElection, voter_count}
use Rattle.ballot_base.specs.CandSet.{has_member}
use Rattle.ballot_base.specs.Clones.{AreClones}
use Rattle.ballot_base.specs.Increments.{increments}
use Rattle.ballot_base.specs.Limits.{most_members}
use Rattle.tie_search.specs.declared.descent.Plan.{Plan}
use Rattle.tie_walk.specs.Sequences.{gain}
use Rattle.tie_walk.specs.Values.{Thiele, tally_value}
use Rattle.thiele_search.specs.declared.columns.Columns.{Columns}
use Rattle.thiele_bounds.specs.declared.majorant.HitSums.{HitSums}
use Rattle.thiele_search.specs.declared.search.Aids.{Aids}
use Rattle.thiele_bounds.specs.Steps.Units.{most_overlap}
use Rattle.thiele_search.specs.Steps.Columns.{AreColumnsOf}
use Rattle.thiele_search.specs.Steps.Dominance.{IsDominance}
use Rattle.thiele_bounds.specs.Steps.Paired.{AreSums, most_sum}
use Rattle.thiele_bounds.specs.Steps.Priced.{IsPriced}

-- the value is that of the set, in an election and under a rule that can be searched
pub record IsValued (tally : Thiele) (set : List ℕ) (value : ℕ) : Type 0 where
  pub election : IsElection tally.election
  pub size : tally.k ≤ most_members
  pub value_is : value ≡ tally_value tally set

-- what a search knows at a set: its value, and what each candidate that can join adds to it
pub record IsGainPlan (tally : Thiele) (set : List ℕ) (plan : Plan) : Type 0 where
  pub valued : IsValued tally set plan.value
  pub gains : (n : ℕ) → has_member plan.eligible n ≡ true
      → slice_index plan.worths n ≡ gain (increments tally.rule tally.k) tally.election.rows set n

-- the counts are for committees of this size, and the columns, if they are kept, are those of the election
pub record IsCounted {A : Type 0} (tally : Thiele) (k : ℕ) (columns : Option (Columns A)) : Type 0 where
  pub election : IsElection tally.election
  pub k_is : k ≡ tally.k
  pub some : 1 ≤ tally.k
  pub size : tally.k ≤ most_members
  pub columns_are : MatchOption columns ⊤ (λ kept. AreColumnsOf tally kept.blocks.items kept.weights)

-- the sums, if they are kept, are those of the rule, and small enough for majorants
abbrev pub HasSums : Thiele → Option HitSums → Type 0
HasSums tally sums = MatchOption sums ⊤ (λ given.
    AreSums (increments tally.rule tally.k) given.scale given.unit given.sums
    × (voter_count tally.election.rows * most_sum given.sums ≤ most_overlap))

-- the aids are made from the election and the rule
pub record IsAided {A : Type 0} (tally : Thiele) (aids : Aids A) : Type 0 where
  pub clones : AreClones tally.election.m tally.election.rows aids.clones
  pub dominance : MatchOption aids.dominance ⊤ (IsDominance tally)
  pub priced : IsPriced tally aids.priced
  pub sums : HasSums tally aids.sums
