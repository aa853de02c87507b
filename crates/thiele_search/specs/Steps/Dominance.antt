-- Candidates whose supporters all approve another candidate.
use Rattle.std.specs.Prelude.{◌≡◌, ℕ, ◌<◌, ◌≤◌, Bool, true, not, List, [], slice_index, slice_index_or, if◌then◌else◌}
use Rattle.std.specs.List.{list_all}
use Rattle.ballot_base.specs.Ballots.{Row}
use Rattle.ballot_base.specs.CandSet.{has_member}
use Rattle.ballot_base.specs.Increments.{increments}
use Rattle.tie_walk.specs.Values.{Thiele}
use Rattle.thiele_search.specs.declared.dominance.Dominance.{Dominance}

-- whether each row that approves `d` approves `c` as well
abbrev pub is_follower : List Row → ℕ → ℕ → Bool
is_follower rows c d =
    list_all (λ (row : Row). if has_member row.0 c then true else not (has_member row.0 d)) rows

-- each hit in a committee of `k` adds something
abbrev pub EachHitAdds : Thiele → Type 0
EachHitAdds tally = (j : ℕ) → j < tally.k → 1 ≤ slice_index (increments tally.rule tally.k) j

-- at a candidate's number the table has only followers of the candidate, and each hit adds something
pub record IsDominance (tally : Thiele) (dominance : Dominance) : Type 0 where
  pub k_is : dominance.k ≡ tally.k
  pub adds : EachHitAdds tally
  pub followers : (c d : ℕ) → 1 ≤ c → c ≤ tally.election.m
      → has_member (slice_index_or dominance.followers c []) d ≡ true → is_follower tally.election.rows c d ≡ true
