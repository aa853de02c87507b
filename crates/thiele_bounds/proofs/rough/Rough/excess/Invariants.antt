use Rattle.std.proofs.Common.{◌≡◌, ℕ, ◌-◌, ◌*◌, ◌<◌, ◌≤◌, true, List, get_or, sum_by}
use Rattle.ballot_base.specs.CandSet.{has_member}
use Rattle.ballot_base.specs.Limits.{most_candidates}
use Rattle.ballot_base.specs.Lists.{IsIncreasing}
use Rattle.thiele_bounds.specs.Steps.Threes.{most_rough}
use Rattle.thiele_bounds.proofs.rough.Rough.excess.Given as goal

-- the sum over candidates that were passed is no more
abbrev pub invariant-loop-candidate : goal.invariant-loop-candidate
invariant-loop-candidate l = record {
  some : 1 ≤ l.candidate;
  covered : (xs : List ℕ) → IsIncreasing 1 most_candidates xs → ((x : ℕ) → has_member xs x ≡ true → x < l.candidate)
      → sum_by (λ n. get_or l.self n 0 - l.threshold) xs ≤ l.more;
  small : l.more ≤ (l.candidate - 1) * most_rough;
  few : l.above < l.candidate;
}
