use Rattle.std.proofs.Common.{◌≡◌, ◌+◌, ℕ, true, false, get_or, length}
use Rattle.ballot_base.specs.CandSet.{has_member}
use Rattle.ballot_base.specs.Limits.{most_candidates}
use Rattle.ballot_base.specs.Lists.{IsIncreasing}
use Rattle.thiele_search.specs.Steps.Uncovered.{AreFew, newly, uncovered_voters}
use Rattle.thiele_search.proofs.uncovered.Uncovered.gains.Given as goal

-- the gains of those who were passed are known
abbrev pub invariant-loop-candidate : goal.invariant-loop-candidate
invariant-loop-candidate g l = record {
  rises : IsIncreasing 1 most_candidates l.candidate-iterator;
  long : length l.gains ≡ most_candidates + 1;
  few : AreFew l.gains;
  made : (n : ℕ) → has_member l.fn.branch.free n ≡ true → has_member l.candidate-iterator n ≡ false
      → get_or l.gains n 0 ≡ newly (uncovered_voters l.fn.self.profile.now.rows l.fn.self.set l.fn.self.free) l.fn.branch.set n;
}
