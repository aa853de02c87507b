use Rattle.std.proofs.Common.{◌≡◌, ℕ, ◌&&◌, ◌||◌, true, get_or}
use Rattle.std.specs.Prelude.{nat_le}
use Rattle.ballot_base.specs.Limits.{most_candidates}
use Rattle.ballot_base.specs.Lists.{IsIncreasing}
use Rattle.ballot_base.specs.CandSet.{has_member}
use Rattle.thiele_search.specs.Steps.Uncovered.{AreFew}
use Rattle.thiele_search.proofs.uncovered.keep.Given as goal

-- of those that were passed, who has less is gone; the gains of all others are as before
abbrev pub invariant-loop-candidate : goal.invariant-loop-candidate
invariant-loop-candidate l = record {
  rises : IsIncreasing 1 most_candidates l.candidate-iterator;
  set : IsIncreasing 1 most_candidates l.free;
  each : (n : ℕ) → has_member l.free n ≡ (has_member l.fn.candidates n && (has_member l.candidate-iterator n || nat_le l.fn.least (get_or l.fn.gains n 0)));
  later : (n : ℕ) → has_member l.candidate-iterator n ≡ true → get_or l.gains n 0 ≡ get_or l.fn.gains n 0;
  same : (n : ℕ) → has_member l.free n ≡ true → get_or l.gains n 0 ≡ get_or l.fn.gains n 0;
  few : AreFew l.gains;
}
