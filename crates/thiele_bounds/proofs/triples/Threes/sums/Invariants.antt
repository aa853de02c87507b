use Rattle.std.proofs.Common.{◌≡◌, ℕ, true, false, get_or}
use Rattle.ballot_base.specs.CandSet.{has_member}
use Rattle.ballot_base.specs.Limits.{most_candidates}
use Rattle.ballot_base.specs.Lists.{IsIncreasing}
use Rattle.thiele_bounds.specs.Steps.Threes.{IsSumOfOne, three_of}
use Rattle.thiele_bounds.proofs.triples.Threes.sums.Given as goal

-- the sums of those who were passed
abbrev pub invariant-loop-i : goal.invariant-loop-i
invariant-loop-i l = record {
  rises : IsIncreasing 1 most_candidates l.i-iterator;
  among : (x : ℕ) → has_member l.i-iterator x ≡ true → has_member l.self.node.now.free x ≡ true;
  made : (x : ℕ) → has_member l.self.node.now.free x ≡ true → has_member l.i-iterator x ≡ false
      → IsSumOfOne (three_of l.self) l.self.node.now.free l.self.node.now.left x (get_or l.sums x 0);
}
