use Rattle.std.proofs.Common.{◌≡◌, ℕ, ◌<◌, true, false}
use Rattle.ballot_base.specs.CandSet.{has_member}
use Rattle.ballot_base.specs.Limits.{most_candidates}
use Rattle.ballot_base.specs.Lists.{IsIncreasing}
use Rattle.thiele_bounds.specs.Steps.Paired.{overlap_at}
use Rattle.thiele_bounds.specs.Steps.Threes.{IsSumOfTwo}
use Rattle.thiele_bounds.proofs.triples.Threes.fill.Given as goal

-- the rows of those who were passed
abbrev pub invariant-loop-i : goal.invariant-loop-i
invariant-loop-i l = record {
  rises : IsIncreasing 1 most_candidates l.i-iterator;
  among : (x : ℕ) → has_member l.i-iterator x ≡ true → has_member l.self.node.now.free x ≡ true;
  made : (x : ℕ) → has_member l.self.node.now.free x ≡ true → has_member l.i-iterator x ≡ false
      → (y : ℕ) → has_member l.self.node.now.free y ≡ true → y < x → IsSumOfTwo l.self x y (overlap_at l.twos x y);
}
