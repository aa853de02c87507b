use Rattle.std.proofs.Common.{◌≡◌, ℕ, ◌^◌, ◌≤◌, true, false, get_or}
use Rattle.ballot_base.specs.CandSet.{has_member, without_member}
use Rattle.ballot_base.specs.Limits.{most_candidates}
use Rattle.ballot_base.specs.Lists.{IsIncreasing}
use Rattle.thiele_bounds.specs.Triples.{sum_of_two}
use Rattle.thiele_bounds.specs.Steps.Threes.{three_of}
use Rattle.thiele_bounds.proofs.triples.Threes.sum_of_one.Given as goal

-- the sums of two with those who were passed
abbrev pub invariant-loop-j : goal.invariant-loop-j
invariant-loop-j l = record {
  rises : IsIncreasing 1 most_candidates l.j-iterator;
  among : (x : ℕ) → has_member l.j-iterator x ≡ true → has_member (without_member l.self.node.now.free l.i) x ≡ true;
  made : (x : ℕ) → has_member (without_member l.self.node.now.free l.i) x ≡ true → has_member l.j-iterator x ≡ false
      → (third : ℕ) × (sum_of_two (three_of l.self) l.self.node.now.free l.self.node.now.left (λ i j. third) l.i x ≤ get_or l.sums x 0);
  small : (x : ℕ) → get_or l.sums x 0 ≤ 2 ^ 100;
}
