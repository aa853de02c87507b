use Rattle.std.proofs.Common.{◌≡◌, ℕ, ◌<◌, true, false, length}
use Rattle.ballot_base.specs.CandSet.{has_member}
use Rattle.ballot_base.specs.Limits.{most_candidates}
use Rattle.ballot_base.specs.Lists.{IsIncreasing}
use Rattle.thiele_bounds.specs.Steps.Paired.{overlap_at}
use Rattle.thiele_bounds.specs.Steps.Threes.{IsSumOfTwo}
use Rattle.thiele_bounds.proofs.triples.Threes.fill_row.Given as goal

-- the sums with those who were passed
abbrev pub invariant-loop-j : goal.invariant-loop-j
invariant-loop-j l = record {
  long : length l.twos ≡ 2145;
  rises : IsIncreasing 1 most_candidates l.j-iterator;
  among : (x : ℕ) → has_member l.j-iterator x ≡ true → has_member l.self.node.now.free x ≡ true;
  before : (x : ℕ) → has_member l.j-iterator x ≡ true → x < l.i;
  made : (x : ℕ) → has_member l.self.node.now.free x ≡ true → has_member l.j-iterator x ≡ false → x < l.i
      → IsSumOfTwo l.self l.i x (overlap_at l.twos l.i x);
  others : (a b : ℕ) → b < a → (a ≡ l.i → ⊥) → overlap_at l.twos a b ≡ overlap_at l.fn.twos a b;
}
