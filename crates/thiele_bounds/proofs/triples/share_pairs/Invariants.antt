use Rattle.std.proofs.Common.{◌≡◌, ℕ, ◌<◌, true, false}
use Rattle.ballot_base.specs.CandSet.{has_member}
use Rattle.ballot_base.specs.Limits.{most_candidates}
use Rattle.ballot_base.specs.Lists.{IsIncreasing}
use Rattle.thiele_bounds.specs.Steps.Paired.{overlap_at}
use Rattle.thiele_bounds.specs.Steps.Threes.{IsPart}
use Rattle.thiele_bounds.proofs.triples.share_pairs.Given as goal

-- the rows of those who were passed have parts, and those of the others have overlaps
abbrev pub invariant-loop-i : goal.invariant-loop-i
invariant-loop-i l = record {
  rises : IsIncreasing 1 most_candidates l.i-iterator;
  among : (x : ℕ) → has_member l.i-iterator x ≡ true → has_member l.node.free x ≡ true;
  made : (x : ℕ) → has_member l.node.free x ≡ true → has_member l.i-iterator x ≡ false
      → (y : ℕ) → has_member l.node.free y ≡ true → y < x → IsPart l.worths l.fn.pairs l.node.left l.most x y (overlap_at l.pairs x y);
  others : (a b : ℕ) → b < a → has_member l.i-iterator a ≡ true → overlap_at l.pairs a b ≡ overlap_at l.fn.pairs a b;
}
