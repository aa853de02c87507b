use Rattle.std.proofs.Common.{◌≡◌, ℕ, ◌<◌, true, false, length}
use Rattle.ballot_base.specs.CandSet.{has_member}
use Rattle.ballot_base.specs.Limits.{most_candidates}
use Rattle.ballot_base.specs.Lists.{IsIncreasing}
use Rattle.thiele_bounds.specs.Steps.Paired.{overlap_at}
use Rattle.thiele_bounds.specs.Steps.Threes.{IsPart}
use Rattle.thiele_bounds.proofs.triples.share_row.Given as goal

-- the parts with those who were passed, and the overlaps with the others
abbrev pub invariant-loop-j : goal.invariant-loop-j
invariant-loop-j l = record {
  long : length l.pairs ≡ 2145;
  rises : IsIncreasing 1 most_candidates l.j-iterator;
  among : (x : ℕ) → has_member l.j-iterator x ≡ true → has_member l.node.free x ≡ true;
  before : (x : ℕ) → has_member l.j-iterator x ≡ true → x < l.i;
  made : (x : ℕ) → has_member l.node.free x ≡ true → has_member l.j-iterator x ≡ false → x < l.i
      → IsPart l.worths l.fn.pairs l.node.left l.most l.i x (overlap_at l.pairs l.i x);
  later : (x : ℕ) → has_member l.j-iterator x ≡ true → overlap_at l.pairs l.i x ≡ overlap_at l.fn.pairs l.i x;
  others : (a b : ℕ) → b < a → (a ≡ l.i → ⊥) → overlap_at l.pairs a b ≡ overlap_at l.fn.pairs a b;
}
