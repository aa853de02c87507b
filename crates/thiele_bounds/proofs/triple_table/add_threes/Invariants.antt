use Rattle.std.proofs.Common.{◌≡◌, ℕ, ◌+◌, ◌<◌, ◌≤◌, true, cond, length, max, min}
use Rattle.ballot_base.specs.CandSet.{has_member}
use Rattle.ballot_base.specs.Limits.{most_candidates}
use Rattle.ballot_base.specs.Lists.{IsIncreasing}
use Rattle.thiele_bounds.specs.Steps.Paired.{overlap_at}
use Rattle.thiele_bounds.specs.Steps.Places.{tetrahedron, word_at}
use Rattle.thiele_bounds.proofs.PairBounds.OverlapLemmas.{portion}
use Rattle.thiele_bounds.proofs.triple_table.add_threes.Given as goal

-- with the planes that are still to be added, the numbers are those at the end
abbrev pub invariant-loop-high : goal.invariant-loop-high
invariant-loop-high l = record {
  kept : length l.triples ≡ length l.fn.triples;
  rises : IsIncreasing 1 most_candidates l.high-iterator;
  room : (n : ℕ) → has_member l.high-iterator n ≡ true → tetrahedron (n + 1) ≤ length l.fn.triples;
  among : (n : ℕ) → has_member l.high-iterator n ≡ true → has_member l.fn.members n ≡ true;
  paired : (i j : ℕ) → j ≤ most_candidates
      → overlap_at l.pairs i j + portion (has_member l.high-iterator (max i j)) (has_member l.fn.members (min i j)) l.amounts.two
      ≡ overlap_at l.fn.pairs i j + portion (has_member l.fn.members (max i j)) (has_member l.fn.members (min i j)) l.amounts.two;
  made : (z y x : ℕ) → x < y → y < z
      → word_at l.triples z y x + cond (has_member l.high-iterator z) (cond (has_member l.fn.members y) (cond (has_member l.fn.members x) l.amounts.three 0) 0) 0
      ≡ word_at l.fn.triples z y x + cond (has_member l.fn.members z) (cond (has_member l.fn.members y) (cond (has_member l.fn.members x) l.amounts.three 0) 0) 0;
}
