use Rattle.std.proofs.Common.{◌≡◌, ℕ, ◌+◌, ◌<◌, ◌==◌, true, cond, length, max, min}
use Rattle.ballot_base.specs.CandSet.{has_member}
use Rattle.ballot_base.specs.Limits.{most_candidates}
use Rattle.ballot_base.specs.Lists.{IsIncreasing}
use Rattle.thiele_bounds.specs.Steps.Paired.{overlap_at}
use Rattle.thiele_bounds.specs.Steps.Places.{word_at}
use Rattle.thiele_bounds.proofs.PairBounds.OverlapLemmas.{portion}
use Rattle.thiele_bounds.proofs.triple_table.add_to_plane.Given as goal

-- with the rows that are still to be added, the numbers are those at the end
abbrev pub invariant-loop-middle : goal.invariant-loop-middle
invariant-loop-middle l = record {
  long : length l.pairs ≡ 2145;
  kept : length l.triples ≡ length l.fn.triples;
  rises : IsIncreasing 1 most_candidates l.middle-iterator;
  before : (n : ℕ) → has_member l.middle-iterator n ≡ true → n < l.high;
  paired : (i j : ℕ)
      → overlap_at l.pairs i j + portion (max i j == l.high) (has_member l.middle-iterator (min i j)) l.amounts.two
      ≡ overlap_at l.fn.pairs i j + portion (max i j == l.high) (has_member l.fn.members (min i j)) l.amounts.two;
  made : (z y x : ℕ) → x < y → y < z
      → word_at l.triples z y x + cond (has_member l.middle-iterator y) (cond (z == l.high) (cond (has_member l.fn.members x) l.amounts.three 0) 0) 0
      ≡ word_at l.fn.triples z y x + cond (has_member l.fn.members y) (cond (z == l.high) (cond (has_member l.fn.members x) l.amounts.three 0) 0) 0;
}
