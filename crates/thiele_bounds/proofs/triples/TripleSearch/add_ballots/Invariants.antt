use Rattle.std.proofs.Common.{◌≡◌, ℕ, ◌*◌, ◌^◌, ◌<◌, ◌≤◌, length, take, get_or}
use Rattle.ballot_base.specs.Ballots.{voter_count}
use Rattle.ballot_base.specs.Limits.{most_candidates}
use Rattle.thiele_bounds.specs.Steps.Paired.{most_sum, overlap_at}
use Rattle.thiele_bounds.specs.Steps.Places.{word_at}
use Rattle.thiele_bounds.specs.Steps.Threes.{AreCubics, AreTriples}
use Rattle.thiele_bounds.proofs.triples.TripleSearch.add_ballots.Given as goal

-- the totals of the rows so far
abbrev pub invariant-loop-ballot : goal.invariant-loop-ballot
invariant-loop-ballot g l = record {
  made : l.cubics ≡ record { sums = l.self.given.now.sums; shift = l.self.shift; left = l.node.left; free = length l.node.free };
  cubics : AreCubics l.self.given.now.sums l.self.shift (take (length l.yielded) l.self.profile.now.rows) l.node l.totals.constant l.totals.worths l.totals.overlaps;
  small_constant : l.totals.constant ≤ voter_count (take (length l.yielded) l.self.profile.now.rows) * (most_sum l.self.given.now.sums * 2 ^ 13);
  small_worths : (n : ℕ) → get_or l.totals.worths n 0 ≤ voter_count (take (length l.yielded) l.self.profile.now.rows) * (most_sum l.self.given.now.sums * 2 ^ 8);
  self_overlaps : (i j : ℕ) → i ≤ most_candidates → j ≤ most_candidates → overlap_at l.totals.overlaps i j ≤ overlap_at l.totals.overlaps i i;
  kept : length l.triples ≡ length l.fn.triples;
  triples : AreTriples l.self.given.now.sums l.self.shift (take (length l.yielded) l.self.profile.now.rows) l.node l.triples;
  small_triples : (z y x : ℕ) → x < y → y < z → word_at l.triples z y x ≤ voter_count (take (length l.yielded) l.self.profile.now.rows) * most_sum l.self.given.now.sums;
  small_overlaps : (i j : ℕ) → j ≤ most_candidates → overlap_at l.totals.overlaps i j ≤ voter_count (take (length l.yielded) l.self.profile.now.rows) * most_sum l.self.given.now.sums;
}
