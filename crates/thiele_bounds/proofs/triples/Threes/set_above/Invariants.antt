use Rattle.std.proofs.Common.{◌≡◌, ℕ, true, false, get_or}
use Rattle.ballot_base.specs.CandSet.{has_member, members_upto, other_members}
use Rattle.ballot_base.specs.Limits.{most_candidates}
use Rattle.ballot_base.specs.Lists.{IsIncreasing}
use Rattle.thiele_bounds.specs.Steps.Threes.{three_rough}
use Rattle.thiele_bounds.proofs.triples.Threes.set_above.Given as goal

-- the worths of those who were passed, and the others as they were
abbrev pub invariant-loop-l : goal.invariant-loop-l
invariant-loop-l l = record {
  rises : IsIncreasing 1 most_candidates l.l-iterator;
  among : (x : ℕ) → has_member l.l-iterator x ≡ true → has_member (other_members l.self.node.now.free (members_upto l.self.node.now.free l.i)) x ≡ true;
  made : (x : ℕ) → has_member (other_members l.self.node.now.free (members_upto l.self.node.now.free l.i)) x ≡ true → has_member l.l-iterator x ≡ false
      → get_or l.worths x 0 ≡ three_rough l.self l.i l.j x;
  kept : (x : ℕ) → has_member (other_members l.self.node.now.free (members_upto l.self.node.now.free l.i)) x ≡ false → get_or l.worths x 0 ≡ get_or l.fn.worths x 0;
}
