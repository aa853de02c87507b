use Rattle.std.proofs.Common.{◌≡◌, ℕ, true}
use Rattle.ballot_base.specs.CandSet.{either_members, has_member}
use Rattle.ballot_base.specs.Limits.{most_candidates}
use Rattle.ballot_base.specs.Lists.{IsIncreasing}
use Rattle.tie_search.proofs.branch.suits.Given as goal

-- those still to come are members of the committee or of the set
abbrev pub invariant-loop-member : goal.invariant-loop-member
invariant-loop-member l = record {
  rises : IsIncreasing 1 most_candidates l.member-iterator;
  among : (n : ℕ) → has_member l.member-iterator n ≡ true → has_member (either_members l.committee l.branch.set) n ≡ true;
}
