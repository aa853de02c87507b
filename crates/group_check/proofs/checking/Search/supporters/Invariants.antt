use Rattle.std.proofs.Common.{◌≡◌, ℕ, ◌≤◌, ◌&&◌, length, take, get_or}
use Rattle.std.specs.Prelude.{sum_by}
use Rattle.ballot_base.specs.CandSet.{has_member}
use Rattle.group_check.specs.Steps.Refuting.{may_belong}
use Rattle.group_check.proofs.VoterLemmas.{votes_passing, everyone}
use Rattle.group_check.proofs.checking.Search.supporters.Given as goal

-- the supporters among the voters of the rows so far
abbrev pub invariant-loop-ballot : goal.invariant-loop-ballot
invariant-loop-ballot g l = record {
  counted : (n : ℕ) → get_or l.supporters n 0
      ≡ sum_by (votes_passing (λ ballot. may_belong l.self.property l.self.committee l.self.level l.choices ballot && has_member ballot n)) (take (length l.yielded) l.self.profile.now.rows);
  few : (n : ℕ) → get_or l.supporters n 0 ≤ sum_by (votes_passing everyone) (take (length l.yielded) l.self.profile.now.rows);
}
