use Rattle.std.proofs.Common.{◌≡◌, ℕ, ◌*◌, ◌^◌, ◌≤◌, length, take, get_or}
use Rattle.std.specs.Prelude.{sum_by}
use Rattle.group_check.specs.Steps.Refuting.{charge}
use Rattle.group_check.proofs.VoterLemmas.{votes_passing, everyone}
use Rattle.group_check.proofs.checking.Search.charges.Given as goal

-- what the voters of the rows so far are charged
abbrev pub invariant-loop-ballot : goal.invariant-loop-ballot
invariant-loop-ballot g l = record {
  charged : (n : ℕ) → get_or l.charges n 0 ≡ sum_by (charge l.self.property l.self.committee l.self.level l.choices l.agreement n) (take (length l.yielded) l.self.profile.now.rows);
  few : (n : ℕ) → get_or l.charges n 0 ≤ sum_by (votes_passing everyone) (take (length l.yielded) l.self.profile.now.rows) * 2 ^ 20;
}
