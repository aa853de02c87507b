use Rattle.std.proofs.Common.{◌≡◌, ℕ, ◌≤◌, Bool, List, length, take}
use Rattle.std.specs.Prelude.{sum_by}
use Rattle.group_check.specs.Steps.Checking.{Computes}
use Rattle.group_check.proofs.VoterLemmas.{votes_passing, everyone}
use Rattle.group_check.proofs.checking.voters_with.Given as goal

-- the voters of the rows so far whose ballots pass
abbrev pub invariant-loop-ballot : goal.invariant-loop-ballot
invariant-loop-ballot g l = record {
  counted : (test : List ℕ → Bool) → Computes (goal.F-post g l.fn.passes) test → l.voters ≡ sum_by (votes_passing test) (take (length l.yielded) l.profile.rows);
  few : l.voters ≤ sum_by (votes_passing everyone) (take (length l.yielded) l.profile.rows);
}
