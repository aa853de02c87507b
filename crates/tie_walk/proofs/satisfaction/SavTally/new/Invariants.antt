use Rattle.std.proofs.Common.{◌≡◌, ℕ, ◌*◌, take, length, get_or, sum_by}
use Rattle.ballot_base.specs.Ballots.{Row}
use Rattle.tie_walk.proofs.Gains.{given}
use Rattle.tie_walk.proofs.satisfaction.SavTally.new.Given as goal

-- the scores over the rows so far
abbrev pub invariant-loop-ballot : goal.invariant-loop-ballot
invariant-loop-ballot g l = (c : ℕ) → get_or l.scores c 0 ≡ sum_by (λ (row : Row). row.1 * given l.shares c row) (take (length l.yielded) l.profile.rows)
