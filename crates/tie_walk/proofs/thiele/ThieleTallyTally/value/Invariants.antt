use Rattle.std.proofs.Common.{◌≡◌, ◌*◌, length, sum, sum_by, take}
use Rattle.ballot_base.specs.Ballots.{Row, hits}
use Rattle.ballot_base.specs.Increments.{increments}
use Rattle.tie_walk.proofs.thiele.ThieleTallyTally.value.Given as goal

-- what the voters of the rows so far give
abbrev pub invariant-loop-ballot : goal.invariant-loop-ballot
invariant-loop-ballot g l = l.value
    ≡ sum_by (λ (row : Row). row.1 * sum (take (hits row.0 l.set) (increments l.self.rule l.self.k))) (take (length l.yielded) l.self.election.rows)
