use Rattle.std.proofs.Common.{◌≡◌, ℕ, cond, length, take, get_or}
use Rattle.ballot_base.specs.CandSet.{has_member}
use Rattle.ballot_base.specs.Increments.{increments}
use Rattle.tie_walk.specs.declared.sequential.Step.TheVariants.{Grow}
use Rattle.tie_walk.proofs.WorthLemmas.{partial}
use Rattle.tie_walk.proofs.thiele.ThieleTally.gains.Given as goal

-- the gains of the rows so far
abbrev pub invariant-loop-ballot : goal.invariant-loop-ballot
invariant-loop-ballot g l = (n : ℕ) → get_or l.gains n 0
    ≡ cond (has_member l.others n) (partial Grow (increments l.self.rule l.self.k) l.set n (take (length l.yielded) l.self.election.rows)) 0
