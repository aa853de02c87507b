-- The value by which each rule compares committees.
-- (Lackner and Skowron, Multi-Winner Voting with Approval Preferences)
use Rattle.std.specs.Prelude.{ℕ, List}
use Rattle.ballot_base.specs.Ballots.{Election}
use Rattle.ballot_base.specs.Increments.{increments}
use Rattle.request_words.specs.declared.request.ScoredRule.{ScoredRule}
use Rattle.request_words.specs.declared.request.ScoredRule.TheVariants.{Thiele, Satisfaction, Minimax}
use Rattle.tie_walk.specs.Values.{thiele_value, satisfaction_value, closeness}

-- the value by which a rule compares committees of this size: the score times its denominator; for minimax, the
-- number of candidates less the maximum distance
abbrev pub value_by : ScoredRule → ℕ → Election → List ℕ → ℕ
value_by (Thiele rule) size election = thiele_value (increments rule size) election.rows
value_by Satisfaction size election = satisfaction_value election.m election.rows
value_by Minimax size election = closeness election.m election.rows
