use Rattle.std.proofs.Common.{◌≡◌, ℕ, true, length, take}
use Rattle.ballot_base.specs.CandSet.{has_member}
use Rattle.thiele_search.specs.Steps.Dominance.{is_follower}
use Rattle.thiele_search.proofs.dominance.followers_of.Given as goal

-- in the rows so far, all supporters of those who are left approve c
abbrev pub invariant-loop-ballot : goal.invariant-loop-ballot
invariant-loop-ballot g l = (d : ℕ) → has_member l.followers d ≡ true → is_follower (take (length l.yielded) l.profile.rows) l.c d ≡ true
