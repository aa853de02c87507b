use Rattle.std.proofs.Common.{◌≡◌, ℕ, ◌*◌, ◌<◌, true, false, length}
use Rattle.ballot_base.specs.Limits.{most_candidates}
use Rattle.ballot_base.specs.CandSet.{has_member}
use Rattle.ballot_base.specs.Lists.{IsIncreasing}
use Rattle.sequential_winners.specs.Steps.Near.{near_of}
use Rattle.sequential_winners.proofs.near.Nearness.are_many.Given as goal

-- few are near each of those that were passed
abbrev pub invariant-loop-c : goal.invariant-loop-c
invariant-loop-c l = record {
  rises : IsIncreasing 1 most_candidates l.c-iterator;
  few : (n : ℕ) → has_member l.fn.candidates n ≡ true → has_member l.c-iterator n ≡ false → l.fn.others * length (near_of l.self n) < length l.fn.candidates;
}
