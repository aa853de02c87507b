use Rattle.std.proofs.Common.{◌≡◌, ℕ, true, false}
use Rattle.ballot_base.specs.CandSet.{has_member}
use Rattle.ballot_base.specs.Limits.{most_candidates}
use Rattle.ballot_base.specs.Lists.{IsIncreasing}
use Rattle.sequential_winners.specs.Steps.Near.{near_of, AreFar}
use Rattle.sequential_winners.proofs.near.Nearness.apart.Given as goal

-- those that are left are not near those taken
abbrev pub invariant-loop-turn : goal.invariant-loop-turn
invariant-loop-turn l = record {
  rises : IsIncreasing 1 most_candidates l.rest;
  up : IsIncreasing 1 most_candidates l.apart;
  taken : (n : ℕ) → has_member l.apart n ≡ true → has_member l.fn.among n ≡ true;
  left : (n : ℕ) → has_member l.rest n ≡ true → has_member l.fn.among n ≡ true;
  far : AreFar l.self l.apart;
  out : (t n : ℕ) → has_member l.apart t ≡ true → has_member l.rest n ≡ true → has_member (near_of l.self t) n ≡ false;
}
