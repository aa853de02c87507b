use Rattle.std.proofs.Common.{◌≡◌, ℕ, ◌≤◌, true, length}
use Rattle.std.specs.Prelude.{fold}
use Rattle.ballot_base.specs.Limits.{most_candidates}
use Rattle.ballot_base.specs.CandSet.{has_member, common_members}
use Rattle.ballot_base.specs.Lists.{IsIncreasing}
use Rattle.sequential_winners.specs.Steps.Near.{near_of, first_least}
use Rattle.sequential_winners.proofs.TableNear.{lesser}
use Rattle.sequential_winners.proofs.near.Nearness.centre.Given as goal

-- of those passed, the first with the fewest near it
abbrev pub invariant-loop-c : goal.invariant-loop-c
invariant-loop-c l = record {
  rises : IsIncreasing 1 most_candidates l.c-iterator;
  among : (n : ℕ) → has_member l.c-iterator n ≡ true → has_member l.fn.candidates n ≡ true;
  here : has_member l.fn.candidates l.centre ≡ true;
  bounds : (1 ≤ l.centre) × (l.centre ≤ most_candidates);
  folded : fold (lesser (λ n. length (common_members (near_of l.fn.self n) l.fn.among))) l.centre l.c-iterator ≡ first_least (λ n. length (common_members (near_of l.fn.self n) l.fn.among)) l.fn.candidates;
}
