use Rattle.std.proofs.Common.{◌≡◌, ℕ, ◌+◌, ◌*◌, ◌^◌, ◌≤◌, cond, get_or}
use Rattle.ballot_base.specs.Limits.{most_candidates, most_members}
use Rattle.ballot_base.specs.Lists.{IsIncreasing}
use Rattle.ballot_base.specs.CandSet.{has_member}
use Rattle.thiele_search.specs.Steps.Columns.{total, shared}
use Rattle.thiele_search.proofs.columns.Columns.add_block.Given as goal

-- with what is still to be added, the gains are those at the end
abbrev pub invariant-loop-candidate : goal.invariant-loop-candidate
invariant-loop-candidate g l = record {
  rises : IsIncreasing 1 most_candidates l.candidate-iterator;
  made : (c : ℕ) → get_or l.gains c 0 + cond (has_member l.candidate-iterator c) (total (λ h. get_or l.self.weights h 0 * shared (get_or l.block c 0) (get_or l.words h 0)) l.levels) 0
      ≡ get_or l.fn.gains c 0 + cond (has_member l.fn.free c) (total (λ h. get_or l.self.weights h 0 * shared (get_or l.block c 0) (get_or l.words h 0)) l.levels) 0;
  most : (c : ℕ) → get_or l.gains c 0 ≤ get_or l.fn.gains c 0 + cond (has_member l.candidate-iterator c) 0 (most_members * 2 ^ 50);
}
