use Rattle.std.proofs.Common.{◌≡◌, ℕ, ◌-◌, true, false, length, MatchOption}
use Rattle.std.specs.Prelude.{⊤}
use Rattle.ballot_base.specs.CandSet.{has_member}
use Rattle.tie_walk.specs.Steps.Choices.{step_of, choices_of, change}
use Rattle.sequential_winners.specs.Steps.Levels.{chosen}
use Rattle.sequential_winners.specs.Steps.Questions.{AreDead, IsDead}
use Rattle.sequential_winners.proofs.question.Question.+leads.Given as goal

-- the choices that are left
abbrev pub decreases-leads : goal.decreases-leads
decreases-leads g l =
    let choices = l.self.now.levels.now.choices in
    choices_of choices.rule choices.profile.now.m l.self.now.k - chosen (step_of choices.rule) choices.profile.now.m l.from

-- those that were tried lead to nothing
abbrev pub invariant-loop-next : goal.invariant-loop-next
invariant-loop-next g l =
    let choices = l.self.levels.now.choices in
    let q = l.self in record {
      dead : MatchOption l.dead ⊤ (λ sets. AreDead choices.rule choices.profile.now q.k q.c q.set sets.keys);
      among : (n : ℕ) → has_member l.left n ≡ true → has_member l.initial.left n ≡ true;
      tried : (n : ℕ) → has_member l.initial.left n ≡ true → has_member l.left n ≡ false → IsDead choices.rule choices.profile.now q.k q.c q.set (change (step_of choices.rule) l.from n);
    }

abbrev pub decreases-loop-next : goal.decreases-loop-next
decreases-loop-next g l = length l.left
