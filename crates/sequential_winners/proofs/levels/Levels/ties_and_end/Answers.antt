use Rattle.std.proofs.lemmas.Grind.{common_steps}
use Rattle.std.proofs.lemmas.Bool.Decides.{nat_tests}
use Rattle.std.proofs.lemmas.Iterator.Consumers.{YieldsList-from_first}
use Rattle.std.proofs.lemmas.Iterator.Search.{all_from_yields_List}
use Rattle.std.proofs.Common.{◌≡◌, ◌∙◌, arith, rules, tests}
use Rattle.std.specs.Prelude.{fold, nat_le}
use Rattle.ballot_base.specs.Ballots.{Row, hits}
use Rattle.tie_walk.specs.Sequences.{hit_weights}
use Rattle.tie_walk.specs.Steps.Choices.{step_of, change}
use Rattle.tie_walk.proofs.RowSums.{length-common}
use Rattle.sequential_winners.specs.Steps.Levels.{shares_no_voter}
use Rattle.sequential_winners.proofs.StepLemmas.{end-found, fold-without}
use Rattle.sequential_winners.proofs.levels.Levels.ties_and_end.Goals as goal
use Rattle.sequential_winners.proofs.levels.Levels.ties_and_end.Goals.{in-Grow-step, in-Shrink, else-best-gt0-via-then-best-gt0+then-len-ge2+else-all, else-best-gt0-via-then-best-gt0+else-len-ge2, else-best-gt0-via-else-best-gt0}

pub returns-then-best-eq0-clause-end : goal.returns-then-best-eq0-clause-end
returns-then-best-eq0-clause-end g c =
    let s = c.args.self.now.choices in
    let e = s.profile.now in
    let is = end-found (step_of s.rule) (hit_weights s.rule e.m) e.m e.rows c.args.set c.tied-best.result.0 c.tied-best.ensures.best in
    grind (arith, common_steps, nat_tests)

pub returns-then-all-clause-end : goal.returns-then-all-clause-end
returns-then-all-clause-end g c =
    let s = c.args.self.now.choices in
    let e = s.profile.now in
    let ties = c.firsts-ties.result in
    let is = end-found (step_of s.rule) (hit_weights s.rule e.m) e.m e.rows c.args.set c.tied-best.result.0 c.tied-best.ensures.best in
    let apart : c.all-then-len-ge2.result ≡ shares_no_voter e.rows ties = all_from_yields_List (λ (row : Row). nat_le (hits row.0 ties) 1) _ _ c.all-then-len-ge2.result c.all-then-len-ge2.ensures.ran (YieldsList-from_first (λ x. x) (λ rows. rows) e.rows c.ballots.ensures.rows) (λ x b q k. rw (← length-common x.0 ties) (search (rules, tests))) in
    let made : c.match-step.end ≡ fold (change c.step-step.result) c.args.set ties = elim c.match-step.branch [
      | in-Grow-step w ↦ rw w.in-Grow-step.is (w.end-is ∙ w.union-end.ensures)
      | in-Shrink w ↦ rw w.in-Shrink.is (w.end-is ∙ w.minus-end.ensures ∙ fold-without c.args.set ties)
    ] in
    grind (arith, common_steps, nat_tests)

pub returns-clause-end : goal.returns-clause-end
returns-clause-end g c =
    let s = c.args.self.now.choices in
    let e = s.profile.now in
    let ties = c.firsts-ties.result in
    let is = end-found (step_of s.rule) (hit_weights s.rule e.m) e.m e.rows c.args.set c.tied-best.result.0 c.tied-best.ensures.best in
    elim c.else-best-gt0.branch [
      | else-best-gt0-via-then-best-gt0+then-len-ge2+else-all w ↦
          let apart : w.all-then-len-ge2.result ≡ shares_no_voter e.rows ties = all_from_yields_List (λ (row : Row). nat_le (hits row.0 ties) 1) _ _ w.all-then-len-ge2.result w.all-then-len-ge2.ensures.ran (YieldsList-from_first (λ x. x) (λ rows. rows) e.rows w.ballots.ensures.rows) (λ x b q k. rw (← length-common x.0 ties) (search (rules, tests))) in
          grind (arith, common_steps, nat_tests)
      | else-best-gt0-via-then-best-gt0+else-len-ge2 w ↦ grind (arith, common_steps, nat_tests)
      | else-best-gt0-via-else-best-gt0 w ↦ grind (arith, common_steps, nat_tests)
    ]
