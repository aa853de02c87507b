use Rattle.std.proofs.Common.{◌∙◌, sym, ap}
use Rattle.std.specs.Prelude.{fold}
use Rattle.tie_walk.specs.Steps.Choices.{change}
use Rattle.sequential_winners.proofs.StepLemmas.{fold-without}
use Rattle.sequential_winners.proofs.question.Question.after_all.Goals as goal

pub returns-in-Shrink : goal.returns-in-Shrink
returns-in-Shrink g c = c.minus.ensures ∙ fold-without c.args.from c.args.choices ∙ ap (λ s. fold (change s) c.args.from c.args.choices) (sym c.in-Shrink.is ∙ c.step.ensures)
