use Rattle.std.proofs.Common.{◌∙◌, ℕ, cond, ap}
use Rattle.sequential_winners.specs.Families.{some_winner}
use Rattle.sequential_winners.proofs.ValueLemmas.{byte-is, value-is}
use Rattle.sequential_winners.proofs.families.FamiliesTally.value.Goals as goal

pub returns : goal.returns
returns g c =
    c.from.ensures ∙ byte-is c.completes.result
    ∙ ap {B = ℕ} (λ b. cond b 1 0) (c.completes.ensures ∙ ap (λ n. some_winner c.args.self.now n c.args.set 0) c.m.ensures.value ∙ value-is c.args.self.now c.args.set)
