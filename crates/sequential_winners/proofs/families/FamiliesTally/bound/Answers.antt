use Rattle.std.proofs.Common.{◌∙◌, ℕ, cond, sym, ap, subst}
use Rattle.tie_walk.specs.Ceilings.{IsBound}
use Rattle.sequential_winners.specs.Families.{Sequential, is_winner}
use Rattle.sequential_winners.proofs.ValueLemmas.{byte-is, bound-law}
use Rattle.sequential_winners.proofs.families.FamiliesTally.bound.Goals as goal

pub returns-clause-value : goal.returns-clause-value
returns-clause-value g c = c.from.ensures ∙ byte-is c.completes.result ∙ ap {B = ℕ} (λ b. cond b 1 0) c.completes.ensures

pub returns-clause-law : goal.returns-clause-law
returns-clause-law g c =
    let s : Sequential = c.args.self.now in
    subst (λ n. IsBound (λ w. cond (is_winner s w) 1 0) s.election.m c.args.c c.args.set c.args.left n) (sym (returns-clause-value g c)) (bound-law s c.args.c c.args.set c.args.left)
