use Rattle.std.proofs.lemmas.Grind.{common_steps}
use Rattle.std.proofs.Common.{ap, sym, ◌∙◌, arith}
use Rattle.ballot_base.proofs.Names.{name_of-kept, some_name-none, some_name-some}
use Rattle.ballot_base.proofs.profile.Profile.name.Goals as goal

pub returns-then-is_empty-clause-value : goal.returns-then-is_empty-clause-value
returns-then-is_empty-clause-value g c =
    grind (arith, common_steps, name_of-kept _ _ c.args.n c.self-inside.inside.0.0.names.items c.self-inside.inside.0.0.rows c.args.self.now c.index.result.now (ap (λ inside. inside.built) c.self-inside.view_is ∙ c.self.view_is) c.self-inside.invariant.valid.names (omega (arith, c.if-n-eq0.false)) c.if-n-self.false c.from.ensures c.index.ensures, some_name-none c.as_slice-name.result.now (sym c.is_empty.ensures ∙ c.if-is_empty.true))

pub returns-else-is_empty-clause-value : goal.returns-else-is_empty-clause-value
returns-else-is_empty-clause-value g c =
    grind (arith, common_steps, name_of-kept _ _ c.args.n c.self-inside.inside.0.0.names.items c.self-inside.inside.0.0.rows c.args.self.now c.index.result.now (ap (λ inside. inside.built) c.self-inside.view_is ∙ c.self.view_is) c.self-inside.invariant.valid.names (omega (arith, c.if-n-eq0.false)) c.if-n-self.false c.from.ensures c.index.ensures, some_name-some c.as_slice-name.result.now (sym c.is_empty.ensures ∙ c.if-is_empty.false))
