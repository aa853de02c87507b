use Rattle.std.proofs.Common.{arith}
use Rattle.std.proofs.lemmas.Grind.{common_steps}
use Rattle.ballot_base.proofs.Names.{election-named}
use Rattle.ballot_base.proofs.profile.ProfileBuilder.set_name.Goals as goal

pub returns-clause-ok : goal.returns-clause-ok
returns-clause-ok g c =
    election-named _ c.from.result c.args.n c.self.inside.names.items c.self.inside.rows c.args.self.now c.in-Ok.name c.args.name.now c.self.view_is c.from.ensures c.in-Ok.ensures.ok

pub invariant_of-self : goal.invariant_of-self
invariant_of-self g c = grind (arith, common_steps)

pub returns-clause-valid : goal.returns-clause-valid
returns-clause-valid g c = grind (arith, common_steps)

pub index_mut-requires : goal.index_mut-requires
index_mut-requires g c = grind (arith, common_steps)
