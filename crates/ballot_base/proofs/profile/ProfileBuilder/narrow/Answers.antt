use Rattle.ballot_base.proofs.Names.{election-narrowed}
use Rattle.ballot_base.proofs.profile.ProfileBuilder.narrow.Goals as goal

pub returns-clause-narrowed : goal.returns-clause-narrowed
returns-clause-narrowed g c =
    election-narrowed _ c.from.result c.args.m c.self.inside.names.items c.truncate.new.self.items c.self.inside.rows c.args.self.now c.self.view_is c.truncate.ensures.items c.from.ensures c.requires.no_ballot
