use Rattle.std.proofs.Common.{subst}
use Rattle.ballot_base.specs.Ballots.{Election}
use Rattle.ballot_base.specs.Clones.{AreClones, clones_among}
use Rattle.tie_walk.specs.Values.{closeness}
use Rattle.tie_search.specs.Alike.{AreAlike}
use Rattle.tie_search.proofs.AlikeLemmas.{clones-classes, clones-rise}
use Rattle.minimax_search.proofs.NearClones.{alike}
use Rattle.minimax_search.proofs.minimax.MinimaxSearchWithClones.clones.Goals as goal

pub returns-clause-table : goal.returns-clause-table
returns-clause-table g c = subst (λ (e : Election). AreClones e.m e.rows c.self.inside.clones) c.self.view_is c.self.invariant.1

pub returns-clause-rise : goal.returns-clause-rise
returns-clause-rise g c n low high = clones-rise c.args.self.now.m c.args.self.now.rows n

pub returns-clause-classes : goal.returns-clause-classes
returns-clause-classes g c = clones-classes c.args.self.now.m c.args.self.now.rows

pub returns-clause-alike : goal.returns-clause-alike
returns-clause-alike g c =
    let t = c.self.inside in
    subst (λ (e : Election). AreAlike (closeness e.m e.rows) e.m (clones_among e.m e.rows)) c.self.view_is (alike t.profile.now c.self.invariant.0.ballots)
