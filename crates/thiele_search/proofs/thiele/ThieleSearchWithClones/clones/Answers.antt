use Rattle.std.proofs.Common.{subst}
use Rattle.ballot_base.specs.Clones.{AreClones, clones_among}
use Rattle.tie_walk.specs.Values.{Thiele, tally_value}
use Rattle.tie_search.specs.Alike.{AreAlike}
use Rattle.tie_search.proofs.AlikeLemmas.{clones-classes, clones-rise}
use Rattle.thiele_search.proofs.AlikeLemmas.{alike}
use Rattle.thiele_search.proofs.thiele.ThieleSearchWithClones.clones.Goals as goal

pub returns-clause-table : goal.returns-clause-table
returns-clause-table g c = subst (λ (tally : Thiele). AreClones tally.election.m tally.election.rows c.self.inside.aids.clones) c.self.view_is c.self.invariant.clones

pub returns-clause-rise : goal.returns-clause-rise
returns-clause-rise g c n low high = clones-rise c.args.self.now.election.m c.args.self.now.election.rows n

pub returns-clause-classes : goal.returns-clause-classes
returns-clause-classes g c = clones-classes c.args.self.now.election.m c.args.self.now.election.rows

pub returns-clause-alike : goal.returns-clause-alike
returns-clause-alike g c =
    subst (λ (tally : Thiele). AreAlike (tally_value tally) tally.election.m (clones_among tally.election.m tally.election.rows)) c.self.view_is
    (alike c.self.inside.counts.tally c.self.inside.counts.sound.election)
