use Rattle.std.proofs.Common.{◌∙◌, ap, subst}
use Rattle.ballot_base.specs.Ballots.{Election, IsElection}
use Rattle.tie_walk.specs.Ceilings.{closeness_upto}
use Rattle.tie_walk.proofs.Closeness.{closeness-all}
use Rattle.tie_walk.proofs.minimax.MinimaxTallyTally.value.Goals as goal

pub returns : goal.returns
returns g c =
    let e : Election = c.args.self.now in
    let valid : IsElection e = subst IsElection c.self.view_is c.m.ensures.valid in
    c.bound.ensures.value ∙ ap (λ n. closeness_upto e.m e.rows n c.args.set) (c.m.ensures.value ∙ ap (λ (x : Election). x.m) c.self.view_is)
    ∙ closeness-all e.m e.rows c.args.set valid.ballots
