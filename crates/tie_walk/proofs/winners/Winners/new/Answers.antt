use Rattle.std.proofs.Common.{◌≡◌, refl, subst, sym}
use Rattle.ballot_base.specs.Lists.{later_than}
use Rattle.tie_walk.specs.Steps.Walks.{committees_from, those_reaching, Aim}
use Rattle.tie_walk.specs.Winners.{winners}
use Rattle.tie_walk.proofs.LiveLemmas.{winners-left}
use Rattle.tie_walk.proofs.winners.Winners.new.Goals as goal

pub returns-clause-left : goal.returns-clause-left
returns-clause-left g c =
    let value = g.T.Tally.value_of c.args.tally.now in
    let m = g.T.Tally.candidates c.args.tally.now in
    let walk = c.begin-walk.result in
    subst (λ (x : Aim g.row.T.Denot). those_reaching (g.T.Tally.value_of x.tally) x.best (committees_from x.m x.k walk.place) ≡ later_than c.args.after (winners value c.args.m c.args.k))
    (sym c.begin-walk.ensures.aim)
    (winners-left value m c.args.m c.args.k c.greatest_value-best.result (committees_from m c.args.k walk.place) c.args.after c.args.after (sym c.requires.candidates)
    c.greatest_value-best.ensures c.begin-walk.ensures.begun.next refl)
