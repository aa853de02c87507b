use Rattle.std.proofs.Common.{◌≤◌, subst, arith}
use Rattle.ballot_base.specs.Lists.{later_than}
use Rattle.tie_walk.specs.Winners.{winners}
use Rattle.tie_search.specs.Asked.{Asked, beginnings}
use Rattle.tie_search.proofs.winners.SearchWinners.entered.Goals as goal

pub returns-clause-most : goal.returns-clause-most
returns-clause-most g c =
    let V = g.S.Tally.value_of in
    let C = g.S.Tally.candidates in
    let entered = c.entered.result in
    subst (λ (v : Asked g.row.S.Denot). entered ≤ beginnings (C v.search) v.k (later_than v.after (winners (V v.search) (C v.search) v.k))) c.self.view_is
    (omega (arith, c.entered.ensures, c.self.invariant.counted.most))
