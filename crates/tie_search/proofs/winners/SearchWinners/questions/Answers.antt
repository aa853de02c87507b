use Rattle.std.proofs.Common.{◌≤◌, subst, arith}
use Rattle.ballot_base.specs.Lists.{later_than}
use Rattle.tie_walk.specs.Winners.{winners}
use Rattle.tie_search.specs.Asked.{Asked, most_questions}
use Rattle.tie_search.proofs.winners.SearchWinners.questions.Goals as goal

pub returns-clause-most : goal.returns-clause-most
returns-clause-most g c =
    let V = g.S.Tally.value_of in
    let C = g.S.Tally.candidates in
    let asked = c.asked.result in
    subst (λ (v : Asked g.row.S.Denot). asked ≤ most_questions (C v.search) v.k (later_than v.after (winners (V v.search) (C v.search) v.k))) c.self.view_is
    (omega (arith, c.asked.ensures, c.self.invariant.counted.few))
