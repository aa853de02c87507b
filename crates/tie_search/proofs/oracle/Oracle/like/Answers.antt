use Rattle.tie_search.proofs.ListLemmas.{guess-among}
use Rattle.tie_search.proofs.oracle.Oracle.like.Goals as goal

pub returns-in-Listed : goal.returns-in-Listed
returns-in-Listed g c =
    let self = c.args.self.now in
    let listed = rw c.in-Listed.is at c.requires.knows.listed in
    guess-among (g.S.Tally.value_of self.search) (g.S.WithClones.class_of self.search) (g.S.Tally.candidates self.search) self.k c.args.branch.now c.clones.result.now c.in-Listed.winners.items c.requires.branch
    c.clones.ensures.table c.clones.ensures.rise c.clones.ensures.classes listed.each (λ committee wins. listed.all committee wins.best) c.suited.result
    (rw c.deref.ensures.0 at c.suited.ensures)
