use Rattle.tie_search.proofs.ListLemmas.{guess-among}
use Rattle.tie_search.proofs.branch_list.BranchList.like.Goals as goal

pub returns : goal.returns
returns g c =
    let oracle = c.args.oracle.now in
    guess-among (g.S.Tally.value_of oracle.search) (g.S.WithClones.class_of oracle.search) (g.S.Tally.candidates oracle.search) oracle.k c.args.branch.now c.clones.result.now c.args.self.now.winners.items c.requires.branch
    c.clones.ensures.table c.clones.ensures.rise c.clones.ensures.classes c.requires.listed.each (λ committee wins. c.requires.listed.all committee (record { best = wins.best; whole = c.is_within.ensures c.if-not-is_within.false committee wins.whole })) c.suited.result
    (rw c.deref.ensures.0 at c.suited.ensures)
