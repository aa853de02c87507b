use Rattle.std.proofs.Common.{arith, inl, inr}
use Rattle.std.proofs.lemmas.Bool.{cases_lt, le-leb, lt-leb}
use Rattle.tie_search.proofs.BranchLemmas.{branch-node, few-barren, found-answer, whole-barren, whole-winner}
use Rattle.tie_search.proofs.oracle.Oracle.ask.Goals as goal

pub returns-then-len-branch-clause-answer : goal.returns-then-len-branch-clause-answer
returns-then-len-branch-clause-answer g c =
    let oracle = c.args.self.now in
    few-barren (g.S.Tally.value_of oracle.search) (g.S.Tally.candidates oracle.search) oracle.k c.args.branch.now c.requires.branch
    (omega (arith, c.if-len-branch.true, c.len.ensures.count))

pub value-requires : goal.value-requires
value-requires g c = (branch-node (g.S.Tally.candidates c.args.self.now.search) c.args.self.now.k c.args.branch.now c.requires.branch).set_within

pub returns-then-branch-eq0-clause-answer : goal.returns-then-branch-eq0-clause-answer
returns-then-branch-eq0-clause-answer g c =
    let oracle = c.args.self.now in
    let value = g.S.Tally.value_of oracle.search in
    let m = g.S.Tally.candidates oracle.search in
    let branch = c.args.branch.now in
    let is = c.requires.branch in
    let whole = c.if-branch-eq0.true in
    rw c.then_some.ensures
    (elim (cases_lt c.value.result oracle.value) [
      | inl under ↦ rw (lt-leb oracle.value c.value.result under) (whole-barren value m oracle.k branch is whole (omega (arith, under, c.value.ensures, c.requires.knows.best_is)))
      | inr reaches ↦ rw (le-leb oracle.value c.value.result (omega (arith, reaches))) (whole-winner value m oracle.k branch is whole (omega (arith, reaches, c.value.ensures, c.requires.knows.best_is)))
    ])

pub find-requires : goal.find-requires
find-requires g c = record { is_node = branch-node (g.S.Tally.candidates c.args.self.now.search) c.args.self.now.k c.args.branch.now c.requires.branch }

pub returns-clause-answer : goal.returns-clause-answer
returns-clause-answer g c =
    let oracle = c.args.self.now in
    found-answer (g.S.Tally.value_of oracle.search) (g.S.Tally.candidates oracle.search) oracle.k c.args.branch.now c.requires.branch c.find.result
    (rw c.requires.knows.best_is at c.find.ensures)
