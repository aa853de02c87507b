use Rattle.tie_search.specs.declared.branch_list.BranchList.{BranchList}
use Rattle.tie_search.proofs.BranchLemmas.{branch-node}
use Rattle.tie_search.proofs.ListLemmas.{all-within, same-within}
use Rattle.tie_search.proofs.branch_list.BranchList.fill.Goals as goal

pub completions-requires : goal.completions-requires
completions-requires g c = record { is_node = branch-node (g.S.Tally.candidates c.args.oracle.now.search) c.args.oracle.now.k c.args.branch.now c.requires.branch }

pub returns-in-Some : goal.returns-in-Some
returns-in-Some g c =
    let oracle = c.args.oracle.now in
    let value = g.S.Tally.value_of oracle.search in
    let class = g.S.WithClones.class_of oracle.search in
    let m = g.S.Tally.candidates oracle.search in
    let made : BranchList = record { within = c.args.branch.now; winners = c.in-Some.winners; most_left = 0; due = 0; found = 0; questions = 0 } in
    record {
      listed = same-within value class m oracle.k made c.note_found.new.self c.note_found.ensures.within c.note_found.ensures.winners
          (all-within value class m oracle.k made c.requires.branch (rw c.requires.knows.best_is at c.in-Some.ensures));
    }

pub returns-in-None : goal.returns-in-None
returns-in-None g c =
    let oracle = c.args.oracle.now in
    record {
      listed = same-within (g.S.Tally.value_of oracle.search) (g.S.WithClones.class_of oracle.search) (g.S.Tally.candidates oracle.search) oracle.k c.args.self.now c.note_given_up.new.self
          c.note_given_up.ensures.within c.note_given_up.ensures.winners c.requires.listed;
    }
