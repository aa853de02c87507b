use Rattle.std.proofs.Common.{◌≡◌, ℕ, List, sym, subst}
use Rattle.preflib_text.specs.declared.pick.Kind.{Kind}
use Rattle.preflib_text.specs.declared.pick.Way.{Way}
use Rattle.preflib_text.specs.declared.approvals.Taking.{Taking}
use Rattle.preflib_text.specs.declared.approvals.Marks.{Marks}
use Rattle.preflib_text.specs.Steps.Marks.{taking_of}
use Rattle.preflib_text.specs.Steps.Answers.{HasMarks}
use Rattle.preflib_text.proofs.BallotLines.{none_read, fault_read, good_read, set_read}
use Rattle.preflib_text.proofs.ballot.read_ballot.Goals as goal

-- the marks of what the way takes
given : (m : ℕ) (kind : Kind) (way : Way) (taking : Taking) (line : List ℕ) (count : ℕ) (marks : Marks) → taking ≡ taking_of kind way → HasMarks m taking line count marks → HasMarks m (taking_of kind way) line count marks
given m kind way taking line count marks is has = subst (λ t. HasMarks m t line count marks) is has

pub returns-in_default-clause-err : goal.returns-in_default-clause-err
returns-in_default-clause-err c =
    none_read c.args.header.kind c.args.header.m c.args.header.categories c.args.way c.args.line.now c.in_default.ensures

pub returns-in-Some-fault-clause-err : goal.returns-in-Some-fault-clause-err
returns-in-Some-fault-clause-err c =
    fault_read c.args.header.kind c.args.header.m c.args.header.categories c.args.way c.args.line.now c.in-Some.count c.in-Some.marks c.in-Some-fault.fault (given c.args.header.m c.args.header.kind c.args.way c.new.result c.args.line.now _ _ c.new.ensures c.in-Some.ensures) (sym c.in-Some-fault.ensures)

pub returns-in-None-clause-ok : goal.returns-in-None-clause-ok
returns-in-None-clause-ok c =
    good_read c.args.header.kind c.args.header.m c.args.header.categories c.args.way c.args.line.now c.in-Some.count c.in-Some.marks c.requires (given c.args.header.m c.args.header.kind c.args.way c.new.result c.args.line.now _ _ c.new.ensures c.in-Some.ensures) (sym c.in-None.ensures)

pub returns-in-None-clause-candidates : goal.returns-in-None-clause-candidates
returns-in-None-clause-candidates c =
    set_read c.args.header.kind c.args.header.m c.args.header.categories c.args.way c.args.line.now c.in-Some.count c.in-Some.marks (given c.args.header.m c.args.header.kind c.args.way c.new.result c.args.line.now _ _ c.new.ensures c.in-Some.ensures)
