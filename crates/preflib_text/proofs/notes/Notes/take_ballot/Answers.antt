use Rattle.std.proofs.Common.{refl, rules}
use Rattle.preflib_text.proofs.NoteLemmas.{ballot-refused, ballot-taken}
use Rattle.preflib_text.proofs.notes.Notes.take_ballot.Goals as goal

pub returns-in_err-ballot-clause-ballot : goal.returns-in_err-ballot-clause-ballot
returns-in_err-ballot-clause-ballot c =
    let refused = ballot-refused c.args.pick.now c.args.self.now c.in-Some.m c.in_ok-kind.kind c.args.line.now c.in_err-ballot.field-0.0 c.in-Some.is c.in_ok-kind.was (search rules) c.in_err-ballot.ensures.err in
    search rules

pub returns-clause-ballot : goal.returns-clause-ballot
returns-clause-ballot c =
    let (fine, effect) = ballot-taken c.args.pick.now c.args.self.now c.in-Some.m c.in_ok-kind.kind c.args.line.now c.in_ok-ballot.ballot.count c.in_ok-ballot.ballot.approved c.then_some-first.result c.then_some-first.ensures c.in-Some.is c.in_ok-kind.was (search rules) c.in_ok-ballot.ensures.ok in
    (fine, refl, effect)
