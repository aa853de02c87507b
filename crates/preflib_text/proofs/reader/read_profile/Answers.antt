use Rattle.std.proofs.Common.{sym, inl}
use Rattle.preflib_text.proofs.ReadLemmas.{at_start, at_next, at_fault, at_last, finished-ok, finished-fault, ready, if_ok, if_err, without_memory}
use Rattle.preflib_text.proofs.reader.read_profile.Goals as goal

pub returns-in_default-clause-err : goal.returns-in_default-clause-err
returns-in_default-clause-err g c = without_memory c.args.pick.now c.args.bytes.now c.without_mark-rest.result.now _ c.without_mark-rest.ensures c.fault_without_memory.ensures.none c.fault_without_memory.ensures.some

pub loop-rest-init : goal.loop-rest-init
loop-rest-init g c = at_start c.args.pick.now c.args.bytes.now c.without_mark-rest.result.now _ _ c.without_mark-rest.ensures c.new-notes.ensures c.in-Ok.ensures

pub returns-in-Err-clause-err : goal.returns-in-Err-clause-err
returns-in-Err-clause-err g c =
    at_fault c.args.pick.now c.args.bytes.now c.loop-rest.rest.now c.first_line-cut.result.line.now c.first_line-cut.result.rest.now _ _ c.loop-rest.number c.loop-rest.invariant c.first_line-cut.ensures.line c.in-Err.name c.in-Err.ensures.err _ c.fault_of_line.ensures

pub loop-rest-preserved : goal.loop-rest-preserved
loop-rest-preserved g c =
    at_next c.args.pick.now c.args.bytes.now c.loop-rest.rest.now c.first_line-cut.result.line.now c.first_line-cut.result.rest.now _ _ c.loop-rest.number c.loop-rest.invariant c.first_line-cut.ensures.line _ _ c.first_line-cut.ensures.shorter c.in_default-take_line.ensures.ok

pub returns-clause-ok : goal.returns-clause-ok
returns-clause-ok g c =
    if_ok c.finish.result _ _ _ c.finish.ensures (λ profile h.
    let (fine, after) = at_last c.args.pick.now c.args.bytes.now c.loop-rest.rest.now _ _ c.loop-rest.number c.loop-rest.invariant (sym c.loop-rest-test.ensures) in
    finished-ok c.args.pick.now c.args.bytes.now c.loop-rest.notes c.loop-rest.builder fine after profile h.0 h.1)

pub returns-clause-err : goal.returns-clause-err
returns-clause-err g c =
    if_err c.finish.result _ _ _ c.finish.ensures (λ fault h.
    let (fine, after) = at_last c.args.pick.now c.args.bytes.now c.loop-rest.rest.now _ _ c.loop-rest.number c.loop-rest.invariant (sym c.loop-rest-test.ensures) in
    inl (finished-fault c.args.pick.now c.args.bytes.now c.loop-rest.notes c.loop-rest.builder fine after fault h.0 h.1))

pub take_line-requires-clause-ready : goal.take_line-requires-clause-ready
take_line-requires-clause-ready g c = ready _ _ _ _ c.loop-rest.invariant.after
