use Rattle.preflib_text.proofs.ReadLemmas.{ready}
use Rattle.std.proofs.lemmas.Result.{on_ok_weaker, IfErr-weaker}
use Rattle.std.proofs.Common.{arith, sym, ◌∙◌}
use Rattle.preflib_text.proofs.PieceLemmas.{input_ended, input_count, input_read, input_refused}
use Rattle.preflib_text.proofs.pieces.EndedLines.end_input.Goals as goal

pub returns-then-is_empty-clause-ok : goal.returns-then-is_empty-clause-ok
returns-then-is_empty-clause-ok g c = input_ended _ _ _ _ _ _ c.requires.fed c.unmarked.result.now c.unmarked.ensures (sym c.is_empty.ensures ∙ c.if-is_empty.true)

pub take-requires-clause-ready : goal.take-requires-clause-ready
take-requires-clause-ready g c = ready _ _ _ _ c.requires.fed.after

pub take-requires-clause-number : goal.take-requires-clause-number
take-requires-clause-number g c =
    let count = input_count _ _ _ _ _ _ c.requires.fed c.unmarked.result.now c.unmarked.ensures (sym c.is_empty.ensures ∙ c.if-is_empty.false) in
    omega (arith, count, c.requires.length)

pub returns-clause-ok : goal.returns-clause-ok
returns-clause-ok g c = on_ok_weaker c.take.result (λ read. input_read _ _ _ _ _ _ c.requires.fed c.unmarked.result.now c.unmarked.ensures (sym c.is_empty.ensures ∙ c.if-is_empty.false) _ _ read) c.take.ensures.ok

pub returns-clause-err : goal.returns-clause-err
returns-clause-err g c = IfErr-weaker c.take.result _ _ (λ fault refused. input_refused _ _ _ _ _ _ c.requires.fed c.unmarked.result.now c.unmarked.ensures (sym c.is_empty.ensures ∙ c.if-is_empty.false) fault refused) c.take.ensures.err
