use Rattle.std.proofs.Common.{inl, sym, subst}
use Rattle.preflib_text.specs.Steps.Pieces.{IsFed}
use Rattle.preflib_text.proofs.ReadLemmas.{if_ok, if_err, finished-ok, finished-fault}
use Rattle.preflib_text.proofs.pieces.finish_lines.Goals as goal

pub end_input-requires-clause-fed : goal.end_input-requires-clause-fed
end_input-requires-clause-fed g c =
    let ended = c.args.progress.ended in
    subst (λ l. IsFed c.args.pick.now c.args.fed.now.bytes ended.notes ended.builder ended.number l) (sym c.deref.ensures.value) c.requires.fed

pub returns-clause-ok : goal.returns-clause-ok
returns-clause-ok g c = if_ok c.finish.result _ _ _ c.finish.ensures (λ profile h. finished-ok c.args.pick.now c.args.fed.now.bytes _ _ c.in_ok-end_input.ensures.ok.0 c.in_ok-end_input.ensures.ok.1 profile h.0 h.1)

pub returns-clause-err : goal.returns-clause-err
returns-clause-err g c = if_err c.finish.result _ _ _ c.finish.ensures (λ fault h. inl (finished-fault c.args.pick.now c.args.fed.now.bytes _ _ c.in_ok-end_input.ensures.ok.0 c.in_ok-end_input.ensures.ok.1 fault h.0 h.1))
