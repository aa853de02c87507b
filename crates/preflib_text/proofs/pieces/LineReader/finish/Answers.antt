use Rattle.std.proofs.Common.{◌⊎◌, Ok, Err, IfOk, IfErr, subst}
use Rattle.preflib_text.specs.Lines.{lines_of}
use Rattle.preflib_text.specs.Reading.{Reads}
use Rattle.preflib_text.specs.Pieces.{Feeding, LacksMemory}
use Rattle.preflib_text.proofs.PieceLemmas.{agrees_fed, every_fed}
use Rattle.preflib_text.proofs.pieces.LineReader.finish.Goals as goal

pub returns-in-Some-clause-err : goal.returns-in-Some-clause-err
returns-in-Some-clause-err g c =
    subst (λ (v : Feeding). Reads v.fed v.pick (Err c.in-Some.fault) ⊎ LacksMemory (lines_of v.fed) v.pick c.in-Some.fault) c.self.view_is
    (every_fed c.self.inside.pick c.self.inside.fed.bytes c.self.inside.progress.fault c.in-Some.fault _ _ _ _ c.in-Some.is c.self.invariant.2)

pub returns-clause-ok : goal.returns-clause-ok
returns-clause-ok g c = subst (λ (v : Feeding). IfOk c.finish_lines.result (λ profile. Reads v.fed v.pick (Ok profile))) c.self.view_is c.finish_lines.ensures.ok

pub returns-clause-err : goal.returns-clause-err
returns-clause-err g c =
    subst (λ (v : Feeding). IfErr c.finish_lines.result (λ fault. Reads v.fed v.pick (Err fault) ⊎ LacksMemory (lines_of v.fed) v.pick fault)) c.self.view_is c.finish_lines.ensures.err

pub finish_lines-requires-clause-fed : goal.finish_lines-requires-clause-fed
finish_lines-requires-clause-fed g c =
    agrees_fed _ _ c.self.inside.progress.fault _ _ _ _ c.in_default.is c.self.invariant.2
