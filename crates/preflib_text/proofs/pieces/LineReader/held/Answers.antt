use Rattle.std.proofs.Common.{sym, ap, ◌∙◌, length}
use Rattle.preflib_text.specs.Pieces.{Feeding, unfinished_line}
use Rattle.preflib_text.proofs.PieceLemmas.{agrees_fed, none_is, held_length, held_within}
use Rattle.preflib_text.proofs.pieces.LineReader.held.Goals as goal

pub returns-clause-held : goal.returns-clause-held
returns-clause-held g c none =
    held_length _ _ _ _ _ _ (agrees_fed _ _ c.self.inside.progress.fault _ _ _ _ (none_is c.self.inside.progress.fault (sym c.if-is_some.ensures)) c.self.invariant.2)
    c.unmarked.result.now c.deref.result.now c.unmarked.ensures c.deref.ensures.value ∙ ap (λ (v : Feeding). length (unfinished_line v.fed)) c.self.view_is

pub returns-clause-most : goal.returns-clause-most
returns-clause-most g c =
    held_within _ _ _ _ _ _ (agrees_fed _ _ c.self.inside.progress.fault _ _ _ _ (none_is c.self.inside.progress.fault (sym c.if-is_some.ensures)) c.self.invariant.2)
    c.unmarked.result.now c.deref.result.now c.unmarked.ensures c.deref.ensures.value
