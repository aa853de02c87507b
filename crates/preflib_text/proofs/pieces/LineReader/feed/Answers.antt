use Rattle.std.proofs.Common.{◌≡◌, ◌++◌, sym, ap, subst, ◌∙◌, append-nil}
use Rattle.preflib_text.specs.Pieces.{feeding, IsTrue}
use Rattle.preflib_text.proofs.ReadLemmas.{if_err}
use Rattle.preflib_text.proofs.PieceLemmas.{agrees_true, every_more, nothing_new}
use Rattle.preflib_text.proofs.pieces.LineReader.feed.Goals as goal

pub returns-clause-told : goal.returns-clause-told
returns-clause-told g c =
    subst (λ l. IsTrue (feeding c.self.inside.pick l c.feed-answer.new.self.fault)) (sym c.add.ensures)
    (agrees_true c.self.inside.pick (c.self.inside.fed.bytes ++ c.args.bytes.now) c.feed-answer.new.self.fault _ _ _ _ c.feed-answer.ensures.agrees)

pub returns-clause-every : goal.returns-clause-every
returns-clause-every g c =
    if_err c.feed-answer.result _ _ _ c.feed-answer.ensures.answer (λ fault is.
    every_more c.self.inside.pick c.add.new.self.bytes c.feed-answer.new.self.fault fault is (
    subst (λ l. IsTrue (feeding c.self.inside.pick l c.feed-answer.new.self.fault)) (sym c.add.ensures)
    (agrees_true c.self.inside.pick (c.self.inside.fed.bytes ++ c.args.bytes.now) c.feed-answer.new.self.fault _ _ _ _ c.feed-answer.ensures.agrees)))

pub returns-clause-nothing : goal.returns-clause-nothing
returns-clause-nothing g c none =
    let pick = c.self.inside.pick in
    let before = c.self.inside.fed.bytes in
    let next = c.feed-answer.new.self.fault in
    let same : before ++ c.args.bytes.now ≡ before = ap (λ l. before ++ l) none ∙ append-nil before in
    let holds = agrees_true pick (before ++ c.args.bytes.now) next _ _ _ _ c.feed-answer.ensures.agrees in
    let fault : next ≡ c.self.inside.progress.fault = nothing_new pick before c.self.inside.progress.fault next _ _ _ _ c.self.invariant.2
    (subst (λ l. IsTrue (feeding pick l next)) same holds) c.feed-answer.ensures.again c.feed-answer.ensures.late in
    ap (λ l. feeding pick l next) (c.add.ensures ∙ same) ∙ ap (feeding pick before) fault ∙ c.self.view_is
