use Rattle.std.proofs.Common.{◌+◌, [], append-nil, subst, sym, take}
use Rattle.std.proofs.lemmas.List.{take_more}
use Rattle.request_words.specs.Steps.Commands.{AddsArguments}
use Rattle.request_words.proofs.CommandLemmas.{row_added}
use Rattle.request_words.proofs.options.with_rows.Goals as goal

pub loop-row-init : goal.loop-row-init
loop-row-init c = ([], sym (append-nil _), tt)

pub loop-row-preserved : goal.loop-row-preserved
loop-row-preserved c =
    let at = c.loop-row in
    let rows = c.args.rows.now in
    let more = take_more rows at.row-index _ c.loop-row-test.true in
    subst (AddsArguments (take (at.row-index + 1) rows) c.reserve.new.self.items) (sym c.in_ok-push.ensures.items)
    (row_added (take at.row-index rows) (take (at.row-index + 1) rows) c.reserve.new.self.items at.arguments.items _ c.argument.result more at.invariant c.argument.ensures)
