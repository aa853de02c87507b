use Rattle.std.proofs.Common.{◌+◌, take}
use Rattle.std.proofs.lemmas.List.{take_more}
use Rattle.request_words.specs.Steps.Commands.{IsCommandOf}
use Rattle.request_words.proofs.CommandLemmas.{made_next}
use Rattle.request_words.proofs.commands.commands.Goals as goal

pub loop-row-preserved : goal.loop-row-preserved
loop-row-preserved c =
    let at = c.loop-row in
    let rows = c.args.rows.now in
    let more = take_more rows at.row-index _ c.loop-row-test.true in
    made_next IsCommandOf (take at.row-index rows) (take (at.row-index + 1) rows) at.commands.items _ _ c.in_ok-command.field-0 more
    c.in_ok-push.ensures.items at.invariant c.in_ok-command.ensures
