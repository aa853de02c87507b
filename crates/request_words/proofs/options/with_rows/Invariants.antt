use Rattle.std.proofs.Common.{take}
use Rattle.request_words.specs.Steps.Commands.{AddsArguments}
use Rattle.request_words.proofs.options.with_rows.Given as goal

-- the arguments of the rows that were passed are added
abbrev pub invariant-loop-row : goal.invariant-loop-row
invariant-loop-row l = AddsArguments (take l.row-index l.rows) l.initial.arguments.items l.arguments.items
