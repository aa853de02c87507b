use Rattle.std.proofs.Common.{take}
use Rattle.request_words.specs.Steps.Commands.{AreMade, IsCommandOf}
use Rattle.request_words.proofs.commands.commands.Given as goal

-- the commands of the rows that were passed
abbrev pub invariant-loop-row : goal.invariant-loop-row
invariant-loop-row l = AreMade IsCommandOf (take l.row-index l.rows) l.commands.items
