use Rattle.std.proofs.Common.{arith}
use Rattle.minimax_search.proofs.rows.WeighedRows.row.Goals as goal

pub returns-in-Some : goal.returns-in-Some
returns-in-Some g c = omega (arith, c.requires, c.min.ensures)
