use Rattle.std.proofs.Common.{arith}
use Rattle.preflib_text.proofs.CutLemmas.{ballot_line, blank_line}
use Rattle.preflib_text.proofs.lines.sort_of.Goals as goal

pub returns-in-empty : goal.returns-in-empty
returns-in-empty c = blank_line c.args.line.now c.trim_start.result.now c.trim_start.ensures c.in-empty.len_below

pub returns-in_default : goal.returns-in_default
returns-in_default c = ballot_line c.args.line.now c.trim_start.result.now c.trim_start.ensures c.in_default.len_at_least (λ e. absurd (omega arith))
