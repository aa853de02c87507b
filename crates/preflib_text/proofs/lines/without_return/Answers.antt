use Rattle.std.proofs.Common.{arith, rules}
use Rattle.preflib_text.proofs.CutLemmas.{without_return-cut, without_return-kept, without_return-short}
use Rattle.preflib_text.proofs.lines.without_return.Goals as goal

pub returns-in-13 : goal.returns-in-13
returns-in-13 c = without_return-cut c.args.line.now (omega arith) (search rules)

pub returns-in_default : goal.returns-in_default
returns-in_default c = without_return-short c.args.line.now c.in_default.len_below

pub returns-in_default-2 : goal.returns-in_default-2
returns-in_default-2 c = without_return-kept c.args.line.now (λ e. absurd (omega arith))
