use Rattle.std.proofs.Common.{sym}
use Rattle.preflib_text.proofs.NoteLemmas.{no_lines}
use Rattle.preflib_text.proofs.reader.fault_without_memory.Goals as goal

pub returns-then-is_empty-clause-some : goal.returns-then-is_empty-clause-some
returns-then-is_empty-clause-some c = λ line lines is. no_lines c.args.text.now line lines (sym c.if-is_empty.ensures) is
