use Rattle.std.proofs.Common.{◌∙◌, arith, rules}
use Rattle.preflib_text.proofs.CutLemmas.{trim_end-blank, trim_end-kept, trim_end-short}
use Rattle.preflib_text.proofs.lines.trim.Goals as goal

pub loop-rest-preserved : goal.loop-rest-preserved
loop-rest-preserved c = trim_end-blank c.loop-rest.rest.now (omega arith) (search rules) ∙ c.loop-rest.invariant

pub returns-in_default : goal.returns-in_default
returns-in_default c = trim_end-short c.loop-rest.rest.now c.in_default.len_below ∙ c.loop-rest.invariant

pub returns-in_default-2 : goal.returns-in_default-2
returns-in_default-2 c = trim_end-kept c.loop-rest.rest.now (omega arith) (search rules) ∙ c.loop-rest.invariant
