use Rattle.std.proofs.Common.{arith, rules, ◌++◌}
use Rattle.std.proofs.lemmas.Grind.{common_steps}
use Rattle.preflib_text.proofs.PieceLemmas.{long_refusal}
use Rattle.preflib_text.proofs.pieces.Progress.end_line.Goals as goal

pub returns-in_err-hold-clause-err : goal.returns-in_err-hold-clause-err
returns-in_err-hold-clause-err g c =
    let refused = long_refusal c.args.pick.now c.args.self.now.ended.notes c.args.self.now.ended.builder c.args.self.now.ended.number (c.args.self.now.held.items ++ c.args.bytes.now) c.in_err-hold.field-0.0 c.in_err-hold.ensures.err.0 c.in_err-hold.ensures.err.1 in
    search rules

pub returns-then-is_empty-clause-err : goal.returns-then-is_empty-clause-err
returns-then-is_empty-clause-err g c = grind (arith, common_steps)

pub returns-then-is_empty-clause-ok : goal.returns-then-is_empty-clause-ok
returns-then-is_empty-clause-ok g c = grind (arith, common_steps)

pub returns-then-is_empty-clause-held : goal.returns-then-is_empty-clause-held
returns-then-is_empty-clause-held g c = grind (arith, common_steps)
