use Rattle.std.proofs.Common.{arith}
use Rattle.preflib_text.proofs.NoteLemmas.{metadata_line}
use Rattle.preflib_text.proofs.notes.Notes.take_line.Goals as goal

pub returns-in-Metadata-clause-line : goal.returns-in-Metadata-clause-line
returns-in-Metadata-clause-line c =
    metadata_line c.args.pick.now c.args.self.now c.take_told.new.self c.args.line.now _ c.take_told.result c.told_of.ensures (grind arith) c.in-Metadata.ensures.0 (grind arith) c.requires.notes c.take_told.ensures.told
