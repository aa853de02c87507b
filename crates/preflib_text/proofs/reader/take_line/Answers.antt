use Rattle.preflib_text.proofs.NoteLemmas.{may_come}
use Rattle.preflib_text.proofs.reader.take_line.Goals as goal

pub apply-requires : goal.apply-requires
apply-requires g c = may_come c.args.notes.now c.args.builder.now _ c.requires.ready.sound c.requires.ready.opened c.requires.ready.begun c.in-Ok.ensures.proper
