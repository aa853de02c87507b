use Rattle.std.proofs.Common.{rules, ◌∙◌}
use Rattle.preflib_text.proofs.MetadataLemmas.{digits_after-number}
use Rattle.preflib_text.proofs.metadata.written_number.Goals as goal

pub returns : goal.returns
returns c = c.digits_after.ensures ∙ digits_after-number c.args.text.now (search rules)
