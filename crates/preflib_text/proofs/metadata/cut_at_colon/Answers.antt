use Rattle.preflib_text.proofs.MetadataLemmas.{colon_at, no_colon}
use Rattle.preflib_text.proofs.metadata.cut_at_colon.Goals as goal

pub returns-in_err-at : goal.returns-in_err-at
returns-in_err-at c = rw c.from_residual.ensures (no_colon c.args.text.now c.in_err-at.ensures)

pub returns : goal.returns
returns c = colon_at c.args.text.now c.in_ok-at.at c.in_ok-at.ensures.0.high c.in_ok-at.ensures.1 c.in_ok-at.ensures.0.before
