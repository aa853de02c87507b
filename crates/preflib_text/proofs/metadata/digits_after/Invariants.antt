use Rattle.std.proofs.Common.{◌≡◌, length}
use Rattle.preflib_text.specs.Steps.Tokens.{capped}
use Rattle.preflib_text.specs.Steps.Tells.{digits_after}
use Rattle.preflib_text.proofs.metadata.digits_after.Given as goal

abbrev pub invariant-loop-rest : goal.invariant-loop-rest
invariant-loop-rest l = (l.value ≡ capped l.value) × (digits_after l.value l.rest ≡ digits_after l.fn.first l.fn.text)

abbrev pub decreases-loop-rest : goal.decreases-loop-rest
decreases-loop-rest l = length l.rest
