use Rattle.std.proofs.Common.{◌≡◌, ◌≤◌, length}
use Rattle.preflib_text.specs.Steps.Tokens.{tokens_of}
use Rattle.preflib_text.proofs.ballot.next_token.Given as goal

abbrev pub invariant-loop-rest : goal.invariant-loop-rest
invariant-loop-rest l = (tokens_of l.rest ≡ tokens_of l.text) × (length l.rest ≤ length l.text)

abbrev pub decreases-loop-rest : goal.decreases-loop-rest
decreases-loop-rest l = length l.rest
