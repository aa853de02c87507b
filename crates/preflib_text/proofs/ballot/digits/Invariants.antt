use Rattle.std.proofs.Common.{◌≡◌, ℕ, ◌≤◌, length, Some}
use Rattle.preflib_text.specs.Steps.Tokens.{tokens_after, capped}
use Rattle.preflib_text.proofs.ballot.digits.Given as goal

abbrev pub invariant-loop-rest : goal.invariant-loop-rest
invariant-loop-rest l =
    (n : ℕ) × (l.value ≡ capped n) × (tokens_after (Some n) l.rest ≡ tokens_after (Some l.fn.first) l.text) × (length l.rest ≤ length l.text)

abbrev pub decreases-loop-rest : goal.decreases-loop-rest
decreases-loop-rest l = length l.rest
