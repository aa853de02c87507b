use Rattle.std.proofs.Common.{◌≡◌, length}
use Rattle.std.specs.Prelude.{option_map}
use Rattle.std.specs.Option.{option_or}
use Rattle.request_words.specs.Endings.{after_last}
use Rattle.request_words.proofs.ending.after_last.Given as goal

-- a later byte counts before the last one so far
abbrev pub invariant-loop-rest : goal.invariant-loop-rest
invariant-loop-rest l = after_last l.fn.byte l.fn.text ≡ option_or (after_last l.fn.byte l.rest) (option_map (λ s. s.now) l.found)

abbrev pub decreases-loop-rest : goal.decreases-loop-rest
decreases-loop-rest l = length l.rest
